-- A function that is listed already walks to its reference and adds nothing.
use Rattle.std.proofs.Common.{◌≡◌, ℕ, zero, suc, ◌+◌, ◌-◌, ◌<◌, ◌≤◌, Bool, true, false, eqb, leb, List, [], ◌∷◌, ◌++◌, length, get_or, sym, refl, ap, ◌∙◌, subst, ⊎_elim, arith}
use Rattle.std.proofs.lemmas.List.{get_or_append_left, get_or_push, length_push}
use Rattle.std.proofs.lemmas.Bool.{cond-true, cond-false, cond_both, cases_lt, cases_Bool, and_parts, lt-ltb, le-ltb, leb-true, eq-eqb, ne_eqb, eqb-true, eqb-false}
use Rattle.diagram.specs.declared.conditions.Condition.{Condition}
use Rattle.diagram.specs.declared.conditions.Condition.TheVariants.{Before, After}
use Rattle.diagram.specs.declared.nodes.Node.{Node}
use Rattle.diagram.specs.Lawful.{blank, named, names, Lawful}
use Rattle.diagram.specs.Order.{level, exists}
use Rattle.diagram.specs.Reads.{tests, descend, reach}
use Rattle.reduction.specs.Listed.{Same, index, listed}
use Rattle.reduction.specs.Walk.{condition_at, same_node, Made, node_for, link, walk, reduced}
use Rattle.reduction.specs.Canonical.{both, Distinct, Parted}
use Rattle.reduction.proofs.Interning.{missed, index_unique, listed_cases}
use Rattle.reduction.proofs.Levels.{node_sameness}
use Rattle.reduction.proofs.Growth.{node_within, descend_named, descend_above, exists_named, reach_ends}
use Rattle.reduction.proofs.Walked.{Stands, walk_stands}

-- m's lists with another root
abbrev pub at_root : {X : Type 0} → Made X → ℕ → Made X
at_root m r = record { root = r; leaves = m.leaves; nodes = m.nodes }

condition_back : (n : ℕ) (c : Condition) → exists (both n) c ≡ true → condition_at n (level n c) ≡ c
condition_back n (Before b) h =
    cond-false _ _ _ (le-ltb (n + b.0) n (omega arith)) ∙ ap (λ i. Before (record { 0 = i })) {x = n + b.0 - n} {y = b.0} (omega arith)
condition_back n (After a) h = cond-true _ _ _ h

module _ {X : Type 0} (eq : X → X → Bool) (same : Same eq) where
  pub listed_old : (xs : List X) (x : X) → index eq xs x < length xs → listed eq xs x ≡ xs
  listed_old xs x l = cond-true _ _ _ (lt-ltb (index eq xs x) (length xs) l)

  pub listed_distinct : (xs : List X) (x : X) → Distinct eq xs → Distinct eq (listed eq xs x)
  listed_distinct xs x apart =
      listed_cases eq same xs x (Distinct eq) (λ _. apart)
      (λ e i j d l m.
      ⊎_elim (λ old. ap (λ z. eq z (get_or (xs ++ x ∷ []) j d)) (get_or_append_left xs (x ∷ []) d i (omega arith)) ∙ ap (eq (get_or xs i d)) (get_or_append_left xs (x ∷ []) d j old) ∙ apart i j d l old)
      (λ end.
      let last : length xs ≡ j = omega (arith, length_push xs x) in
      ap (λ z. eq z (get_or (xs ++ x ∷ []) j d)) (get_or_append_left xs (x ∷ []) d i (omega arith)) ∙ ap (eq (get_or xs i d)) (get_or_push xs x d j last) ∙ missed eq same xs x d i (omega arith))
      (cases_lt j (length xs)))

module _ {X : Type 0} (eq : X → X → Bool) (same : Same eq) (n : ℕ) where
  pub record Tidy (ls : List X) (ns : List Node) : Type 0 where
    pub leaves_apart : Distinct eq ls
    pub nodes_apart : Distinct same_node ns
    pub parted : Parted ns

  parted_listed : (ns : List Node) (x : Node) → Parted ns → (x.one ≡ x.zero → ⊥) → Parted (listed same_node ns x)
  parted_listed ns x p off =
      listed_cases same_node node_sameness ns x Parted (λ _. p)
      (λ _ j l e.
      ⊎_elim (λ old. p j old (subst (λ z. z.one ≡ z.zero) (get_or_append_left ns (x ∷ []) blank j old) e))
      (λ end. let last : length ns ≡ j = omega (arith, length_push ns x) in off (subst (λ z. z.one ≡ z.zero) (get_or_push ns x blank j last) e)) (cases_lt j (length ns)))

  link_tidy : (k r : ℕ) (m : Made X) → Tidy m.leaves m.nodes → Tidy (link n k r m).leaves (link n k r m).nodes
  link_tidy k r m t =
      cond_both (eqb r m.root) m _ (λ z. Tidy z.leaves z.nodes) (λ _. t)
      (λ off.
      record {
        leaves_apart = t.leaves_apart;
        nodes_apart = listed_distinct same_node node_sameness m.nodes (node_for n k r m.root) t.nodes_apart;
        parted = parted_listed m.nodes (node_for n k r m.root) t.parted (eqb-false r m.root off);
      })

  pub walk_tidy : (L k : ℕ) (f : List Bool → X) (ls : List X) (ns : List Node) → Tidy ls ns → Tidy (walk eq n L k f ls ns).leaves (walk eq n L k f ls ns).nodes
  unfolding walk
  walk_tidy zero k f ls ns t = record { leaves_apart = listed_distinct eq same ls (f []) t.leaves_apart; nodes_apart = t.nodes_apart; parted = t.parted }
  walk_tidy (suc L) k f ls ns t =
      let one = walk eq n L (suc k) (λ bs. f (true ∷ bs)) ls ns in
      link_tidy k one.root (walk eq n L (suc k) (λ bs. f (false ∷ bs)) one.leaves one.nodes)
      (walk_tidy L (suc k) (λ bs. f (false ∷ bs)) one.leaves one.nodes (walk_tidy L (suc k) (λ bs. f (true ∷ bs)) ls ns t))

  -- one half of a function that stands in the table stands there too
  pub half : (L k : ℕ) (f : List Bool → X) (m : Made X) → Stands eq same n (suc L) k f m → (b : Bool) → Stands eq same n L (suc k) (λ bs. f (b ∷ bs)) (at_root m (descend n m.nodes k b m.root))
  unfolding reach
  half L k f m st b =
      record {
        lawful = st.lawful;
        rooted = descend_named n (length m.leaves) m.nodes st.lawful k b m.root st.rooted;
        above = descend_above n (length m.leaves) m.nodes st.lawful k b m.root st.rooted st.above;
        reads = λ bs long d. st.reads (b ∷ bs) (omega arith) d;
      }

  -- the two halves link to the root they come from
  module _ (k : ℕ) (m : Made X) (t : Tidy m.leaves m.nodes) (lawful : Lawful (both n) (length m.leaves) m.nodes) (rooted : names (length m.leaves) (length m.nodes) m.root ≡ true) where
    abbrev r : ℕ
    r = m.root

    abbrev x : Node
    x = named m.nodes r

    abbrev relink : ℕ → ℕ → Made X
    relink r₁ r₀ = link n k r₁ (at_root m r₀)

    untouched : relink r r ≡ m
    untouched = cond-true _ _ _ (eq-eqb r r refl)

    rejoined : 65536 ≤ r → level n x.condition ≡ k → relink x.one x.zero ≡ m
    rejoined large at =
        let within = node_within (length m.leaves) (length m.nodes) r rooted large in
        let c : condition_at n k ≡ x.condition = ap (condition_at n) (sym at) ∙ condition_back n x.condition (exists_named n (length m.leaves) m.nodes lawful r rooted large) in
        let is : node_for n k x.one x.zero ≡ x = λ i. record { condition = c i; one = x.one; zero = x.zero } in
        let place : index same_node m.nodes x ≡ r - 65536 = index_unique same_node node_sameness m.nodes x blank (r - 65536) t.nodes_apart within refl in
        let list : listed same_node m.nodes x ≡ m.nodes = listed_old same_node node_sameness m.nodes x (omega arith) in
        let root : 65536 + index same_node m.nodes x ≡ r = omega arith in
        cond-false _ _ _ (ne_eqb x.one x.zero (t.parted (r - 65536) within))
        ∙ ap (λ y. record { root = 65536 + index same_node m.nodes y; leaves = m.leaves; nodes = listed same_node m.nodes y }) is ∙ (λ i. record { root = root i; leaves = m.leaves; nodes = list i })

    relinked : relink (descend n m.nodes k true r) (descend n m.nodes k false r) ≡ m
    relinked =
        ⊎_elim
        (λ hit.
        let p = and_parts (leb 65536 r) (eqb (level n x.condition) k) hit in
        ap (λ z. relink z (descend n m.nodes k false r)) (cond-true _ _ _ hit) ∙ ap (relink x.one) (cond-true _ _ _ hit) ∙ rejoined (leb-true 65536 r p.0) (eqb-true (level n x.condition) k p.1))
        (λ quiet. ap (λ z. relink z (descend n m.nodes k false r)) (cond-false _ _ _ quiet) ∙ ap (relink r) (cond-false _ _ _ quiet) ∙ untouched)
        (cases_Bool (tests n m.nodes k r))

  pub again : (L k : ℕ) (f : List Bool → X) (m : Made X) → k + L ≡ n + n → Tidy m.leaves m.nodes → Stands eq same n L k f m → walk eq n L k f m.leaves m.nodes ≡ m
  unfolding walk reach
  again zero k f m ends t st =
      let leaf = reach_ends n (length m.leaves) m.nodes st.lawful [] k m.root (omega arith) st.rooted st.above in
      let place : index eq m.leaves (f []) ≡ m.root = index_unique eq same m.leaves (f []) (f []) m.root t.leaves_apart leaf.0 (st.reads [] refl (f [])) in
      let list : listed eq m.leaves (f []) ≡ m.leaves = listed_old eq same m.leaves (f []) (omega (arith, leaf.0)) in
      λ i. record { root = place i; leaves = list i; nodes = m.nodes }
  again (suc L) k f m ends t st =
      let r₁ = descend n m.nodes k true m.root in
      let r₀ = descend n m.nodes k false m.root in
      let one : walk eq n L (suc k) (λ bs. f (true ∷ bs)) m.leaves m.nodes ≡ at_root m r₁ = again L (suc k) (λ bs. f (true ∷ bs)) (at_root m r₁) (omega arith) t (half L k f m st true) in
      let nil : walk eq n L (suc k) (λ bs. f (false ∷ bs)) m.leaves m.nodes ≡ at_root m r₀ = again L (suc k) (λ bs. f (false ∷ bs)) (at_root m r₀) (omega arith) t (half L k f m st false) in
      ap (λ z. link n k z.root (walk eq n L (suc k) (λ bs. f (false ∷ bs)) z.leaves z.nodes)) one ∙ ap (link n k r₁) nil ∙ relinked k m t st.lawful st.rooted

  pub nothing : Tidy [] []
  nothing = record { leaves_apart = λ i j d l m. absurd (omega arith); nodes_apart = λ i j d l m. absurd (omega arith); parted = λ j l e. absurd (omega arith) }

  pub same_again : (f : List Bool → X) → length (reduced eq n f).leaves ≤ 65536 → walk eq n (n + n) 0 f (reduced eq n f).leaves (reduced eq n f).nodes ≡ reduced eq n f
  same_again f few = again (n + n) 0 f (reduced eq n f) (omega arith) (walk_tidy (n + n) 0 f [] [] nothing) (walk_stands eq same n (n + n) 0 f [] [] (omega arith) (λ j less. absurd (omega arith)) few)
