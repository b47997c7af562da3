-- Two walks in step, of a function and of it mapped: the second's lists follow the first's, so they are no longer.
use Rattle.std.proofs.Common.{◌≡◌, ℕ, zero, suc, ◌+◌, ◌-◌, ◌≤◌, Bool, true, false, eqb, ◌⊎◌, List, [], ◌∷◌, ◌++◌, length, sym, refl, ap, ◌∙◌, subst, inl, inr, ⊎_elim, arith}
use Rattle.std.proofs.lemmas.List.{get_or_push, length_push}
use Rattle.std.proofs.lemmas.Bool.{cond-true, cond-false, cond_both, cases_lt, lt-ltb, le-ltb}
use Rattle.diagram.specs.declared.nodes.Node.{Node}
use Rattle.diagram.specs.Lawful.{blank, named, names}
use Rattle.diagram.specs.Order.{level}
use Rattle.reduction.specs.Listed.{Same, index, listed}
use Rattle.reduction.specs.Walk.{same_node, Made, node_for, link, walk}
use Rattle.reduction.specs.Mapped.{NoLarger, MappingNeverGrows}
use Rattle.reduction.proofs.Interning.{grown_none, grown_length, listed_cases}
use Rattle.reduction.proofs.Levels.{level_at, node_sameness}
use Rattle.reduction.proofs.Growth.{leaf_within, node_within}
use Rattle.reduction.proofs.Walked.{Stands, link_leaves, walk_adds, walk_stands}
use Rattle.reduction.proofs.Again.{at_root, nothing}
use Rattle.reduction.proofs.Standing.{walk_links}
use Rattle.reduction.proofs.Following.{Follows, nothing_new, one_new}

-- a reference that one more leaf, or one more node, lets a list name is that leaf or that node
last_leaf : (leaves leaves' nodes r : ℕ) → leaves' ≡ leaves + 1 → names leaves' nodes r ≡ true → (names leaves nodes r ≡ true) ⊎ (r ≡ leaves)
last_leaf leaves leaves' nodes r e h =
    ⊎_elim
    (λ small. ⊎_elim (λ old. inl (cond-true _ _ _ (lt-ltb _ _ small) ∙ lt-ltb _ _ old)) (λ new. inr (omega (arith, leaf_within leaves' nodes r h small))) (cases_lt r leaves))
    (λ large. inl (cond-false _ _ _ (le-ltb _ _ large) ∙ lt-ltb _ _ (node_within leaves' nodes r h large)))
    (cases_lt r 65536)

last_node : (leaves nodes nodes' r : ℕ) → nodes' ≡ nodes + 1 → names leaves nodes' r ≡ true → (names leaves nodes r ≡ true) ⊎ (r ≡ 65536 + nodes)
last_node leaves nodes nodes' r e h =
    ⊎_elim
    (λ small. inl (cond-true _ _ _ (lt-ltb _ _ small) ∙ lt-ltb _ _ (leaf_within leaves nodes' r h small)))
    (λ large. ⊎_elim (λ old. inl (cond-false _ _ _ (le-ltb _ _ large) ∙ lt-ltb _ _ old)) (λ new. inr (omega (arith, node_within leaves nodes' r h large))) (cases_lt (r - 65536) nodes))
    (cases_lt r 65536)

one_more : {X : Type 0} (eq : X → X → Bool) → Same eq → (xs : List X) (x : X) → length (listed eq xs x) ≤ length xs + 1
one_more eq same xs x = listed_cases eq same xs x (λ l. length l ≤ length xs + 1) (λ _. omega arith) (λ _. omega (arith, length_push xs x))

link_one_more : {X : Type 0} (n k r : ℕ) (m : Made X) → length (link n k r m).nodes ≤ length m.nodes + 1
link_one_more n k r m = cond_both (eqb r m.root) m _ (λ z. length z.nodes ≤ length m.nodes + 1) (λ _. omega arith) (λ _. one_more same_node node_sameness m.nodes (node_for n k r m.root))

abbrev empty : {X : Type 0} → Made X
empty = record { root = 0; leaves = []; nodes = [] }

module _ {X Y : Type 0} (eq : X → X → Bool) (same : Same eq) (eq' : Y → Y → Bool) (same' : Same eq') (n : ℕ) (g : X → Y) where
  abbrev Follow : Made X → Made Y → Type 0
  Follow = Follows eq same eq' same' n g

  leaf_follows : (k : ℕ) (f : List Bool → X) (m : Made X) (m' : Made Y) → k + 0 ≡ n + n → length (walk eq n 0 k f m.leaves m.nodes).leaves ≤ 65536 → Follow m m' →
      Follow (walk eq n 0 k f m.leaves m.nodes) (walk eq' n 0 k (λ bs. g (f bs)) m'.leaves m'.nodes)
  unfolding walk
  leaf_follows k f m m' ends few fol =
      let i = index eq m.leaves (f []) in
      let W : List X → Made X = λ l. record { root = i; leaves = l; nodes = m.nodes } in
      let more = one_more eq' same' m'.leaves (g (f [])) in
      listed_cases eq same m.leaves (f []) (λ l. length l ≤ 65536 → Stands eq same n 0 k f (W l) → Follow (W l) (walk eq' n 0 k (λ bs. g (f bs)) m'.leaves m'.nodes))
      (λ _ _ st. nothing_new eq same eq' same' n g 0 k f m m' ends fol i st)
      (λ e fits st.
      let long = length_push m.leaves (f []) in
      one_new eq same eq' same' n g 0 k f m m' ends fol (W (m.leaves ++ f [] ∷ [])) ((f [] ∷ [], refl), grown_none m.nodes) st
      (record { leaves = omega (arith, fol.no_larger.leaves); nodes = fol.no_larger.nodes }) fits
      (λ r h. subst (λ z. (names (length m.leaves) (length m.nodes) r ≡ true) ⊎ (r ≡ z)) (sym e) (last_leaf (length m.leaves) _ (length m.nodes) r long h))
      (λ j le _. omega arith))
      few (walk_stands eq same n 0 k f m.leaves m.nodes ends fol.lawful few)

  link_follows : (L k : ℕ) (f : List Bool → X) (r r' : ℕ) (m : Made X) (m' : Made Y) → k + suc L ≡ n + n → length m.leaves ≤ 65536 → Follow m m' → Stands eq same n (suc L) k f (link n k r m) →
      walk eq' n (suc L) k (λ bs. g (f bs)) m'.leaves m'.nodes ≡ link n k r' m' → Follow (link n k r m) (link n k r' m')
  link_follows L k f r r' m m' ends few fol stands links =
      let x = node_for n k r m.root in
      let i = index same_node m.nodes x in
      let W : List Node → Made X = λ l. record { root = 65536 + i; leaves = m.leaves; nodes = l } in
      let w' = walk eq' n (suc L) k (λ bs. g (f bs)) m'.leaves m'.nodes in
      let P : Made X → Type 0 = λ z. Stands eq same n (suc L) k f z → Follow z w' in
      let old : (s : ℕ) → P (at_root m s) = nothing_new eq same eq' same' n g (suc L) k f m m' ends fol in
      subst (Follow (link n k r m)) links
      (cond_both (eqb r m.root) m (W (listed same_node m.nodes x)) P (λ _. old m.root)
      (λ _.
      listed_cases same_node node_sameness m.nodes x (λ l. P (W l)) (λ _. old (65536 + i))
      (λ e st.
      let long = length_push m.nodes x in
      let there : named (m.nodes ++ x ∷ []) (65536 + i) ≡ x = get_or_push m.nodes x blank (65536 + i - 65536) (omega arith) in
      one_new eq same eq' same' n g (suc L) k f m m' ends fol (W (m.nodes ++ x ∷ [])) (grown_none m.leaves, (x ∷ [], refl)) st
      (subst (λ z. NoLarger z (W (m.nodes ++ x ∷ []))) (sym links)
      (record { leaves = omega (arith, ap length (link_leaves eq' same' n k r' m'), fol.no_larger.leaves); nodes = omega (arith, link_one_more n k r' m', fol.no_larger.nodes) }))
      few (λ s h. subst (λ z. (names (length m.leaves) (length m.nodes) s ≡ true) ⊎ (s ≡ 65536 + z)) (sym e) (last_node (length m.leaves) (length m.nodes) _ s long h))
      (λ j _ a. let le : j ≤ level n x.condition = subst (λ z. j ≤ level n z.condition) there (a (omega arith)) in omega (arith, level_at n k))))
      stands)

  walk_follows : (L k : ℕ) (f : List Bool → X) (m : Made X) (m' : Made Y) → k + L ≡ n + n → length (walk eq n L k f m.leaves m.nodes).leaves ≤ 65536 → Follow m m' →
      Follow (walk eq n L k f m.leaves m.nodes) (walk eq' n L k (λ bs. g (f bs)) m'.leaves m'.nodes)
  unfolding walk
  walk_follows zero k f m m' ends few fol = leaf_follows k f m m' ends few fol
  walk_follows (suc L) k f m m' ends few fol =
      let f₁ : List Bool → X = λ bs. f (true ∷ bs) in
      let f₀ : List Bool → X = λ bs. f (false ∷ bs) in
      let one = walk eq n L (suc k) f₁ m.leaves m.nodes in
      let two = walk eq n L (suc k) f₀ one.leaves one.nodes in
      let one' = walk eq' n L (suc k) (λ bs. g (f₁ bs)) m'.leaves m'.nodes in
      let two' = walk eq' n L (suc k) (λ bs. g (f₀ bs)) one'.leaves one'.nodes in
      let all : length two.leaves ≤ 65536 = subst (λ l. length l ≤ 65536) (link_leaves eq same n k one.root two) few in
      let some : length one.leaves ≤ 65536 = omega (arith, grown_length _ _ (walk_adds eq same n L (suc k) f₀ one.leaves one.nodes).0) in
      let fol₁ = walk_follows L (suc k) f₁ m m' (omega arith) some fol in
      let fol₀ = walk_follows L (suc k) f₀ one one' (omega arith) all fol₁ in
      let st₁ = walk_stands eq' same' n L (suc k) (λ bs. g (f₁ bs)) m'.leaves m'.nodes (omega arith) fol.lawful' (omega (arith, fol₁.no_larger.leaves)) in
      let st₀ = walk_stands eq' same' n L (suc k) (λ bs. g (f₀ bs)) one'.leaves one'.nodes (omega arith) fol₁.lawful' (omega (arith, fol₀.no_larger.leaves)) in
      link_follows L k f one.root one'.root two two' ends all fol₀ (walk_stands eq same n (suc L) k f m.leaves m.nodes ends fol.lawful few)
      (walk_links eq' same' n L k (λ bs. g (f bs)) one' two' (omega arith) (walk_adds eq' same' n L (suc k) (λ bs. g (f₀ bs)) one'.leaves one'.nodes) fol₀.tidy' st₁ st₀)

  empty_follows : Follow empty empty
  empty_follows =
      record {
        lawful = λ j l. absurd (omega arith);
        lawful' = λ j l. absurd (omega arith);
        tidy' = nothing eq' same' n;
        no_larger = record { leaves = omega arith; nodes = omega arith };
        maps = λ L k h r ends st. absurd (⊎_elim (λ small. omega (arith, leaf_within 0 0 r st.rooted small)) (λ large. omega (arith, node_within 0 0 r st.rooted large)) (cases_lt r 65536));
      }

pub mapping_never_grows : {X Y : Type 0} (eq : X → X → Bool) (eq' : Y → Y → Bool) → Same eq → Same eq' → MappingNeverGrows eq eq'
mapping_never_grows eq eq' same same' n f g few = (walk_follows eq same eq' same' n g (n + n) 0 f empty empty (omega arith) few (empty_follows eq same eq' same' n g)).no_larger
