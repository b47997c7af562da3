-- A walk only adds to the lists, leaves them lawful, and its root reads back the function.
use Rattle.std.proofs.Common.{◌≡◌, ℕ, zero, suc, ◌+◌, ◌-◌, ◌<◌, ◌≤◌, Bool, true, false, eqb, ltb, leb, List, [], ◌∷◌, length, get_or, sym, refl, ap, ◌∙◌, subst, ⊎_elim, arith}
use Rattle.std.proofs.lemmas.List.{nil_from_length}
use Rattle.std.proofs.lemmas.Bool.{cond-true, cond-false, cond_both, cases_lt, cases_Bool, and_parts, and_from, lt-ltb, le-ltb, le-leb, leb-true, eq-eqb, eqb-true}
use Rattle.diagram.specs.declared.nodes.Node.{Node}
use Rattle.diagram.specs.Lawful.{blank, named, names, later, Lawful}
use Rattle.diagram.specs.Order.{level}
use Rattle.diagram.specs.Reads.{branch, tests, descend, reach}
use Rattle.reduction.specs.Listed.{Same, index, listed}
use Rattle.reduction.specs.Walk.{same_node, Made, node_for, link, walk}
use Rattle.reduction.specs.Canonical.{both}
use Rattle.reduction.proofs.Interning.{Grown, grown_none, grown_more, grown_length, grown_getD, listed_grown, listed_at, listed_within, listed_cases}
use Rattle.reduction.proofs.Levels.{level_at, exists_at, node_sameness}
use Rattle.reduction.proofs.Growth.{Above, named_more, above_more, reach_ends, reach_grown, lawful_leaves, lawful_push}

-- m's lists are ls and ns with more
abbrev pub Adds : {X : Type 0} → List X → List Node → Made X → Type 0
Adds ls ns m = Grown ls m.leaves × Grown ns m.nodes

pub link_adds : {X : Type 0} (n k r : ℕ) (ls : List X) (ns : List Node) (m : Made X) → Adds ls ns m → Adds ls ns (link n k r m)
link_adds n k r ls ns m a =
    cond_both (eqb r m.root) m _ (Adds ls ns) (λ _. a) (λ _. (a.0, grown_more ns m.nodes _ a.1 (listed_grown same_node node_sameness m.nodes (node_for n k r m.root))))

module _ {X : Type 0} (eq : X → X → Bool) (same : Same eq) (n : ℕ) where
  pub walk_adds : (L k : ℕ) (f : List Bool → X) (ls : List X) (ns : List Node) → Adds ls ns (walk eq n L k f ls ns)
  unfolding walk
  walk_adds zero k f ls ns = (listed_grown eq same ls (f []), grown_none ns)
  walk_adds (suc L) k f ls ns =
      let one = walk eq n L (suc k) (λ bs. f (true ∷ bs)) ls ns in
      let a = walk_adds L (suc k) (λ bs. f (true ∷ bs)) ls ns in
      let b = walk_adds L (suc k) (λ bs. f (false ∷ bs)) one.leaves one.nodes in
      link_adds n k one.root ls ns (walk eq n L (suc k) (λ bs. f (false ∷ bs)) one.leaves one.nodes)
      (grown_more ls one.leaves _ a.0 b.0, grown_more ns one.nodes _ a.1 b.1)

  -- the root of m stands for f over the L levels from k on
  pub record Stands (L k : ℕ) (f : List Bool → X) (m : Made X) : Type 0 where
    pub lawful : Lawful (both n) (length m.leaves) m.nodes
    pub rooted : names (length m.leaves) (length m.nodes) m.root ≡ true
    pub above : Above n m.nodes k m.root
    pub reads : (bs : List Bool) → length bs ≡ L → (d : X) → get_or m.leaves (reach n m.nodes k bs m.root) d ≡ f bs

  at_leaf : (k : ℕ) (f : List Bool → X) (ls : List X) (ns : List Node) → Lawful (both n) (length ls) ns → length (listed eq ls (f [])) ≤ 65536 →
      Stands 0 k f (record { root = index eq ls (f []); leaves = listed eq ls (f []); nodes = ns })
  unfolding reach
  at_leaf k f ls ns lawful few =
      let within = listed_within eq same ls (f []) in
      let small : index eq ls (f []) < 65536 = omega arith in
      record {
        lawful = lawful_leaves n (length ls) ns lawful (length (listed eq ls (f []))) (grown_length ls _ (listed_grown eq same ls (f [])));
        rooted = cond-true _ _ _ (lt-ltb _ _ small) ∙ lt-ltb _ _ within;
        above = λ large. absurd (omega arith);
        reads = λ bs none d. rw (nil_from_length bs none) (listed_at eq same ls (f []) d);
      }

  -- a root that stands for a function still does in lists that have grown
  module _ (L k : ℕ) (f : List Bool → X) (one m : Made X) (ends : k + L ≡ n + n) (st : Stands L k f one) (more : Adds one.leaves one.nodes m) where
    pub kept_rooted : names (length m.leaves) (length m.nodes) one.root ≡ true
    kept_rooted = named_more _ _ _ _ one.root (grown_length _ _ more.0) (grown_length _ _ more.1) st.rooted

    pub kept_above : Above n m.nodes k one.root
    kept_above = above_more n (length one.leaves) k one.nodes m.nodes one.root more.1 st.rooted st.above

    pub kept_reads : (bs : List Bool) → length bs ≡ L → (d : X) → get_or m.leaves (reach n m.nodes k bs one.root) d ≡ f bs
    kept_reads bs long d =
        let at = reach_grown n (length one.leaves) one.nodes st.lawful m.nodes more.1 bs k one.root st.rooted in
        let leaf = reach_ends n (length one.leaves) one.nodes st.lawful bs k one.root (omega arith) st.rooted st.above in
        ap (λ i. get_or m.leaves i d) at ∙ grown_getD one.leaves m.leaves _ d more.0 leaf.0 ∙ st.reads bs long d

  -- a root above level k is not tested there
  pub pass_over : (k : ℕ) (b : Bool) (ns : List Node) (r : ℕ) → Above n ns (suc k) r → descend n ns k b r ≡ r
  pass_over k b ns r a = cond-false _ _ _ (⊎_elim (λ yes. absurd (quiet yes)) (λ no. no) (cases_Bool (tests n ns k r)))
    where
      quiet : tests n ns k r ≡ true → ⊥
      quiet hit = let p = and_parts (leb 65536 r) (eqb (level n (named ns r).condition) k) hit in let at = eqb-true (level n (named ns r).condition) k p.1 in omega (arith, a (leb-true 65536 r p.0))

  module _ (L k : ℕ) (f : List Bool → X) (one m : Made X) (ends : suc k + L ≡ n + n) (st₁ : Stands L (suc k) (λ bs. f (true ∷ bs)) one) (st₀ : Stands L (suc k) (λ bs. f (false ∷ bs)) m)
      (more : Adds one.leaves one.nodes m) where
    -- both branches are the same: no node
    pub unlinked : one.root ≡ m.root → Stands (suc L) k f m
    unfolding reach
    unlinked same-root =
        record {
          lawful = st₀.lawful;
          rooted = st₀.rooted;
          above = λ large. omega (arith, st₀.above large);
          reads = by;
        }
      where
        by : (bs : List Bool) → length bs ≡ suc L → (d : X) → get_or m.leaves (reach n m.nodes k bs m.root) d ≡ f bs
        by [] long d = absurd (omega arith)
        by (true ∷ bs) long d =
            ap (λ r. get_or m.leaves (reach n m.nodes (suc k) bs r) d) (pass_over k true m.nodes m.root st₀.above ∙ sym same-root)
            ∙ kept_reads L (suc k) (λ cs. f (true ∷ cs)) one m ends st₁ more bs (omega arith) d
        by (false ∷ bs) long d = ap (λ r. get_or m.leaves (reach n m.nodes (suc k) bs r) d) (pass_over k false m.nodes m.root st₀.above) ∙ st₀.reads bs (omega arith) d

    abbrev new : Node
    new = node_for n k one.root m.root

    abbrev nodes' : List Node
    nodes' = listed same_node m.nodes new

    abbrev linked : Made X
    linked = record { root = 65536 + index same_node m.nodes new; leaves = m.leaves; nodes = nodes' }

    grows : Grown m.nodes nodes'
    grows = listed_grown same_node node_sameness m.nodes new

    -- the new node's condition stands before those of its branches
    before : (r : ℕ) → Above n m.nodes (suc k) r → later n m.nodes new.condition r ≡ true
    before r a =
        ⊎_elim (λ small. cond-true _ _ _ (lt-ltb _ _ small)) (λ large. cond-false _ _ _ (le-ltb _ _ large) ∙ lt-ltb _ _ (omega (arith, a large, level_at n k))) (cases_lt r 65536)

    lawful' : Lawful (both n) (length m.leaves) nodes'
    lawful' =
        listed_cases same_node node_sameness m.nodes new (Lawful (both n) (length m.leaves)) (λ _. st₀.lawful)
        (λ _.
        lawful_push n (length m.leaves) m.nodes st₀.lawful new (exists_at n k (omega arith))
        (kept_rooted L (suc k) (λ cs. f (true ∷ cs)) one m ends st₁ more) (before one.root (kept_above L (suc k) (λ cs. f (true ∷ cs)) one m ends st₁ more))
        st₀.rooted (before m.root st₀.above))

    there : named nodes' linked.root ≡ new
    there = ap (λ j. get_or nodes' j blank) {x = 65536 + index same_node m.nodes new - 65536} {y = index same_node m.nodes new} (omega arith) ∙ listed_at same_node node_sameness m.nodes new blank

    goes_down : (b : Bool) → descend n nodes' k b linked.root ≡ branch b new
    goes_down b =
        cond-true _ _ _ (and_from _ _ (le-leb 65536 linked.root (omega arith)) (eq-eqb _ _ (ap (λ x. level n x.condition) there ∙ level_at n k))) ∙ ap (branch b) there

    joined : Stands (suc L) k f linked
    unfolding reach
    joined =
        record {
          lawful = lawful';
          rooted = cond-false (ltb linked.root 65536) _ _ (le-ltb linked.root 65536 (omega arith)) ∙ lt-ltb (linked.root - 65536) (length nodes') (omega (arith, listed_within same_node node_sameness m.nodes new));
          above = λ large. subst (λ x. k ≤ level n x.condition) (sym there) (omega (arith, level_at n k));
          reads = by;
        }
      where
        by : (bs : List Bool) → length bs ≡ suc L → (d : X) → get_or m.leaves (reach n nodes' k bs linked.root) d ≡ f bs
        by [] long d = absurd (omega arith)
        by (true ∷ bs) long d =
            ap (λ r. get_or m.leaves (reach n nodes' (suc k) bs r) d) (goes_down true)
            ∙ kept_reads L (suc k) (λ cs. f (true ∷ cs)) one linked ends st₁ (more.0, grown_more _ _ _ more.1 grows) bs (omega arith) d
        by (false ∷ bs) long d =
            ap (λ r. get_or m.leaves (reach n nodes' (suc k) bs r) d) (goes_down false)
            ∙ kept_reads L (suc k) (λ cs. f (false ∷ cs)) m linked ends st₀ (grown_none m.leaves, grows) bs (omega arith) d

    linked_or_not : Stands (suc L) k f (link n k one.root m)
    linked_or_not = cond_both (eqb one.root m.root) m linked (Stands (suc L) k f) (λ yes. unlinked (eqb-true _ _ yes)) (λ _. joined)

  pub link_leaves : (k r : ℕ) (m : Made X) → (link n k r m).leaves ≡ m.leaves
  link_leaves k r m = cond_both (eqb r m.root) m _ (λ z. z.leaves ≡ m.leaves) (λ _. refl) (λ _. refl)

  pub walk_stands : (L k : ℕ) (f : List Bool → X) (ls : List X) (ns : List Node) → k + L ≡ n + n → Lawful (both n) (length ls) ns → length (walk eq n L k f ls ns).leaves ≤ 65536 →
      Stands L k f (walk eq n L k f ls ns)
  unfolding walk
  walk_stands zero k f ls ns ends lawful few = at_leaf k f ls ns lawful few
  walk_stands (suc L) k f ls ns ends lawful few =
      let one = walk eq n L (suc k) (λ bs. f (true ∷ bs)) ls ns in
      let m = walk eq n L (suc k) (λ bs. f (false ∷ bs)) one.leaves one.nodes in
      let more = walk_adds L (suc k) (λ bs. f (false ∷ bs)) one.leaves one.nodes in
      let all : length m.leaves ≤ 65536 = subst (λ l. length l ≤ 65536) (link_leaves k one.root m) few in
      let st₁ = walk_stands L (suc k) (λ bs. f (true ∷ bs)) ls ns (omega arith) lawful (omega (arith, grown_length _ _ more.0)) in
      let st₀ = walk_stands L (suc k) (λ bs. f (false ∷ bs)) one.leaves one.nodes (omega arith) st₁.lawful all in
      linked_or_not L k f one m (omega arith) st₁ st₀ more
