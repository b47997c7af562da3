-- Lawful tables that grow: what a reference leads to stays, and one more lawful node leaves the table lawful.
use Rattle.std.proofs.Common.{◌≡◌, ℕ, suc, ◌+◌, ◌-◌, ◌<◌, ◌≤◌, Bool, true, false, cond, ◌&&◌, eqb, ltb, leb, List, [], ◌∷◌, ◌++◌, length, sym, refl, ap, ◌∙◌, subst, ⊎_elim, arith}
use Rattle.std.proofs.lemmas.List.{get_or_append_left, get_or_push, length_push}
use Rattle.std.proofs.lemmas.Bool.{cond-true, cond-false, cases_lt, cases_Bool, and_parts, and_from, and_left, lt-ltb, le-ltb, ltb-true, le-leb, lt-leb, leb-true, eq-eqb, eqb-true, false≢true}
use Rattle.diagram.specs.declared.conditions.Condition.{Condition}
use Rattle.diagram.specs.declared.nodes.Node.{Node}
use Rattle.diagram.specs.Lawful.{blank, node_at, named, names, later, branch_is_lawful, Lawful}
use Rattle.diagram.specs.Order.{level, exists}
use Rattle.diagram.specs.Reads.{branch, tests, descend, reach}
use Rattle.diagram.proofs.Steps.{earlier_names}
use Rattle.reduction.specs.Canonical.{both}
use Rattle.reduction.proofs.Interning.{Grown, grown_getD}
use Rattle.reduction.proofs.Levels.{level_below}

-- r is a leaf, or a node whose level is k or later
abbrev pub Above : ℕ → List Node → ℕ → ℕ → Type 0
Above n ns k r = 65536 ≤ r → k ≤ level n (named ns r).condition

pub named_more : (leaves leaves' nodes nodes' r : ℕ) → leaves ≤ leaves' → nodes ≤ nodes' → names leaves nodes r ≡ true → names leaves' nodes' r ≡ true
named_more leaves leaves' nodes nodes' r a b h =
    ⊎_elim
    (λ small. cond-true _ _ _ (lt-ltb _ _ small) ∙ lt-ltb r leaves' (omega (arith, ltb-true r leaves (sym (cond-true _ _ _ (lt-ltb _ _ small)) ∙ h))))
    (λ large. cond-false _ _ _ (le-ltb _ _ large) ∙ lt-ltb (r - 65536) nodes' (omega (arith, ltb-true (r - 65536) nodes (sym (cond-false _ _ _ (le-ltb _ _ large)) ∙ h))))
    (cases_lt r 65536)

pub node_within : (leaves nodes r : ℕ) → names leaves nodes r ≡ true → 65536 ≤ r → r - 65536 < nodes
node_within leaves nodes r h large = ltb-true (r - 65536) nodes (sym (cond-false _ _ _ (le-ltb _ _ large)) ∙ h)

pub leaf_within : (leaves nodes r : ℕ) → names leaves nodes r ≡ true → r < 65536 → r < leaves
leaf_within leaves nodes r h small = ltb-true r leaves (sym (cond-true _ _ _ (lt-ltb _ _ small)) ∙ h)

named_same : (leaves : ℕ) (ns ns' : List Node) (r : ℕ) → Grown ns ns' → names leaves (length ns) r ≡ true → 65536 ≤ r → named ns' r ≡ named ns r
named_same leaves ns ns' r g h large = grown_getD ns ns' (r - 65536) blank g (node_within leaves (length ns) r h large)

pub above_more : (n leaves k : ℕ) (ns ns' : List Node) (r : ℕ) → Grown ns ns' → names leaves (length ns) r ≡ true → Above n ns k r → Above n ns' k r
above_more n leaves k ns ns' r g h a large = subst (λ x. k ≤ level n x.condition) (sym (named_same leaves ns ns' r g h large)) (a large)

-- what a reference does at one level
pub data Down (n : ℕ) (ns : List Node) (k : ℕ) (b : Bool) (r : ℕ) : Type 0 where
  stays : tests n ns k r ≡ false → descend n ns k b r ≡ r → Down n ns k b r
  goes : 65536 ≤ r → level n (named ns r).condition ≡ k → descend n ns k b r ≡ branch b (named ns r) → Down n ns k b r

pub down : (n : ℕ) (ns : List Node) (k : ℕ) (b : Bool) (r : ℕ) → Down n ns k b r
down n ns k b r =
    ⊎_elim
    (λ yes. let p = and_parts (leb 65536 r) (eqb (level n (named ns r).condition) k) yes in goes (leb-true 65536 r p.0) (eqb-true (level n (named ns r).condition) k p.1) (cond-true _ _ _ yes))
    (λ no. stays no (cond-false _ _ _ no))
    (cases_Bool (tests n ns k r))

module _ (n leaves : ℕ) (ns : List Node) (lawful : Lawful (both n) leaves ns) where
  branch_lawful : (b : Bool) (r : ℕ) → names leaves (length ns) r ≡ true → 65536 ≤ r → branch_is_lawful (both n) leaves ns (r - 65536) (branch b (named ns r)) ≡ true
  branch_lawful b r h large =
      let p = and_parts _ _ (lawful (r - 65536) (node_within leaves (length ns) r h large)) in
      let q = and_parts _ _ p.1 in
      elim b as (λ v. branch_is_lawful (both n) leaves ns (r - 65536) (branch v (named ns r)) ≡ true) [ true ↦ q.0 | false ↦ q.1 ]

  pub exists_named : (r : ℕ) → names leaves (length ns) r ≡ true → 65536 ≤ r → exists (both n) (named ns r).condition ≡ true
  exists_named r h large = (and_parts _ _ (lawful (r - 65536) (node_within leaves (length ns) r h large))).0

  branch_named : (b : Bool) (r : ℕ) → names leaves (length ns) r ≡ true → 65536 ≤ r → names leaves (length ns) (branch b (named ns r)) ≡ true
  branch_named b r h large =
      (earlier_names leaves (r - 65536) (length ns) (branch b (named ns r)) (omega (arith, node_within leaves (length ns) r h large)) (and_parts _ _ (branch_lawful b r h large)).0).0

  branch_above : (b : Bool) (r : ℕ) → names leaves (length ns) r ≡ true → 65536 ≤ r → Above n ns (suc (level n (named ns r).condition)) (branch b (named ns r))
  branch_above b r h large big =
      ltb-true (level n (named ns r).condition) (level n (named ns (branch b (named ns r))).condition) (sym (cond-false _ _ _ (le-ltb _ _ big)) ∙ (and_parts _ _ (branch_lawful b r h large)).1)

  pub descend_named : (k : ℕ) (b : Bool) (r : ℕ) → names leaves (length ns) r ≡ true → names leaves (length ns) (descend n ns k b r) ≡ true
  descend_named k b r h = by (down n ns k b r)
    where
      by : Down n ns k b r → names leaves (length ns) (descend n ns k b r) ≡ true
      by (stays quiet e) = subst (λ x. names leaves (length ns) x ≡ true) (sym e) h
      by (goes large at e) = subst (λ x. names leaves (length ns) x ≡ true) (sym e) (branch_named b r h large)

  untested : (k r : ℕ) → tests n ns k r ≡ false → 65536 ≤ r → level n (named ns r).condition ≡ k → ⊥
  untested k r quiet large at = false≢true (sym quiet ∙ and_from _ _ (le-leb 65536 r large) (eq-eqb (level n (named ns r).condition) k at))

  pub descend_above : (k : ℕ) (b : Bool) (r : ℕ) → names leaves (length ns) r ≡ true → Above n ns k r → Above n ns (suc k) (descend n ns k b r)
  descend_above k b r h a = by (down n ns k b r)
    where
      by : Down n ns k b r → Above n ns (suc k) (descend n ns k b r)
      by (stays quiet e) =
          subst (Above n ns (suc k)) (sym e)
          (λ large.
          ⊎_elim (λ more. more) (λ less. let at : level n (named ns r).condition ≡ k = omega (arith, a large) in absurd (untested k r quiet large at))
          (cases_lt k (level n (named ns r).condition)))
      by (goes large at e) = subst (Above n ns (suc k)) (sym e) (subst (λ z. Above n ns (suc z) (branch b (named ns r))) at (branch_above b r h large))

  -- after the last level a reference is a leaf
  pub reach_ends : (bs : List Bool) (k r : ℕ) → k + length bs ≡ n + n → names leaves (length ns) r ≡ true → Above n ns k r → (reach n ns k bs r < leaves) × (reach n ns k bs r < 65536)
  unfolding reach
  reach_ends [] k r e h a =
      let small : r < 65536 = ⊎_elim (λ l. l) (λ large. absurd (omega (arith, a large, level_below n (named ns r).condition (exists_named r h large)))) (cases_lt r 65536) in
      (leaf_within leaves (length ns) r h small, small)
  reach_ends (b ∷ bs) k r e h a = reach_ends bs (suc k) (descend n ns k b r) (omega arith) (descend_named k b r h) (descend_above k b r h a)

  descend_same : (ns' : List Node) → Grown ns ns' → (k : ℕ) (b : Bool) (r : ℕ) → names leaves (length ns) r ≡ true → descend n ns' k b r ≡ descend n ns k b r
  descend_same ns' g k b r h =
      ⊎_elim (λ small. cond-false _ _ _ (and_left _ _ (lt-leb _ _ small)) ∙ sym (cond-false _ _ _ (and_left _ _ (lt-leb _ _ small))))
      (λ large. ap (λ x. cond (leb 65536 r && eqb (level n x.condition) k) (branch b x) r) (named_same leaves ns ns' r g h large)) (cases_lt r 65536)

  pub reach_grown : (ns' : List Node) → Grown ns ns' → (bs : List Bool) (k r : ℕ) → names leaves (length ns) r ≡ true → reach n ns' k bs r ≡ reach n ns k bs r
  unfolding reach
  reach_grown ns' g [] k r h = refl
  reach_grown ns' g (b ∷ bs) k r h = ap (reach n ns' (suc k) bs) (descend_same ns' g k b r h) ∙ reach_grown ns' g bs (suc k) (descend n ns k b r) (descend_named k b r h)

  -- more leaves change nothing
  pub lawful_leaves : (leaves' : ℕ) → leaves ≤ leaves' → Lawful (both n) leaves' ns
  lawful_leaves leaves' le j less =
      let p = and_parts _ _ (lawful j less) in
      let q = and_parts _ _ p.1 in
      let one = and_parts _ _ q.0 in
      let nil = and_parts _ _ q.1 in
      and_from _ _ p.0
      (and_from _ _ (and_from _ _ (named_more leaves leaves' j j (node_at ns j).one le (omega arith) one.0) one.1) (and_from _ _ (named_more leaves leaves' j j (node_at ns j).zero le (omega arith) nil.0) nil.1))

  later_more : (x : Node) (j : ℕ) (c : Condition) (r : ℕ) → j ≤ length ns → names leaves j r ≡ true → later n ns c r ≡ true → later n (ns ++ x ∷ []) c r ≡ true
  later_more x j c r le h l =
      ⊎_elim (λ small. cond-true _ _ _ (lt-ltb _ _ small))
      (λ large.
      cond-false _ _ _ (le-ltb _ _ large)
      ∙ ap (λ y. ltb (level n c) (level n y.condition)) (get_or_append_left ns (x ∷ []) blank (r - 65536) (omega (arith, node_within leaves j r h large)))
      ∙ sym (cond-false _ _ _ (le-ltb _ _ large)) ∙ l)
      (cases_lt r 65536)

  branch_more : (x : Node) (j r : ℕ) → j < length ns → branch_is_lawful (both n) leaves ns j r ≡ true → branch_is_lawful (both n) leaves (ns ++ x ∷ []) j r ≡ true
  branch_more x j r less h =
      let p = and_parts _ _ h in
      let same : node_at (ns ++ x ∷ []) j ≡ node_at ns j = get_or_append_left ns (x ∷ []) blank j less in
      and_from _ _ p.0 (ap (λ y. later n (ns ++ x ∷ []) y.condition r) same ∙ later_more x j (node_at ns j).condition r (omega arith) p.0 p.1)

  -- one more node
  pub lawful_push : (x : Node) → exists (both n) x.condition ≡ true → names leaves (length ns) x.one ≡ true → later n ns x.condition x.one ≡ true →
      names leaves (length ns) x.zero ≡ true → later n ns x.condition x.zero ≡ true → Lawful (both n) leaves (ns ++ x ∷ [])
  lawful_push x there one one_later nil nil-later j less =
      ⊎_elim
      (λ old.
      let same : node_at (ns ++ x ∷ []) j ≡ node_at ns j = get_or_append_left ns (x ∷ []) blank j old in
      let p = and_parts _ _ (lawful j old) in
      let q = and_parts _ _ p.1 in
      and_from _ _ (ap (λ y. exists (both n) y.condition) same ∙ p.0)
      (and_from _ _ (ap (λ y. branch_is_lawful (both n) leaves (ns ++ x ∷ []) j y.one) same ∙ branch_more x j (node_at ns j).one old q.0)
      (ap (λ y. branch_is_lawful (both n) leaves (ns ++ x ∷ []) j y.zero) same ∙ branch_more x j (node_at ns j).zero old q.1)))
      (λ end.
      let last : length ns ≡ j = omega (arith, length_push ns x) in
      let same : node_at (ns ++ x ∷ []) j ≡ x = get_or_push ns x blank j last in
      let count : (r : ℕ) → names leaves (length ns) r ≡ true → names leaves j r ≡ true = λ r h. subst (λ z. names leaves z r ≡ true) last h in
      let ok : (r : ℕ) → names leaves (length ns) r ≡ true → later n ns x.condition r ≡ true → branch_is_lawful (both n) leaves (ns ++ x ∷ []) j r ≡ true =
      λ r h l. and_from _ _ (count r h) (ap (λ y. later n (ns ++ x ∷ []) y.condition r) same ∙ later_more x (length ns) x.condition r (omega arith) h l) in
      and_from _ _ (ap (λ y. exists (both n) y.condition) same ∙ there)
      (and_from _ _ (ap (λ y. branch_is_lawful (both n) leaves (ns ++ x ∷ []) j y.one) same ∙ ok x.one one one_later)
      (ap (λ y. branch_is_lawful (both n) leaves (ns ++ x ∷ []) j y.zero) same ∙ ok x.zero nil nil-later)))
      (cases_lt j (length ns))
