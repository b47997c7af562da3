-- In a readable diagram a step over a level leads to something named that tests only later levels, and a reference that does not test the level stays.
use Rattle.std.proofs.Common.{◌≡◌, ℕ, suc, ◌-◌, ◌<◌, ◌≤◌, Bool, true, false, eqb, leb, length, sym, ◌∙◌, subst, ⊎_elim, arith}
use Rattle.std.proofs.lemmas.Bool.{cond-true, cond-false, cases_lt, and_from, lt-ltb, le-ltb, ltb-true, le-leb, eq-eqb, false≢true}
use Rattle.diagram.specs.Lawful.{named}
use Rattle.diagram.specs.Order.{level}
use Rattle.diagram.specs.Reads.{branch, tests}
use Rattle.diagram.proofs.Steps.{earlier_names}
use Rattle.reduction.proofs.Growth.{Down, down, node_within}
use Rattle.reduction.proofs.Growth.Down.{stays, goes}
use Rattle.sources.specs.declared.input.Input.{Input}
use Rattle.sources.specs.Inputs.{sees, step, place, Named, Branches, Readable}

module _ {X : Type 0} (i : Input X) where
  module _ (levels : ℕ) where
    leaf_place : (r : ℕ) → r < 65536 → place i levels r ≡ levels
    leaf_place r small = cond-true _ _ _ (lt-ltb _ _ small)

    node_place : (r : ℕ) → 65536 ≤ r → place i levels r ≡ level i.offset (named i.table.nodes.now r).condition
    node_place r large = cond-false _ _ _ (le-ltb _ _ large)

    -- a level before its own is not tested by a reference
    pub step_quiet : (k : ℕ) (b : Bool) (r : ℕ) → k < place i levels r → step i k b r ≡ r
    step_quiet k b r less = by (down i.offset i.table.nodes.now k (sees i.fixed k b) r)
      where
        by : Down i.offset i.table.nodes.now k (sees i.fixed k b) r → step i k b r ≡ r
        by (stays quiet e) = e
        by (goes large at e) = absurd (omega (arith, node_place r large))

    module _ (ok : Readable i levels) where
      within : (r : ℕ) → Named i r → 65536 ≤ r → r - 65536 < length i.table.nodes.now
      within r h large = node_within (length i.table.leaves.now) (length i.table.nodes.now) r h large

      node_inside : (r : ℕ) → Named i r → 65536 ≤ r → level i.offset (named i.table.nodes.now r).condition < levels
      node_inside r h large = ok.inside (r - 65536) (within r h large)

      pub place_le : (r : ℕ) → Named i r → place i levels r ≤ levels
      place_le r h = ⊎_elim (λ small. omega (arith, leaf_place r small)) (λ large. omega (arith, node_place r large, node_inside r h large)) (cases_lt r 65536)

      branch_ok : (b : Bool) (r : ℕ) → Named i r → 65536 ≤ r → Branches i (r - 65536) (branch b (named i.table.nodes.now r))
      branch_ok b r h large =
          elim b as (λ v. Branches i (r - 65536) (branch v (named i.table.nodes.now r))) [ true ↦ ok.one (r - 65536) (within r h large) | false ↦ ok.zero (r - 65536) (within r h large) ]

      pub step_named : (k : ℕ) (b : Bool) (r : ℕ) → Named i r → Named i (step i k b r)
      step_named k b r h = by (down i.offset i.table.nodes.now k (sees i.fixed k b) r)
        where
          by : Down i.offset i.table.nodes.now k (sees i.fixed k b) r → Named i (step i k b r)
          by (stays quiet e) = subst (Named i) (sym e) h
          by (goes large at e) =
              let w = within r h large in
              subst (Named i) (sym e) (earlier_names (length i.table.leaves.now) (r - 65536) (length i.table.nodes.now) _ (omega arith) (branch_ok (sees i.fixed k b) r h large).earlier).0

      untested : (k r : ℕ) → k < levels → tests i.offset i.table.nodes.now k r ≡ false → place i levels r ≡ k → ⊥
      untested k r less quiet at =
          ⊎_elim (λ small. omega (arith, leaf_place r small))
          (λ large. false≢true (sym quiet ∙ and_from (leb 65536 r) (eqb (level i.offset (named i.table.nodes.now r).condition) k) (le-leb 65536 r large) (eq-eqb _ _ (sym (node_place r large) ∙ at)))) (cases_lt r 65536)

      deeper_place : (r r' k : ℕ) → k < levels → level i.offset (named i.table.nodes.now r).condition ≡ k → Branches i (r - 65536) r' → suc k ≤ place i levels r'
      deeper_place r r' k less at br =
          ⊎_elim (λ small. omega (arith, leaf_place r' small))
          (λ large.
          let l : level i.offset (named i.table.nodes.now r).condition < level i.offset (named i.table.nodes.now r').condition = ltb-true _ _ (sym (cond-false _ _ _ (le-ltb _ _ large)) ∙ br.deeper) in
          omega (arith, node_place r' large)) (cases_lt r' 65536)

      pub step_later : (k : ℕ) (b : Bool) (r : ℕ) → Named i r → k ≤ place i levels r → k < levels → suc k ≤ place i levels (step i k b r)
      step_later k b r h le less = by (down i.offset i.table.nodes.now k (sees i.fixed k b) r)
        where
          by : Down i.offset i.table.nodes.now k (sees i.fixed k b) r → suc k ≤ place i levels (step i k b r)
          by (stays quiet e) =
              subst (λ z. suc k ≤ place i levels z) (sym e)
              (⊎_elim (λ more. more) (λ no_more. absurd (untested k r less quiet (omega arith))) (cases_lt k (place i levels r)))
          by (goes large at e) = subst (λ z. suc k ≤ place i levels z) (sym e) (deeper_place r _ k less at (branch_ok (sees i.fixed k b) r h large))
