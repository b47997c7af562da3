-- A table in which a condition was averaged out can be averaged again.
use Rattle.std.proofs.Common.{ℕ, ◌^◌, ◌<◌, ◌≤◌, Bool, true, false, List, length, get_or, set, take, pos, Ok, Err, IfOk, Result, sym, subst, ⊎_elim, arith, rules}
use Rattle.std.proofs.lemmas.Bool.{cases_lt}
use Rattle.std.proofs.lemmas.List.{get_or_past, length-take}
use Rattle.diagram.specs.declared.nodes.Node.{Node}
use Rattle.diagram.specs.Reads.{reach}
use Rattle.reduction.specs.Listed.{Same}
use Rattle.reduction.specs.Canonical.{ReadsBack}
use Rattle.reduction.specs.Walk.{Made}
use Rattle.reduction.proofs.Once.{read_back}
use Rattle.reduction.proofs.Valued.{AllIn, reduced_all}
use Rattle.ranges.specs.declared.ends.Ends.{Ends}
use Rattle.ranges.specs.Ranges.{ends}
use Rattle.ranges.specs.Sameness.{same_ends}
use Rattle.combinings.specs.Asked.{Within}
use Rattle.combine.specs.declared.combine.TooLarge.{TooLarge}
use Rattle.model.specs.declared.model.Model.{Model}
use Rattle.tables.specs.declared.lawful.Extent.{Extent}
use Rattle.build.specs.Built.{Built}
use Rattle.stages.specs.Parts.{averaging}
use Rattle.stages.specs.Plans.{plan_of}
use Rattle.stages.proofs.Within.{average_kept}
use Rattle.averaging.specs.Averaged.{reading, Averageable}
use Rattle.averaging.proofs.Chances.{chance_limit}

abbrev none : Ends
none = ends (pos 0) (pos 0)

sameness : Same same_ends
sameness = record { means = λ x y e. search rules; self = λ x. search rules }

-- what is past the end of a list is within too
within_all : (leaves : List Ends) → ((j : ℕ) → j < length leaves → Within (2 ^ 41) (get_or leaves j none)) → (j : ℕ) → Within (2 ^ 41) (get_or leaves j none)
within_all leaves within j =
    ⊎_elim (within j)
    (λ past. subst (Within (2 ^ 41)) (sym (get_or_past leaves j none past)) (record { ordered = search rules; inside = (search rules, search rules) }))
    (cases_lt j (length leaves))

module _ (x : Model) (a i : ℕ) (leaves : List Ends) (nodes : List Node) (r : ℕ) (can : Averageable x.sizes.conditions leaves nodes r) where
  abbrev wanted : List Bool → Ends
  wanted = averaging (plan_of x) a i (reading x.sizes.conditions leaves nodes r)

  wanted_within : (bs : List Bool) → Within (2 ^ 41) (wanted bs)
  wanted_within bs =
      let one = within_all leaves can.within (reach x.sizes.conditions nodes 0 (set bs i true) r) in
      let zero = within_all leaves can.within (reach x.sizes.conditions nodes 0 (set bs i false) r) in
      let k = average_kept (2 ^ 41) _ _ _ (chance_limit x a i _) (record { ordered = one.ordered; inside = one.inside }) (record { ordered = zero.ordered; inside = zero.inside }) in
      record { ordered = k.ordered; inside = k.inside }

  pub again : (capacity : ℕ) → capacity ≤ 65535 → (leaves' : List Ends) (nodes' : List Node) (e : Result Extent TooLarge) → Built same_ends x.sizes.conditions wanted capacity leaves' nodes' e →
      IfOk e (λ y. Averageable x.sizes.conditions (take y.leaves leaves') (take y.nodes nodes') y.root)
  again capacity small leaves' nodes' (Err e) over = tt
  again capacity small leaves' nodes' (Ok y) stands =
      let long = length-take y.leaves leaves' in
      let few = stands.leaves_fit in
      let short : length (take y.leaves leaves') ≤ 65536 = omega arith in
      let back = subst (ReadsBack same_ends x.sizes.conditions wanted) stands.is (read_back same_ends sameness x.sizes.conditions wanted (subst (λ m. length m.leaves ≤ 65536) (sym stands.is) short)) in
      let all = subst (λ (m : Made Ends). AllIn (Within (2 ^ 41)) m.leaves) stands.is (reduced_all same_ends sameness x.sizes.conditions (Within (2 ^ 41)) wanted (λ bs _. wanted_within bs)) in
      record { lawful = back.lawful; rooted = back.named; within = λ j less. all j none less }
