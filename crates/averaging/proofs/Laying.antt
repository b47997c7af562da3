-- What is laid out to average a condition can be read together, and comes to the average.
use Rattle.std.proofs.Common.{◌≡◌, ℕ, ◌+◌, ◌<◌, Bool, true, false, List, [], get_or, pos, sym, ap, ◌∙◌, subst, MatchResult, Result, arith}
use Rattle.diagram.specs.declared.conditions.After.{After}
use Rattle.diagram.specs.declared.nodes.Node.{Node}
use Rattle.diagram.specs.declared.table.Table.{Table}
use Rattle.diagram.specs.Reads.{leaf_of}
use Rattle.reduction.specs.Canonical.{Agree}
use Rattle.reduction.specs.Walk.{reduced}
use Rattle.reduction.proofs.Once.{walk_agree}
use Rattle.ranges.specs.declared.ends.Ends.{Ends}
use Rattle.ranges.specs.Ranges.{ends, average}
use Rattle.ranges.specs.Sameness.{same_ends}
use Rattle.combinings.specs.Asked.{Averaging}
use Rattle.model.specs.declared.model.Model.{Model}
use Rattle.model.specs.Asking.{chance_root}
use Rattle.sources.specs.declared.three.Sources.{Sources}
use Rattle.sources.specs.Inputs.{Named, Readable}
use Rattle.sources.specs.Spots.{roots, AllNamed, AllReadable, Allowed, values}
use Rattle.combine.specs.declared.combine.TooLarge.{TooLarge}
use Rattle.combine.specs.Tables.{Over}
use Rattle.tables.specs.declared.lawful.Extent.{Extent}
use Rattle.build.specs.Built.{Stands, Built}
use Rattle.stages.specs.Parts.{over_states, averaging}
use Rattle.stages.specs.Plans.{plan_of}
use Rattle.averaging.specs.Averaged.{reading, Averageable, Laid}
use Rattle.averaging.proofs.Chances.{chances_readable, chances_limited, root_named, chances_read}
use Rattle.averaging.proofs.Fixing.{fixed_read, fixed_readable, fixed_named, fixed_within}

abbrev none : Ends
none = ends (pos 0) (pos 0)

module _ (x : Model) (r : ℕ) (i : After) (t : Table Ends) (can : Averageable x.sizes.conditions t.leaves.now t.nodes.now t.root) (S : Sources Ends Ends ℕ) (laid : Laid x r i t S) where
  abbrev n : ℕ
  n = x.sizes.conditions

  levels_are : n + n ≡ S.conditions + S.conditions
  levels_are = sym (ap (λ n. n + n) laid.conditions)

  pub all_readable : AllReadable S
  all_readable =
      record {
        first = subst (Readable S.first) levels_are (fixed_readable n t i true S.first laid.first can);
        second = subst (Readable S.second) levels_are (fixed_readable n t i false S.second laid.second can);
        third = subst (Readable S.third) levels_are (chances_readable x r S.third laid.third);
      }

  pub allowed : Allowed (λ one zero chance. Averaging chance one zero) none none 0 S
  allowed j k h one zero chance =
      record {
        at_one = fixed_within n t i true S.first laid.first can j one;
        at_zero = fixed_within n t i false S.second laid.second can k zero;
        part = chances_limited x r S.third laid.third h chance;
      }

  module _ (a : ℕ) (at : r ≡ get_or x.lists.roots.now (chance_root n a i.0) 0) (move : a < x.sizes.moves) (condition : i.0 < n) where
    chances_named : Named S.third S.third.table.root
    chances_named = root_named x r S.third laid.third a i.0 at move condition

    pub all_named : AllNamed S (roots S)
    all_named =
        record {
          first = fixed_named n t i true S.first laid.first can;
          second = fixed_named n t i false S.second laid.second can;
          third = chances_named;
        }

    abbrev combined : List Bool → Ends
    combined = values (λ one zero chance. average chance one zero) none none 0 S 0 (roots S)

    abbrev wanted : List Bool → Ends
    wanted = averaging (plan_of x) a i.0 (reading n t.leaves.now t.nodes.now t.root)

    agrees : Agree (n + n) combined wanted
    agrees bs long =
        let one = fixed_read n t i true S.first laid.first bs (omega arith) in
        let zero = fixed_read n t i false S.second laid.second bs (omega arith) in
        let chance = chances_read x r S.third laid.third chances_named bs long ∙ ap (λ z. over_states n (λ s. get_or x.lists.chances.now (leaf_of n x.lists.chance_nodes.now z s) 0) bs) at in
        λ j. average (chance j) (one j) (zero j)

    same_table : reduced same_ends S.conditions combined ≡ reduced same_ends n wanted
    same_table =
        ap (λ m. reduced same_ends m combined) laid.conditions ∙ walk_agree same_ends n (n + n) 0 combined wanted [] [] agrees

    pub averaged : (capacity : ℕ) (leaves : List Ends) (nodes : List Node) (r : Result Extent TooLarge) → Built same_ends S.conditions combined capacity leaves nodes r → Built same_ends n wanted capacity leaves nodes r
    averaged capacity leaves nodes r = subst (λ m. MatchResult r (Stands m capacity leaves nodes) (λ _. Over capacity capacity m)) same_table
