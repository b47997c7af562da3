-- One condition after a move averaged out of a table of ranges, and what is read together for it.
--     reading n leaves nodes r        what the table says at each list of bits
--     Averageable n leaves nodes r    the table is lawful over a move of n conditions, its root names something, and its ranges can be averaged
--     Fixes n t i b k                 the diagram k is the table t over a move of n conditions, with the after-condition i at the bit b
--     ReadsChances x r k              the diagram k has the chances of the model x from the root r on, over the conditions before a move
--     Laid x r i t S                  S is t with the condition i at 1, the same with it at 0, and those chances
use Rattle.std.specs.Prelude.{◌≡◌, ℕ, ◌^◌, ◌<◌, Bool, true, false, List, length, pos, Some, None, slice_index_or}
use Rattle.diagram.specs.declared.conditions.After.{After}
use Rattle.diagram.specs.declared.nodes.Node.{Node}
use Rattle.diagram.specs.declared.table.Table.{Table}
use Rattle.diagram.specs.Lawful.{names, Lawful}
use Rattle.diagram.specs.Reads.{reach}
use Rattle.reduction.specs.Canonical.{both}
use Rattle.ranges.specs.declared.ends.Ends.{Ends}
use Rattle.ranges.specs.Ranges.{ends}
use Rattle.combinings.specs.Asked.{Within}
use Rattle.model.specs.declared.model.Model.{Model}
use Rattle.sources.specs.declared.input.Input.{Input}
use Rattle.sources.specs.declared.three.Sources.{Sources}

abbrev pub reading : ℕ → List Ends → List Node → ℕ → List Bool → Ends
reading n leaves nodes r bs = slice_index_or leaves (reach n nodes 0 bs r) (ends (pos 0) (pos 0))

pub record Averageable (n : ℕ) (leaves : List Ends) (nodes : List Node) (r : ℕ) : Type 0 where
  pub lawful : Lawful (both n) (length leaves) nodes
  pub rooted : names (length leaves) (length nodes) r ≡ true
  pub within : (j : ℕ) → j < length leaves → Within (2 ^ 41) (slice_index_or leaves j (ends (pos 0) (pos 0)))

pub record Fixes (n : ℕ) (t : Table Ends) (i : After) (b : Bool) (k : Input Ends) : Type 0 where
  pub leaves : k.table.leaves.now ≡ t.leaves.now
  pub nodes : k.table.nodes.now ≡ t.nodes.now
  pub root : k.table.root ≡ t.root
  pub offset : k.offset ≡ n
  pub fixed : k.fixed ≡ Some (record { level = i.0; bit = b })

pub record ReadsChances (x : Model) (r : ℕ) (k : Input ℕ) : Type 0 where
  pub leaves : k.table.leaves.now ≡ x.lists.chances.now
  pub nodes : k.table.nodes.now ≡ x.lists.chance_nodes.now
  pub root : k.table.root ≡ r
  pub offset : k.offset ≡ x.sizes.conditions
  pub free : k.fixed ≡ None

pub record Laid (x : Model) (r : ℕ) (i : After) (t : Table Ends) (S : Sources Ends Ends ℕ) : Type 0 where
  pub conditions : S.conditions ≡ x.sizes.conditions
  pub first : Fixes x.sizes.conditions t i true S.first
  pub second : Fixes x.sizes.conditions t i false S.second
  pub third : ReadsChances x r S.third
