-- What a diagram comes to as one of those that are read together.
--     fixed_at i k x      the diagram i with the level k fixed at the bit x
--     StateRead n blank i r s    a table over states, read at the state s: over the conditions before a move, whatever the bits after it are, and over those after it, whatever the bits before it are
--     StatesAreRead       every lawful table over states is read so
--     FixedLevelsAreSet   a diagram with a level fixed is the diagram at the bits with the fixed one in that place
use Rattle.std.specs.Prelude.{◌≡◌, ℕ, ◌+◌, ◌<◌, Bool, List, ◌++◌, length, Some, slice_index_or, slice_set}
use Rattle.diagram.specs.Lawful.{Lawful}
use Rattle.diagram.specs.Order.{states}
use Rattle.diagram.specs.Reads.{leaf_of}
use Rattle.diagram.specs.States.{bits_from}
use Rattle.sources.specs.declared.input.Input.{Input}
use Rattle.sources.specs.Inputs.{value, Named, Unfixed}

abbrev pub fixed_at : {X : Type 0} → Input X → ℕ → Bool → Input X
fixed_at i k x = record { table = i.table; offset = i.offset; fixed = Some (record { level = k; bit = x }) }

pub record StateRead {X : Type 0} (n : ℕ) (blank : X) (i : Input X) (r s : ℕ) : Type 0 where
  pub before : i.offset ≡ n → (bs : List Bool) → length bs ≡ n → value blank i 0 (bs ++ bits_from 0 n s) r ≡ slice_index_or i.table.leaves.now (leaf_of n i.table.nodes.now r s) blank
  pub after : i.offset ≡ 0 → (bs : List Bool) → length bs ≡ n → value blank i 0 (bits_from 0 n s ++ bs) r ≡ slice_index_or i.table.leaves.now (leaf_of n i.table.nodes.now r s) blank

abbrev pub StatesAreRead : {X : Type 0} → X → Type 0
StatesAreRead {X} blank =
    (n : ℕ) (i : Input X) (r s : ℕ) → Lawful (states n) (length i.table.leaves.now) i.table.nodes.now → Named i r → Unfixed i.fixed (n + n) → StateRead n blank i r s

abbrev pub FixedLevelsAreSet : {X : Type 0} → X → Type 0
FixedLevelsAreSet {X} blank =
    (i : Input X) (k : ℕ) (x : Bool) (bs : List Bool) (r : ℕ) → k < length bs → Unfixed i.fixed (length bs) → value blank (fixed_at i k x) 0 bs r ≡ value blank i 0 (slice_set bs k x) r
