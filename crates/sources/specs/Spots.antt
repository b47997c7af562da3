-- Three diagrams read together, from a reference into each.
--     roots S                the reference at which each of the three begins
--     levels S               how many levels there are: one for each condition after a move and before it
--     top S at               the first level that one of the three references tests, or `levels` where all are leaves
--     down S k b at          where the three lead over the level k, the bit there being b
--     AllNamed S at          each of the three names something in its diagram
--     AllReadable S          each of the three diagrams is readable
--     AllLawfullyRead S      each of the three diagrams is lawful as it is read, and its root names something
--     Allowed can a b c S    `can` holds of any three leaves of the three diagrams
--     values give a b c S k at bs    what `give` makes of the three leaves to which the references lead from level k on
use Rattle.std.specs.Prelude.{ℕ, ◌+◌, ◌<◌, min, Bool, List, length, slice_index_or}
use Rattle.sources.specs.declared.three.Sources.{Sources}
use Rattle.sources.specs.declared.spot.Spot.{Spot}
use Rattle.sources.specs.Inputs.{place, step, value, Named, Readable, LawfullyRead}

abbrev pub roots : {A B C : Type 0} → Sources A B C → Spot
roots S = record { first = S.first.table.root; second = S.second.table.root; third = S.third.table.root }

abbrev pub levels : {A B C : Type 0} → Sources A B C → ℕ
levels S = S.conditions + S.conditions

abbrev pub top : {A B C : Type 0} → Sources A B C → Spot → ℕ
top S at = min (place S.first (levels S) at.first) (min (place S.second (levels S) at.second) (place S.third (levels S) at.third))

abbrev pub down : {A B C : Type 0} → Sources A B C → ℕ → Bool → Spot → Spot
down S k b at = record { first = step S.first k b at.first; second = step S.second k b at.second; third = step S.third k b at.third }

pub record AllNamed {A B C : Type 0} (S : Sources A B C) (at : Spot) : Type 0 where
  pub first : Named S.first at.first
  pub second : Named S.second at.second
  pub third : Named S.third at.third

pub record AllReadable {A B C : Type 0} (S : Sources A B C) : Type 0 where
  pub first : Readable S.first (levels S)
  pub second : Readable S.second (levels S)
  pub third : Readable S.third (levels S)

pub record AllLawfullyRead {A B C : Type 0} (S : Sources A B C) : Type 0 where
  pub first : LawfullyRead S.conditions S.first
  pub second : LawfullyRead S.conditions S.second
  pub third : LawfullyRead S.conditions S.third

-- a, b and c stand past the ends of the lists of leaves: nothing reads them
abbrev pub Allowed : {A B C : Type 0} → (A → B → C → Type 0) → A → B → C → Sources A B C → Type 0
Allowed can a b c S =
    (i j k : ℕ) → i < length S.first.table.leaves.now → j < length S.second.table.leaves.now → k < length S.third.table.leaves.now →
    can (slice_index_or S.first.table.leaves.now i a) (slice_index_or S.second.table.leaves.now j b) (slice_index_or S.third.table.leaves.now k c)

abbrev pub values : {A B C X : Type 0} → (A → B → C → X) → A → B → C → Sources A B C → ℕ → Spot → List Bool → X
values give a b c S k at bs = give (value a S.first k bs at.first) (value b S.second k bs at.second) (value c S.third k bs at.third)
