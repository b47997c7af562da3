-- What a memo of a survey says. f k at is the figure over the levels from k on, read from the three references `at`.
--     greatest_from S k f           the greatest of f over the levels from k to the last
--     Passed S f best at            what is read from `at` has nothing above the best so far
--     Surveyed S f es stamp best    so has every entry that was made under the stamp
use Rattle.std.specs.Prelude.{◌≡◌, ℕ, ◌-◌, ◌<◌, ◌≤◌, Bool, List, length}
use Rattle.sources.specs.declared.entry.Entry.{Entry}
use Rattle.sources.specs.declared.spot.Spot.{Spot}
use Rattle.sources.specs.declared.three.Sources.{Sources}
use Rattle.sources.specs.Memos.{entry_at}
use Rattle.sources.specs.Spots.{levels, top}
use Rattle.survey.specs.Greatest.{greatest}

abbrev pub greatest_from : {A B C : Type 0} → Sources A B C → ℕ → (List Bool → ℕ) → ℕ
greatest_from S k f = greatest (levels S - k) f

abbrev pub Passed : {A B C : Type 0} → Sources A B C → (ℕ → Spot → List Bool → ℕ) → ℕ → Spot → Type 0
Passed S f best at = greatest_from S (top S at) (f (top S at) at) ≤ best

abbrev pub Surveyed : {A B C : Type 0} → Sources A B C → (ℕ → Spot → List Bool → ℕ) → List Entry → ℕ → ℕ → Type 0
Surveyed S f es stamp best = (j : ℕ) → j < length es → (entry_at es j).stamp ≡ stamp → Passed S f best (entry_at es j).spot
