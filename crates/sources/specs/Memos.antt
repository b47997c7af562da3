-- A memo of what was found at three references: a list in which each triple has one slot, and a later one takes the place of an earlier.
--     slot at places              the slot of the triple `at`
--     holds e stamp at            the entry e is of the triple `at`, and was made under the stamp
--     kept stamp at result        the entry for a result
--     remembered es stamp at      the memo holds a result for `at`
--     recalled es stamp at        the result that the memo holds for `at`, or none
--     Stamped es stamp            no entry was made under a later stamp
--     Unused es stamp             no entry was made under the stamp
use Rattle.std.specs.Prelude.{ℕ, ◌+◌, ◌*◌, ◌%◌, ◌<◌, ◌≤◌, Bool, cond, ◌&&◌, List, length, Some, None, Option, ◌==◌, ◌≢◌, slice_index_or}
use Rattle.sources.specs.declared.entry.Entry.{Entry}
use Rattle.sources.specs.declared.spot.Spot.{Spot}

abbrev pub slot : Spot → ℕ → ℕ
slot at places = (at.first * 805306457 + at.second * 402653189 + at.third * 1610612741) % places

abbrev pub same_spot : Spot → Spot → Bool
same_spot x y = x.first == y.first && (x.second == y.second && x.third == y.third)

abbrev pub holds : Entry → ℕ → Spot → Bool
holds e stamp at = e.stamp == stamp && same_spot e.spot at

abbrev pub kept : ℕ → Spot → ℕ → Entry
kept stamp at result = record { stamp = stamp; spot = at; result = result }

-- what stands past the end of a memo: nothing reads it
abbrev pub none : Entry
none = kept 0 (record { first = 0; second = 0; third = 0 }) 0

abbrev pub entry_at : List Entry → ℕ → Entry
entry_at es j = slice_index_or es j none

abbrev pub remembered : List Entry → ℕ → Spot → Bool
remembered es stamp at = holds (entry_at es (slot at (length es))) stamp at

abbrev pub recalled : List Entry → ℕ → Spot → Option ℕ
recalled es stamp at = cond (remembered es stamp at) (Some (entry_at es (slot at (length es))).result) None

abbrev pub Stamped : List Entry → ℕ → Type 0
Stamped es stamp = (j : ℕ) → j < length es → (entry_at es j).stamp ≤ stamp

abbrev pub Unused : List Entry → ℕ → Type 0
Unused es stamp = (j : ℕ) → j < length es → (entry_at es j).stamp ≢ stamp
