-- What the reader keeps of a reading, and what it does with one field.
--     Marks mark t             mark is the mark of how far t has come
--     sizes_in b               the sizes that stand in the body b
--     Stores k b now now' mark r    the field of tag k and body b is stored in the lists, which held `now` and then hold now', and r is the next mark; or it has no room
use Rattle.std.specs.Prelude.{◌≡◌, ℕ, true, false, List, length, Result, MatchResult, slice_index}
use Rattle.faults.specs.declared.FileFault.{FileFault}
use Rattle.faults.specs.declared.FileFault.TheVariants.{ListTooShort}
use Rattle.model_file.specs.declared.mark.Mark.{Mark}
use Rattle.model_file.specs.declared.sizes.Sizes.{Sizes}
use Rattle.model_file.specs.Entries.{number}
use Rattle.model_file.specs.Reading.{Lists, Taken, all_written, room_of, took, has_room, draft_of}
use Rattle.model_file.specs.Tags.{last_code}

pub record Marks (mark : Mark) (t : Taken) : Type 0 where
  pub place : mark.place ≡ t.place
  pub last : last_code mark.last ≡ t.last
  pub draft : mark.draft ≡ draft_of t
  pub roots : mark.roots ≡ length t.lists.roots

abbrev pub sizes_in : List ℕ → Sizes
sizes_in b = record { conditions = slice_index b 0; moves = slice_index b 1; discount = number 2 b 2 }

pub record Stored (k : ℕ) (b : List ℕ) (t : Taken) (old now now' : Lists) (next : Mark) : Type 0 where
  pub room : has_room (room_of now) t.lists k b ≡ true
  pub marked : Marks next (took t k b)
  pub kept : now' ≡ all_written (took t k b).lists old

pub record Unstored (k : ℕ) (b : List ℕ) (t : Taken) (now now' : Lists) (fault : FileFault) : Type 0 where
  pub room : has_room (room_of now) t.lists k b ≡ false
  pub named : fault ≡ ListTooShort
  pub kept : now' ≡ now

abbrev pub Stores : ℕ → List ℕ → Lists → Lists → Mark → Result Mark FileFault → Type 0
Stores k b now now' mark r =
    (t : Taken) (old : Lists) → Marks mark t → now ≡ all_written t.lists old → MatchResult r (Stored k b t old now now') (Unstored k b t now now')
