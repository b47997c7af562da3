-- Loading a file is reading it and then checking what was read.
--     answered d o          the draft d where there is no fault, or else the fault
--     joined q l             a reading's answer q, gone on with: a fault stays, a draft is checked
--     Loads file old now r   the file is read into the lists, which held `old` and then hold `now`, and r joins the reading and the check
use Rattle.std.specs.Prelude.{◌≡◌, ℕ, List, Some, None, Ok, Err, Option, Result}
use Rattle.faults.specs.declared.Fault.{Fault}
use Rattle.faults.specs.Tests.{first_fault}
use Rattle.model_file.specs.declared.draft.Draft.{Draft}
use Rattle.model_file.specs.Reading.{Lists, ReadInto}
use Rattle.model.specs.Models.{check_tests}

abbrev pub answered : Draft → Option Fault → Result Draft Fault
answered d None = Ok d
answered d (Some f) = Err f

abbrev pub joined : Result Draft Fault → Lists → Result Draft Fault
joined (Ok d) l = answered d (first_fault (check_tests d l))
joined (Err f) l = Err f

pub record Loads (file : List ℕ) (old now : Lists) (r : Result Draft Fault) : Type 0 where
  pub read_answer : Result Draft Fault
  pub reading : ReadInto file old now read_answer
  pub answer : r ≡ joined read_answer now
