-- Tests in an order of their own, each with the fault that it gives where it fails.
--     test b f          the test b, with the fault f
--     first_fault ts    the fault of the first of the tests that fails, or none
--     passes ts         none of the tests fails
--     Verdict ts r      r is the answer of these tests: it is accepted, or refused with the first fault
--     each n f          the tests f 0, f 1, .., n of them
use Rattle.std.specs.Prelude.{◌≡◌, ℕ, Bool, true, cond, ◌&&◌, List, [], ◌∷◌, map, Some, None, Ok, Err, Option, Result}
use Rattle.std.specs.List.{range_with_len}

pub record Test (F : Type 0) : Type 0 where
  pub holds : Bool
  pub fault : F

abbrev pub test : {F : Type 0} → Bool → F → Test F
test b f = record { holds = b; fault = f }

abbrev pub first_fault : {F : Type 0} → List (Test F) → Option F
first_fault [] = None
first_fault (t ∷ ts) = cond t.holds (first_fault ts) (Some t.fault)

abbrev pub passes : {F : Type 0} → List (Test F) → Bool
passes [] = true
passes (t ∷ ts) = t.holds && passes ts

abbrev pub Verdict : {F : Type 0} → List (Test F) → Result (Unit {0}) F → Type 0
Verdict ts (Ok x) = first_fault ts ≡ None
Verdict ts (Err f) = first_fault ts ≡ Some f

abbrev pub each : {F : Type 0} → ℕ → (ℕ → Test F) → List (Test F)
each n f = map f (range_with_len 0 n)
