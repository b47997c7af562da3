-- The first of some numbered tests that fails.
--     FirstFailing p n r    r is the least number below n at which p fails, or none where p holds at all of them
use Rattle.std.specs.Prelude.{◌≡◌, ℕ, ◌<◌, Bool, true, false, Some, None, Option}

abbrev pub HoldsBelow : (ℕ → Bool) → ℕ → Type 0
HoldsBelow p n = (k : ℕ) → k < n → p k ≡ true

abbrev pub FirstFailing : (ℕ → Bool) → ℕ → Option ℕ → Type 0
FirstFailing p n None = HoldsBelow p n
FirstFailing p n (Some k) = (k < n) × (p k ≡ false) × HoldsBelow p k
