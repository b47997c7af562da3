-- The bits of a state: past the number's width, and a run of them cut in two.
use Rattle.std.proofs.Common.{◌≡◌, ℕ, zero, suc, ◌+◌, ◌%◌, ◌^◌, ◌<◌, ◌≤◌, false, eqb, ◌∷◌, ◌++◌, length, refl, ap, ◌∙◌, add-zero, add-suc, suc-add, zero-add, arith, pow_mono}
use native.Mathlib.Nat.{div-eq_of_lt}
use Rattle.diagram.specs.States.{bit, bits_from}

pub bit_clear : (i s : ℕ) → s < 2 ^ i → bit i s ≡ false
bit_clear i s h = ap (λ q. eqb (q % 2) 1) (div-eq_of_lt h)

pub bit_past : (i s : ℕ) → s < 2 ^ 64 → 64 ≤ i → bit i s ≡ false
bit_past i s small past = let big : 2 ^ 64 ≤ 2 ^ i = pow_mono past in bit_clear i s (omega arith)

pub length_bits : (i n s : ℕ) → length (bits_from i n s) ≡ n
length_bits i zero s = refl
length_bits i (suc n) s = ap suc (length_bits (suc i) n s)

pub bits_split : (i m n s : ℕ) → bits_from i (m + n) s ≡ bits_from i m s ++ bits_from (i + m) n s
bits_split i zero n s = rw (zero-add, add-zero)
bits_split i (suc m) n s = rw suc-add (ap (λ bs. bit i s ∷ bs) (bits_split (suc i) m n s ∙ rw (suc-add, ← add-suc)))
