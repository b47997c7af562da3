-- What rounding down and up mean: the divisor times the quotient is the nearest multiple on that side.
use Rattle.std.proofs.Common.{◌≡◌, ℕ, ◌+◌, ◌*◌, ◌/◌, ◌<◌, ◌≤◌, ℤ, pos, negsuc, ◌+ℤ◌, neg_ℤ, ◌≤ℤ◌, ◌<ℤ◌, refl, mul-suc, mul-add, arith}
use native.Mathlib.Nat.{mul-div-le, lt-mul-div-succ}
use borrow.Author.Differences.{sum_is_lem, neg_is, le_out, lt_out, at_most_in, below_in}
use Rattle.ranges.specs.Whole.{◌·◌, floor, ceiling}
use Rattle.std.specs.Int.{int_div_euclid}
use Rattle.ranges.proofs.Multiples.{multiple_is, multiple_neg}

-- a lies from d times its quotient to below the next multiple
around : (d : ℕ) → 0 < d → (a : ℕ) → (d * (a / d) ≤ a) × (a < d * (a / d) + d)
around d some a = omega (arith, mul-div-le a d, lt-mul-div-succ a some, mul-add d (a / d) 1)

pub floor_below : (d : ℕ) → 0 < d → (z : ℤ) → (d · floor d z) ≤ℤ z
floor_below d some (pos a) = at_most_in _ _ (omega (arith, multiple_is d (pos (a / d)), around d some a))
floor_below d some (negsuc a) = at_most_in _ _ (omega (arith, multiple_is d (negsuc (a / d)), around d some a, mul-suc d (a / d)))

pub floor_next : (d : ℕ) → 0 < d → (z : ℤ) → z <ℤ ((d · floor d z) +ℤ pos d)
floor_next d some (pos a) = below_in _ _ (omega (arith, multiple_is d (pos (a / d)), around d some a, sum_is_lem (d · pos (a / d)) (pos d)))
floor_next d some (negsuc a) = below_in _ _ (omega (arith, multiple_is d (negsuc (a / d)), around d some a, mul-suc d (a / d), sum_is_lem (d · negsuc (a / d)) (pos d)))

pub ceiling_above : (d : ℕ) → 0 < d → (z : ℤ) → z ≤ℤ (d · ceiling d z)
ceiling_above d some z =
    let w = floor d (neg_ℤ z) in
    let h = le_out _ _ (floor_below d some (neg_ℤ z)) in
    rw (multiple_neg d w) (at_most_in _ _ (omega (arith, neg_is (d · w), neg_is z)))

pub ceiling_next : (d : ℕ) → 0 < d → (z : ℤ) → (d · ceiling d z) <ℤ (z +ℤ pos d)
ceiling_next d some z =
    let w = floor d (neg_ℤ z) in
    let h = lt_out _ _ (floor_next d some (neg_ℤ z)) in
    rw (multiple_neg d w) (below_in _ _ (omega (arith, neg_is (d · w), neg_is z, sum_is_lem (d · w) (pos d), sum_is_lem z (pos d))))

pub euclid_floor : (z : ℤ) (d : ℕ) → int_div_euclid z (pos d) ≡ floor d z
euclid_floor (pos a) d = refl
euclid_floor (negsuc a) d = refl

-- a number that is the quotient has the quotient's two laws
pub floor_laws : (d : ℕ) → 0 < d → (z r : ℤ) → r ≡ floor d z → ((d · r) ≤ℤ z) × (z <ℤ ((d · r) +ℤ pos d))
floor_laws d some z r e = rw e (floor_below d some z, floor_next d some z)

pub ceiling_laws : (d : ℕ) → 0 < d → (z r : ℤ) → r ≡ ceiling d z → (z ≤ℤ (d · r)) × ((d · r) <ℤ (z +ℤ pos d))
ceiling_laws d some z r e = rw e (ceiling_above d some z, ceiling_next d some z)
