-- Multiples and mixes of numbers within ±2^41: they keep the order and the limit.
use Rattle.std.proofs.Common.{◌≡◌, ℕ, ◌-◌, ◌*◌, ◌^◌, ◌≤◌, ℤ, pos, neg_ℤ, ◌≤ℤ◌, arith}
use borrow.Author.Differences.{sum_is_lem, neg_is, le_out, at_most_in}
use Rattle.ranges.specs.Whole.{◌·◌}
use Rattle.ranges.specs.Ranges.{mixed}
use Rattle.ranges.proofs.Multiples.{multiple_is, multiple_mono}

pub multiple_low : (k : ℕ) (z : ℤ) → neg_ℤ (pos (2 ^ 41)) ≤ℤ z → neg_ℤ (pos (k * 2 ^ 41)) ≤ℤ (k · z)
multiple_low k z h = at_most_in _ _ (omega (arith, multiple_is k (neg_ℤ (pos (2 ^ 41))), neg_is (pos (k * 2 ^ 41)), le_out _ _ (multiple_mono k _ z h)))

pub multiple_high : (k : ℕ) (z : ℤ) → z ≤ℤ pos (2 ^ 41) → (k · z) ≤ℤ pos (k * 2 ^ 41)
multiple_high k z h = at_most_in _ _ (omega (arith, multiple_is k (pos (2 ^ 41)), le_out _ _ (multiple_mono k z _ h)))

-- ---- a mix
mixed_mono : (c : ℕ) (x y x' y' : ℤ) → x ≤ℤ x' → y ≤ℤ y' → mixed c x y ≤ℤ mixed c x' y'
mixed_mono c x y x' y' h k =
    at_most_in _ _
    (omega (arith, le_out _ _ (multiple_mono c x x' h), le_out _ _ (multiple_mono (10000 - c) y y' k), sum_is_lem (c · x) ((10000 - c) · y), sum_is_lem (c · x') ((10000 - c) · y')))

mixed_low : (c : ℕ) (x y : ℤ) → c ≤ 10000 → neg_ℤ (pos (2 ^ 41)) ≤ℤ x → neg_ℤ (pos (2 ^ 41)) ≤ℤ y → neg_ℤ (pos (10000 * 2 ^ 41)) ≤ℤ mixed c x y
mixed_low c x y part h k =
    at_most_in _ _ (omega (arith, le_out _ _ (multiple_low c x h), le_out _ _ (multiple_low (10000 - c) y k), neg_is (pos (c * 2 ^ 41)), neg_is (pos ((10000 - c) * 2 ^ 41)), sum_is_lem (c · x) ((10000 - c) · y)))

mixed_high : (c : ℕ) (x y : ℤ) → c ≤ 10000 → x ≤ℤ pos (2 ^ 41) → y ≤ℤ pos (2 ^ 41) → mixed c x y ≤ℤ pos (10000 * 2 ^ 41)
mixed_high c x y part h k =
    at_most_in _ _ (omega (arith, le_out _ _ (multiple_high c x h), le_out _ _ (multiple_high (10000 - c) y k), sum_is_lem (c · x) ((10000 - c) · y)))

-- ---- the same for numbers that are such mixes and multiples
pub mixed_laws : (c : ℕ) (x y x' y' a b : ℤ) → c ≤ 10000 → a ≡ mixed c x y → b ≡ mixed c x' y' → x ≤ℤ x' → y ≤ℤ y'
    → neg_ℤ (pos (2 ^ 41)) ≤ℤ x → neg_ℤ (pos (2 ^ 41)) ≤ℤ y → x' ≤ℤ pos (2 ^ 41) → y' ≤ℤ pos (2 ^ 41)
    → (a ≤ℤ b) × ((neg_ℤ (pos (10000 * 2 ^ 41)) ≤ℤ a) × (b ≤ℤ pos (10000 * 2 ^ 41)))
mixed_laws c x y x' y' a b part e f hx hy lx ly ux uy = rw (e, f) (mixed_mono c x y x' y' hx hy, (mixed_low c x y part lx ly, mixed_high c x' y' part ux uy))

pub multiples_ordered : (k : ℕ) (x y a b : ℤ) → a ≡ k · x → b ≡ k · y → x ≤ℤ y → a ≤ℤ b
multiples_ordered k x y a b e f h = rw (e, f) (multiple_mono k x y h)
