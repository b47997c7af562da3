-- The laws of a natural multiple of a whole number.
use Rattle.std.proofs.Common.{◌≡◌, ℕ, ◌+◌, ◌*◌, ◌<◌, ℤ, pos, ◌+ℤ◌, ◌≤ℤ◌, sym, ap, ◌∙◌, mul_assoc, mul_comm, add-mul, one-mul, mul-zero, mul-add, arith}
use native.Mathlib.Nat.{le_of_mul-le-mul_left}
use borrow.Author.Differences.{up, down, same_in, sum_is_lem, le_out, at_most_in}
use Rattle.ranges.specs.Whole.{◌·◌}
use Rattle.ranges.proofs.Multiples.{multiple_is}

pub times_sum : (k : ℕ) (x y : ℤ) → k · (x +ℤ y) ≡ (k · x) +ℤ (k · y)
times_sum k x y =
    let s : k * (up (x +ℤ y) + down x + down y) ≡ k * (down (x +ℤ y) + up x + up y) = ap (λ n. k * n) (sum_is_lem x y) in
    let l = mul-add k (up (x +ℤ y) + down x) (down y) in
    let l' = mul-add k (up (x +ℤ y)) (down x) in
    let r = mul-add k (down (x +ℤ y) + up x) (up y) in
    let r' = mul-add k (down (x +ℤ y)) (up x) in
    let a = multiple_is k (x +ℤ y) in
    let b = multiple_is k x in
    let c = multiple_is k y in
    same_in _ _ (omega (arith, sum_is_lem (k · x) (k · y)))

pub sum_times : (j k : ℕ) (z : ℤ) → (j + k) · z ≡ (j · z) +ℤ (k · z)
sum_times j k z =
    let a = multiple_is (j + k) z in
    let b = multiple_is j z in
    let c = multiple_is k z in
    same_in _ _ (omega (arith, add-mul j k (up z), add-mul j k (down z), sum_is_lem (j · z) (k · z)))

pub times_times : (j k : ℕ) (z : ℤ) → j · (k · z) ≡ (j * k) · z
times_times j k z =
    let a = multiple_is j (k · z) in
    let b = multiple_is k z in
    let c = multiple_is (j * k) z in
    let u = ap (λ n. j * n) b.0 in
    let d = ap (λ n. j * n) b.1 in
    same_in _ _ (omega (arith, mul_assoc j k (up z), mul_assoc j k (down z)))

pub times_swap : (j k : ℕ) (z : ℤ) → j · (k · z) ≡ k · (j · z)
times_swap j k z = times_times j k z ∙ ap (λ n. n · z) (mul_comm j k) ∙ sym (times_times k j z)

pub one_times : (z : ℤ) → 1 · z ≡ z
one_times z = let a = multiple_is 1 z in same_in _ _ (omega (arith, one-mul (up z), one-mul (down z)))

pub times_zero : (k : ℕ) → k · pos 0 ≡ pos 0
times_zero k = let a = multiple_is k (pos 0) in same_in _ _ (omega (arith, mul-zero k))

pub times_pos : (k n : ℕ) → k · pos n ≡ pos (k * n)
times_pos k n = let a = multiple_is k (pos n) in same_in _ _ (omega (arith, mul-zero k))

-- a common factor that is not 0 falls away
pub times_cancel : (d : ℕ) (x y : ℤ) → 0 < d → (d · x) ≤ℤ (d · y) → x ≤ℤ y
times_cancel d x y some h =
    let a = multiple_is d x in
    let b = multiple_is d y in
    let h' = le_out _ _ h in
    let l = mul-add d (up x) (down y) in
    let r = mul-add d (up y) (down x) in
    at_most_in _ _ (le_of_mul-le-mul_left {m = up x + down y} {n = up y + down x} {k = d} (omega arith) some)
