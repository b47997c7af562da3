-- A multiple of an integer, read by its two parts; its sign and its order.
use Rattle.std.proofs.Common.{◌≡◌, ℕ, ◌+◌, ◌*◌, ◌≤◌, ℤ, pos, neg_ℤ, ◌≤ℤ◌, ap, mul-le-mul_left, mul-add, arith}
use borrow.Author.Differences.{up, down, product_is, same_in, neg_is, le_out, at_most_in}
use Rattle.ranges.specs.Whole.{◌·◌}

pub multiple_is : (k : ℕ) (z : ℤ) → (up (k · z) ≡ k * up z) × (down (k · z) ≡ k * down z)
unfolding ◌·◌
multiple_is k z = omega (arith, product_is (pos k) z)

pub multiple_neg : (k : ℕ) (z : ℤ) → k · neg_ℤ z ≡ neg_ℤ (k · z)
multiple_neg k z =
    let a = multiple_is k z in
    let b = multiple_is k (neg_ℤ z) in
    let p = ap (λ n. k * n) (neg_is z).0 in
    let q = ap (λ n. k * n) (neg_is z).1 in
    same_in _ _ (omega (arith, neg_is (k · z)))

pub multiple_mono : (k : ℕ) (x y : ℤ) → x ≤ℤ y → (k · x) ≤ℤ (k · y)
multiple_mono k x y h =
    let a = multiple_is k x in
    let b = multiple_is k y in
    let m : k * (up x + down y) ≤ k * (up y + down x) = mul-le-mul_left k (le_out x y h) in
    at_most_in _ _ (omega (arith, mul-add k (up x) (down y), mul-add k (up y) (down x)))
