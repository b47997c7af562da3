-- Averaging keeps ends in order and within a limit.
use Rattle.std.proofs.Common.{◌≡◌, ℕ, zero, suc, ◌+◌, ◌-◌, ◌*◌, ◌^◌, ◌<◌, ◌≤◌, ℤ, pos, neg_ℤ, ◌≤ℤ◌, sym, ap, ◌∙◌, add-mul, arith}
use borrow.Author.Differences.{ints, up, down, neg_is}
use Rattle.ranges.specs.declared.ends.Ends.{Ends}
use Rattle.ranges.specs.Ranges.{Ordered, Inside, mixed, average}
use Rattle.ranges.specs.Whole.{floor, ceiling}
use Rattle.ranges.proofs.Multiples.{multiple_is, multiple_mono}
use Rattle.ranges.proofs.Quotients.{floor_below, floor_next, ceiling_above, ceiling_next}
use Rattle.stages.specs.Parts.{part}

-- ends in order and within ±limit
pub record Kept (limit : ℕ) (e : Ends) : Type 0 where
  pub ordered : Ordered e
  pub inside : Inside limit e

both : (c ℓ : ℕ) → c ≤ 10000 → c * ℓ + (10000 - c) * ℓ ≡ 10000 * ℓ
both c ℓ limit = let e : c + (10000 - c) ≡ 10000 = omega arith in sym (add-mul c (10000 - c) ℓ) ∙ ap (λ z. z * ℓ) e

mixed_least : (ℓ c : ℕ) (x y : ℤ) → c ≤ 10000 → neg_ℤ (pos ℓ) ≤ℤ x → neg_ℤ (pos ℓ) ≤ℤ y → neg_ℤ (pos (10000 * ℓ)) ≤ℤ mixed c x y
mixed_least ℓ c x y limit h k =
    let d : down (neg_ℤ (pos ℓ)) ≡ ℓ = omega (arith, neg_is (pos ℓ)) in
    let u : up (neg_ℤ (pos ℓ)) ≡ 0 = omega (arith, neg_is (pos ℓ)) in
    omega (
      arith,
      ints,
      both c ℓ limit,
      multiple_mono c (neg_ℤ (pos ℓ)) x h,
      multiple_mono (10000 - c) (neg_ℤ (pos ℓ)) y k,
      multiple_is c (neg_ℤ (pos ℓ)),
      multiple_is (10000 - c) (neg_ℤ (pos ℓ)),
      ap (λ z. c * z) d,
      ap (λ z. (10000 - c) * z) d,
      ap (λ z. c * z) u,
      ap (λ z. (10000 - c) * z) u,
    )

mixed_greatest : (ℓ c : ℕ) (x y : ℤ) → c ≤ 10000 → x ≤ℤ pos ℓ → y ≤ℤ pos ℓ → mixed c x y ≤ℤ pos (10000 * ℓ)
mixed_greatest ℓ c x y limit h k =
    omega (arith, ints, both c ℓ limit, multiple_mono c x (pos ℓ) h, multiple_mono (10000 - c) y (pos ℓ) k, multiple_is c (pos ℓ), multiple_is (10000 - c) (pos ℓ))

mixed_ordered : (c : ℕ) (x y x' y' : ℤ) → x ≤ℤ x' → y ≤ℤ y' → mixed c x y ≤ℤ mixed c x' y'
mixed_ordered c x y x' y' h k = omega (arith, ints, multiple_mono c x x' h, multiple_mono (10000 - c) y y' k)

pub average_kept : (ℓ c : ℕ) (e f : Ends) → c ≤ 10000 → Kept ℓ e → Kept ℓ f → Kept ℓ (average c e f)
average_kept ℓ c e f limit p q =
    let l = mixed c e.low f.low in
    let h = mixed c e.high f.high in
    let least = mixed_least ℓ c e.low f.low limit p.inside.0 q.inside.0 in
    let greatest = mixed_greatest ℓ c e.high f.high limit p.inside.1 q.inside.1 in
    let order = mixed_ordered c e.low f.low e.high f.high p.ordered q.ordered in
    let a = floor_below 10000 (omega arith) l in
    let b = floor_next 10000 (omega arith) l in
    let x = ceiling_above 10000 (omega arith) h in
    let y = ceiling_next 10000 (omega arith) h in
    let m = multiple_is 10000 (floor 10000 l) in
    let k = multiple_is 10000 (ceiling 10000 h) in
    record { ordered = omega (arith, ints); inside = (omega (arith, ints), omega (arith, ints)) }

pub part_kept : (ℓ n : ℕ) (c : ℕ → ℕ) (V : ℕ → Ends) → ((i : ℕ) → i < n → c i ≤ 10000) → ((t : ℕ) → Kept ℓ (V t)) → (d t : ℕ) → d ≤ n → Kept ℓ (part c n V d t)
part_kept ℓ n c V ch h zero t le = h t
part_kept ℓ n c V ch h (suc d) t le = average_kept ℓ (c (n - suc d)) (part c n V d (t + 2 ^ (n - suc d))) (part c n V d t) (ch (n - suc d) (omega arith)) (part_kept ℓ n c V ch h d _ (omega arith)) (part_kept ℓ n c V ch h d t (omega arith))
