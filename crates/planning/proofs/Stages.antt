-- Bounds go through the averages: what lies below the high ends, or above the low ends, before a move, does so after it.
use Rattle.std.proofs.Common.{◌≡◌, ℕ, zero, suc, ◌+◌, ◌-◌, ◌*◌, ◌^◌, ◌<◌, ◌≤◌, ℤ, ◌+ℤ◌, ◌≤ℤ◌, sym, ap, ◌∙◌, mul_assoc, pow-suc, mul-one, arith}
use native.Mathlib.Nat.{pow-succ', two-pow-succ}
use borrow.Author.Differences.{ints}
use Rattle.ranges.specs.declared.ends.Ends.{Ends}
use Rattle.ranges.specs.Ranges.{mixed, average}
use Rattle.ranges.specs.Whole.{◌·◌, floor, ceiling}
use Rattle.ranges.proofs.Multiples.{multiple_mono}
use Rattle.ranges.proofs.Quotients.{floor_below, ceiling_above}
use Rattle.planning.specs.Passes.{averaged}
use Rattle.planning.specs.Values.{nested}
use Rattle.planning.proofs.Scaled.{times_sum, sum_times, times_times, times_swap, one_times}

-- a multiple goes under a mix
pub times_mixed : (k c : ℕ) (x y : ℤ) → k · mixed c x y ≡ (c · (k · x)) +ℤ ((10000 - c) · (k · y))
times_mixed k c x y = times_sum k (c · x) ((10000 - c) · y) ∙ ap (λ z. z +ℤ (k · ((10000 - c) · y))) (times_swap k c x) ∙ ap (λ z. (c · (k · x)) +ℤ z) (times_swap k (10000 - c) y)

-- the two parts of the whole
parts : (c : ℕ) (r : ℤ) → c ≤ 10000 → (c · r) +ℤ ((10000 - c) · r) ≡ 10000 · r
parts c r h = sym (sum_times c (10000 - c) r) ∙ ap (λ k. k · r) (omega arith)

-- a mix lies below another by a margin of 10,000 times r, where its parts lie below by r
pub mix_below : (c : ℕ) (x y x' y' r : ℤ) → c ≤ 10000 → x ≤ℤ (x' +ℤ r) → y ≤ℤ (y' +ℤ r) → ((c · x) +ℤ ((10000 - c) · y)) ≤ℤ (((c · x') +ℤ ((10000 - c) · y')) +ℤ (10000 · r))
mix_below c x y x' y' r h p q =
    let a = multiple_mono c x (x' +ℤ r) p in
    let b = multiple_mono (10000 - c) y (y' +ℤ r) q in
    omega (arith, ints, times_sum c x' r, times_sum (10000 - c) y' r, parts c r h)

high_step : (δ κ c : ℕ) (x y u v r : ℤ) → c ≤ 10000 → (δ · x) ≤ℤ ((κ · u) +ℤ r) → (δ · y) ≤ℤ ((κ · v) +ℤ r) →
    (δ · mixed c x y) ≤ℤ (((κ * 10000) · ceiling 10000 (mixed c u v)) +ℤ (10000 · r))
high_step δ κ c x y u v r h p q =
    let m = mix_below c (δ · x) (δ · y) (κ · u) (κ · v) r h p q in
    let up : (κ · mixed c u v) ≤ℤ (κ · (10000 · ceiling 10000 (mixed c u v))) = multiple_mono κ _ _ (ceiling_above 10000 (omega arith) (mixed c u v)) in
    omega (arith, ints, times_mixed δ c x y, times_mixed κ c u v, times_times κ 10000 (ceiling 10000 (mixed c u v)))

low_step : (δ κ c : ℕ) (x y u v r : ℤ) → c ≤ 10000 → (κ · u) ≤ℤ ((δ · x) +ℤ r) → (κ · v) ≤ℤ ((δ · y) +ℤ r) →
    ((κ * 10000) · floor 10000 (mixed c u v)) ≤ℤ ((δ · mixed c x y) +ℤ (10000 · r))
low_step δ κ c x y u v r h p q =
    let m = mix_below c (κ · u) (κ · v) (δ · x) (δ · y) r h p q in
    let down : (κ · (10000 · floor 10000 (mixed c u v))) ≤ℤ (κ · mixed c u v) = multiple_mono κ _ _ (floor_below 10000 (omega arith) (mixed c u v)) in
    omega (arith, ints, times_mixed δ c x y, times_mixed κ c u v, times_times κ 10000 (floor 10000 (mixed c u v)))

abbrev Chances : (ℕ → ℕ) → ℕ → Type 0
Chances c i = (j : ℕ) → j < i → c j ≤ 10000

-- one factor of 10,000 for each condition
factor : (κ i : ℕ) → (κ * 10000) * 10000 ^ i ≡ κ * 10000 ^ suc i
factor κ i = mul_assoc κ 10000 (10000 ^ i) ∙ ap (λ z. κ * z) (sym (pow-succ' 10000 i))

margin : (i : ℕ) (r : ℤ) → (10000 ^ i) · (10000 · r) ≡ (10000 ^ suc i) · r
margin i r = times_times (10000 ^ i) 10000 r ∙ ap (λ z. z · r) (sym (pow-suc 10000 i))

pub stage_high : (c : ℕ → ℕ) (i δ κ : ℕ) (X : ℕ → ℤ) (V : ℕ → Ends) (r : ℤ) → Chances c i → ((t : ℕ) → t < 2 ^ i → (δ · X t) ≤ℤ ((κ · (V t).high) +ℤ r)) →
    (δ · nested c i X) ≤ℤ (((κ * 10000 ^ i) · (averaged c i V).high) +ℤ ((10000 ^ i) · r))
stage_high c zero δ κ X V r ch h = omega (arith, ints, h 0 (omega arith), ap (λ k. k · (V 0).high) (mul-one κ), one_times r)
stage_high c (suc i) δ κ X V r ch h =
    let rec = stage_high c i δ (κ * 10000) (λ t. mixed (c i) (X (t + 2 ^ i)) (X t)) (λ t. average (c i) (V (t + 2 ^ i)) (V t)) (10000 · r) (λ j l. ch j (omega arith))
    (λ t l. high_step δ κ (c i) (X (t + 2 ^ i)) (X t) (V (t + 2 ^ i)).high (V t).high r (ch i (omega arith)) (h (t + 2 ^ i) (omega (arith, two-pow-succ i))) (h t (omega (arith, two-pow-succ i)))) in
    omega (arith, ints, rec, ap (λ k. k · (averaged c (suc i) V).high) (factor κ i), margin i r)

pub stage_low : (c : ℕ → ℕ) (i δ κ : ℕ) (X : ℕ → ℤ) (V : ℕ → Ends) (r : ℤ) → Chances c i → ((t : ℕ) → t < 2 ^ i → (κ · (V t).low) ≤ℤ ((δ · X t) +ℤ r)) →
    ((κ * 10000 ^ i) · (averaged c i V).low) ≤ℤ ((δ · nested c i X) +ℤ ((10000 ^ i) · r))
stage_low c zero δ κ X V r ch h = omega (arith, ints, h 0 (omega arith), ap (λ k. k · (V 0).low) (mul-one κ), one_times r)
stage_low c (suc i) δ κ X V r ch h =
    let rec = stage_low c i δ (κ * 10000) (λ t. mixed (c i) (X (t + 2 ^ i)) (X t)) (λ t. average (c i) (V (t + 2 ^ i)) (V t)) (10000 · r) (λ j l. ch j (omega arith))
    (λ t l. low_step δ κ (c i) (X (t + 2 ^ i)) (X t) (V (t + 2 ^ i)).low (V t).low r (ch i (omega arith)) (h (t + 2 ^ i) (omega (arith, two-pow-succ i))) (h t (omega (arith, two-pow-succ i)))) in
    omega (arith, ints, rec, ap (λ k. k · (averaged c (suc i) V).low) (factor κ i), margin i r)
