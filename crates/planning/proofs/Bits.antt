-- The bits of a state with one bit more at the top.
use Rattle.std.proofs.Common.{◌≡◌, ℕ, zero, suc, ◌+◌, ◌-◌, ◌*◌, ◌/◌, ◌%◌, ◌^◌, ◌<◌, ◌≤◌, true, cond, eqb, sym, refl, ap, ◌∙◌, one-mul, pow-suc, arith, pow_pos, pow-add}
use native.Mathlib.Nat.{div-eq_of_lt, add-mul-div_right}
use Rattle.diagram.specs.States.{bit}
use Rattle.planning.specs.Values.{weight}

pub top_set : (i t : ℕ) → t < 2 ^ i → bit i (t + 2 ^ i) ≡ true
top_set i t h =
    let q : (t + 2 ^ i) / 2 ^ i ≡ 1 = ap (λ z. (t + z) / 2 ^ i) (sym (one-mul (2 ^ i))) ∙ add-mul-div_right t 1 (pow_pos i) ∙ ap (λ z. z + 1) (div-eq_of_lt h) in
    ap (λ z. eqb (z % 2) 1) q

pub lower_same : (i j t : ℕ) → j < i → bit j (t + 2 ^ i) ≡ bit j t
lower_same i j t h =
    let k = i - suc j in
    let whole : 2 ^ i ≡ (2 ^ k * 2) * 2 ^ j = ap (λ z. 2 ^ z) {x = i} {y = suc k + j} (omega arith) ∙ pow-add 2 (suc k) j ∙ ap (λ z. z * 2 ^ j) (pow-suc 2 k) in
    let q : (t + 2 ^ i) / 2 ^ j ≡ t / 2 ^ j + 2 ^ k * 2 = ap (λ z. (t + z) / 2 ^ j) whole ∙ add-mul-div_right t (2 ^ k * 2) (pow_pos j) in
    let r : (t + 2 ^ i) / 2 ^ j % 2 ≡ t / 2 ^ j % 2 = ap (λ z. z % 2) q ∙ omega arith in
    ap (λ z. eqb z 1) r

pub weight_same : (c : ℕ → ℕ) (i j t : ℕ) → j ≤ i → weight c j (t + 2 ^ i) ≡ weight c j t
weight_same c i zero t h = refl
weight_same c i (suc j) t h =
    ap (λ w. w * cond (bit j (t + 2 ^ i)) (c j) (10000 - c j)) (weight_same c i j t (omega arith)) ∙ ap (λ b. weight c j t * cond b (c j) (10000 - c j)) (lower_same i j t (omega arith))
