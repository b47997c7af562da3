-- The ceiling is the floor, or one more where something is left over.
use Rattle.std.proofs.Common.{◌≡◌, ℕ, zero, suc, ◌+◌, ◌*◌, ◌/◌, ◌%◌, ◌<◌, ◌⊎◌, ℤ, pos, negsuc, ◌+ℤ◌, neg_ℤ, inl, inr, refl, sym, ap, ◌∙◌, ⊎_elim, mul-suc, arith}
use Rattle.std.proofs.Math.Nat.{div-add-mod, mul-add-div, div-eq_of_lt, div-eq_of_eq-mul_left}
use Rattle.std.proofs.lemmas.Bool.{cases_eq}
use Rattle.std.proofs.lemmas.Int.{ints}
use Rattle.std.proofs.lemmas.Nat.{mod_below}
use Rattle.std.specs.Int.{int_rem_euclid}
use Rattle.ranges.specs.Whole.{floor, ceiling}

cases_zero : (z : ℤ) → (z ≡ pos 0) ⊎ (z ≡ pos 0 → ⊥)
cases_zero (pos zero) = inl refl
cases_zero (pos (suc a)) = inr (λ e. omega (arith, ints, e))
cases_zero (negsuc a) = inr (λ e. omega (arith, ints, e))

module _ (d : ℕ) (some : 0 < d) where
  next_div : (a : ℕ) → suc a / d ≡ a / d + suc (a % d) / d
  next_div a = ap (λ n. n / d) {x = suc a} {y = d * (a / d) + suc (a % d)} (omega (arith, div-add-mod a d)) ∙ mul-add-div some (a / d) (suc (a % d))

  same : (a : ℕ) → a % d + 1 < d → suc a / d ≡ a / d
  same a under = omega (arith, next_div a, div-eq_of_lt {n = suc (a % d)} {m = d} (omega arith))

  more : (a : ℕ) → a % d + 1 ≡ d → suc a / d ≡ suc (a / d)
  more a at = omega (arith, next_div a, div-eq_of_eq-mul_left {n = d} {m = suc (a % d)} {k = 1} some (omega arith))

  turn : (a : ℕ) → (a % d + 1 ≡ d) ⊎ (a % d + 1 < d)
  turn a = let below = mod_below a d some in ⊎_elim (λ at. inl at) (λ off. inr (omega arith)) (cases_eq (a % d + 1) d)

  none : 0 / d ≡ 0
  none = div-eq_of_lt some

  left_none : (a : ℕ) → suc a % d ≡ 0 → a % d + 1 ≡ d
  left_none a e = ⊎_elim (λ at. at) (λ under. absurd (omega (arith, e, div-add-mod a d, div-add-mod (suc a) d, ap (λ q. d * q) (same a under)))) (turn a)

  left_some : (a : ℕ) → (suc a % d ≡ 0 → ⊥) → a % d + 1 < d
  left_some a off =
      ⊎_elim (λ at. absurd (off (omega (arith, div-add-mod a d, div-add-mod (suc a) d, ap (λ q. d * q) (more a at), mul-suc d (a / d))))) (λ under. under) (turn a)

  exact : (z : ℤ) → int_rem_euclid z (pos d) ≡ pos 0 → floor d z ≡ ceiling d z
  exact (pos zero) e = omega (arith, ints, none)
  exact (pos (suc a)) e = let at = left_none a (omega (arith, ints, e)) in ap pos (more a at)
  exact (negsuc a) e =
      let below = mod_below a d some in
      let at : a % d + 1 ≡ d = omega (arith, ints, e) in
      ap (λ n. neg_ℤ (pos n)) (sym (more a at))

  over : (z : ℤ) → (int_rem_euclid z (pos d) ≡ pos 0 → ⊥) → floor d z +ℤ pos 1 ≡ ceiling d z
  over (pos zero) off = absurd (off (ap pos (omega (arith, div-add-mod 0 d))))
  over (pos (suc a)) off = let under = left_some a (λ e. off (ap pos e)) in omega (arith, ints, same a under)
  over (negsuc a) off =
      let below = mod_below a d some in
      ⊎_elim (λ at. absurd (off (ap pos (omega arith)))) (λ under. omega (arith, ints, same a under)) (turn a)

pub ceiling_is : (d : ℕ) (z q rest r : ℤ) → 0 < d → q ≡ floor d z → rest ≡ int_rem_euclid z (pos d) → (rest ≡ pos 0 → r ≡ q) → ((rest ≡ pos 0 → ⊥) → r ≡ q +ℤ pos 1) → r ≡ ceiling d z
ceiling_is d z q rest r some quotient left whole part =
    ⊎_elim (λ e. whole e ∙ quotient ∙ exact d some z (sym left ∙ e)) (λ off. part off ∙ ap (λ w. w +ℤ pos 1) quotient ∙ over d some z (λ e. off (left ∙ e))) (cases_zero rest)
