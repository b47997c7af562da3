-- One stage more: a bound on the values one stage later becomes a bound by the ends that closing a pass gives.
use Rattle.std.proofs.Common.{◌≡◌, ℕ, suc, ◌+◌, ◌-◌, ◌*◌, ◌^◌, ◌<◌, ℤ, ◌+ℤ◌, ◌≤ℤ◌, sym, ap, ◌∙◌, subst, mul_assoc, pow-suc, mul-suc, add-one, arith, pow-add}
use borrow.Author.Differences.{ints}
use Rattle.ranges.specs.declared.ends.Ends.{Ends}
use Rattle.ranges.specs.Whole.{◌·◌, floor, ceiling}
use Rattle.ranges.proofs.Multiples.{multiple_mono}
use Rattle.ranges.proofs.Quotients.{floor_below, ceiling_above}
use Rattle.planning.specs.Models.{Model, IsState, Sound}
use Rattle.planning.specs.Values.{scale, expected}
use Rattle.planning.specs.Passes.{ranged, gathered, closed}
use Rattle.planning.proofs.Scaled.{times_sum, times_times, times_swap}
use Rattle.planning.proofs.Sums.{sums_nested}
use Rattle.planning.proofs.Stages.{stage_high, stage_low}
use Rattle.planning.proofs.Gathers.{gathered_high, gathered_held}

pub scale_suc : (M : Model) (k : ℕ) → scale M (suc k) ≡ (scale M k * 10000 ^ M.conditions) * 10000
unfolding scale
scale_suc M k =
    ap (λ e. 10000 ^ e) (mul-suc (M.conditions + 1) k) ∙ pow-add 10000 ((M.conditions + 1) * k) (M.conditions + 1)
    ∙ ap (λ z. 10000 ^ ((M.conditions + 1) * k) * z) (ap (λ e. 10000 ^ e) (add-one M.conditions) ∙ pow-suc 10000 M.conditions)
    ∙ sym (mul_assoc (10000 ^ ((M.conditions + 1) * k)) (10000 ^ M.conditions) 10000)

module _ (M : Model) (sound : Sound M) (s : ℕ) (state : IsState M s) where
  move_high : (a δ κ : ℕ) (X : ℕ → ℤ) (V : ℕ → Ends) (r : ℤ) → a < M.moves → ((t : ℕ) → IsState M t → (δ · X t) ≤ℤ ((κ · (V t).high) +ℤ r)) →
      (δ · expected M a s X) ≤ℤ (((κ * 10000 ^ M.conditions) · (ranged M a V s).high) +ℤ ((10000 ^ M.conditions) · r))
  unfolding ranged
  move_high a δ κ X V r move h = rw (sums_nested M a s X) (stage_high (λ i. M.chance a i s) M.conditions δ κ X V r (λ i l. sound.chances a i s move l state) h)

  move_low : (a δ κ : ℕ) (X : ℕ → ℤ) (V : ℕ → Ends) (r : ℤ) → a < M.moves → ((t : ℕ) → IsState M t → (κ · (V t).low) ≤ℤ ((δ · X t) +ℤ r)) →
      ((κ * 10000 ^ M.conditions) · (ranged M a V s).low) ≤ℤ ((δ · expected M a s X) +ℤ ((10000 ^ M.conditions) · r))
  unfolding ranged
  move_low a δ κ X V r move h = rw (sums_nested M a s X) (stage_low (λ i. M.chance a i s) M.conditions δ κ X V r (λ i l. sound.chances a i s move l state) h)

-- the discount is applied, rounded outwards, and the reward added
close_high : (K b : ℕ) (h R y ρ : ℤ) → y ≤ℤ ((b · (K · h)) +ℤ ρ) → (((K * 10000) · R) +ℤ y) ≤ℤ (((K * 10000) · (ceiling 10000 (b · h) +ℤ R)) +ℤ ρ)
close_high K b h R y ρ p =
    let up : (K · (b · h)) ≤ℤ (K · (10000 · ceiling 10000 (b · h))) = multiple_mono K _ _ (ceiling_above 10000 (omega arith) (b · h)) in
    omega (arith, ints, times_swap K b h, times_times K 10000 (ceiling 10000 (b · h)), times_sum (K * 10000) (ceiling 10000 (b · h)) R)

close_low : (K b : ℕ) (l R y ρ : ℤ) → (b · (K · l)) ≤ℤ (y +ℤ ρ) → ((K * 10000) · (floor 10000 (b · l) +ℤ R)) ≤ℤ ((((K * 10000) · R) +ℤ y) +ℤ ρ)
close_low K b l R y ρ p =
    let down : (K · (10000 · floor 10000 (b · l))) ≤ℤ (K · (b · l)) = multiple_mono K _ _ (floor_below 10000 (omega arith) (b · l)) in
    omega (arith, ints, times_swap K b l, times_times K 10000 (floor 10000 (b · l)), times_sum (K * 10000) (floor 10000 (b · l)) R)

-- what the bound one stage later is multiplied by
grown : (M : Model) (δ k : ℕ) → ((δ * scale M k) * 10000 ^ M.conditions) * 10000 ≡ δ * scale M (suc k)
grown M δ k =
    ap (λ z. z * 10000) (mul_assoc δ (scale M k) (10000 ^ M.conditions)) ∙ mul_assoc δ (scale M k * 10000 ^ M.conditions) 10000 ∙ ap (λ z. δ * z) (sym (scale_suc M k))

-- the value of a state with one stage more, by the move a
abbrev pub onward : Model → ℕ → ℕ → (ℕ → ℤ) → ℕ → ℤ
onward M k a X s = (scale M (suc k) · M.reward s) +ℤ (M.discount · expected M a s X)

spread_out : (M : Model) (δ k a : ℕ) (X : ℕ → ℤ) (s : ℕ) → δ · onward M k a X s ≡ ((δ * scale M (suc k)) · M.reward s) +ℤ (M.discount · (δ · expected M a s X))
spread_out M δ k a X s =
    times_sum δ (scale M (suc k) · M.reward s) (M.discount · expected M a s X) ∙ ap (λ z. z +ℤ (δ · (M.discount · expected M a s X))) (times_times δ (scale M (suc k)) (M.reward s))
    ∙ ap (λ z. ((δ * scale M (suc k)) · M.reward s) +ℤ z) (times_swap δ M.discount (expected M a s X))

module _ (M : Model) (sound : Sound M) (s : ℕ) (state : IsState M s) (δ k : ℕ) (X : ℕ → ℤ) (V : ℕ → Ends) (r : ℤ) where
  abbrev K : ℕ
  K = (δ * scale M k) * 10000 ^ M.conditions

  abbrev pub later : ℤ
  later = M.discount · ((10000 ^ M.conditions) · r)

  pub step_high : (a : ℕ) → a < M.moves → ((t : ℕ) → IsState M t → (δ · X t) ≤ℤ (((δ * scale M k) · (V t).high) +ℤ r)) →
      (δ · onward M k a X s) ≤ℤ (((δ * scale M (suc k)) · (closed M V s).high) +ℤ later)
  step_high a move h =
      let g = (gathered M V (M.moves - 1) s).ends.high in
      let one = move_high M sound s state a δ (δ * scale M k) X V r move h in
      let held : (K · (ranged M a V s).high) ≤ℤ (K · g) = multiple_mono K _ _ (gathered_high M V s (M.moves - 1) a (omega arith)) in
      let all : (δ · expected M a s X) ≤ℤ ((K · g) +ℤ ((10000 ^ M.conditions) · r)) = omega (arith, ints) in
      let gain : (M.discount · (δ · expected M a s X)) ≤ℤ ((M.discount · (K · g)) +ℤ later) =
      subst (λ z. (M.discount · (δ · expected M a s X)) ≤ℤ z) (times_sum M.discount (K · g) ((10000 ^ M.conditions) · r)) (multiple_mono M.discount _ _ all) in
      let c = close_high K M.discount g (M.reward s) (M.discount · (δ · expected M a s X)) later gain in
      rw (spread_out M δ k a X s) (subst (λ z. ((z · M.reward s) +ℤ (M.discount · (δ · expected M a s X))) ≤ℤ ((z · (closed M V s).high) +ℤ later)) (grown M δ k) c)

  pub step_low : ((t : ℕ) → IsState M t → ((δ * scale M k) · (V t).low) ≤ℤ ((δ · X t) +ℤ r)) →
      ((δ * scale M (suc k)) · (closed M V s).low) ≤ℤ ((δ · onward M k (gathered M V (M.moves - 1) s).chosen X s) +ℤ later)
  step_low h =
      let a = (gathered M V (M.moves - 1) s).chosen in
      let g = (gathered M V (M.moves - 1) s).ends.low in
      let held = gathered_held M V s (M.moves - 1) in
      let one = move_low M sound s state a δ (δ * scale M k) X V r (omega (arith, held.within, sound.some_move)) h in
      let all : (K · g) ≤ℤ ((δ · expected M a s X) +ℤ ((10000 ^ M.conditions) · r)) = subst (λ z. (K · z) ≤ℤ ((δ · expected M a s X) +ℤ ((10000 ^ M.conditions) · r))) held.has one in
      let gain : (M.discount · (K · g)) ≤ℤ ((M.discount · (δ · expected M a s X)) +ℤ later) =
      subst (λ z. (M.discount · (K · g)) ≤ℤ z) (times_sum M.discount (δ · expected M a s X) ((10000 ^ M.conditions) · r)) (multiple_mono M.discount _ _ all) in
      let c = close_low K M.discount g (M.reward s) (M.discount · (δ · expected M a s X)) later gain in
      rw (spread_out M δ k a X s) (subst (λ z. (z · (closed M V s).low) ≤ℤ (((z · M.reward s) +ℤ (M.discount · (δ · expected M a s X))) +ℤ later)) (grown M δ k) c)
