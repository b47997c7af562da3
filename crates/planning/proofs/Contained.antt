-- In every history the exact value lies within each state's range.
use Rattle.std.proofs.Common.{◌≡◌, ℕ, zero, suc, ◌+◌, ◌-◌, ◌^◌, ◌<◌, ℤ, pos, ◌-ℤ◌, ◌≤ℤ◌, sym, ap, ◌∙◌, subst, one-mul, mul-zero, arith}
use borrow.Author.Differences.{ints}
use Rattle.ranges.specs.declared.ends.Ends.{Ends}
use Rattle.ranges.specs.Ranges.{ends}
use Rattle.ranges.specs.Whole.{◌·◌}
use Rattle.ranges.proofs.Multiples.{multiple_mono}
use Rattle.planning.specs.Models.{Model, IsState, Sound}
use Rattle.planning.specs.Values.{scale, exact, expected, greatest}
use Rattle.planning.specs.Passes.{closed, gathered}
use Rattle.planning.specs.Histories.{Given, Contains, ValuesLieWithin}
use Rattle.planning.specs.Histories.History.{started, passed, pruned, drew}
use Rattle.planning.proofs.Scaled.{one_times, times_zero}
use Rattle.planning.proofs.Gathers.{greatest_least, greatest_member, gathered_held}
use Rattle.planning.proofs.Steps.{onward, step_high, step_low}

pub scale_zero : (M : Model) → scale M 0 ≡ 1
unfolding scale
scale_zero M = ap (λ e. 10000 ^ e) (mul-zero (M.conditions + 1))

-- the exact value lies within an end pair e
abbrev In : Model → ℕ → ℕ → Ends → Type 0
In M k s e = ((scale M k · e.low) ≤ℤ exact M k s) × (exact M k s ≤ℤ (scale M k · e.high))

at_start : (M : Model) (s : ℕ) → In M 0 s (ends (M.reward s) (M.reward s))
at_start M s =
    let one : scale M 0 · M.reward s ≡ M.reward s = ap (λ k. k · M.reward s) (scale_zero M) ∙ one_times (M.reward s) in
    (omega (arith, ints), omega (arith, ints))

no_margin : (b p : ℕ) → b · (p · pos 0) ≡ pos 0
no_margin b p = ap (λ z. b · z) (times_zero p) ∙ times_zero b

module _ (M : Model) (sound : Sound M) (V : ℕ → Ends) (k : ℕ) (h : Contains M V k) (s : ℕ) (state : IsState M s) where
  below : (a : ℕ) → a < M.moves → onward M k a (exact M k) s ≤ℤ (scale M (suc k) · (closed M V s).high)
  below a move =
      let st = step_high M sound s state 1 k (exact M k) V (pos 0) a move
      (λ t l. omega (arith, ints, (h t l).1, one_times (exact M k t), ap (λ z. z · (V t).high) (one-mul (scale M k)))) in
      omega (arith, ints, st, one_times (onward M k a (exact M k) s), ap (λ z. z · (closed M V s).high) (one-mul (scale M (suc k))), no_margin M.discount (10000 ^ M.conditions))

  above : (scale M (suc k) · (closed M V s).low) ≤ℤ onward M k (gathered M V (M.moves - 1) s).chosen (exact M k) s
  above =
      let a = (gathered M V (M.moves - 1) s).chosen in
      let st = step_low M sound s state 1 k (exact M k) V (pos 0)
      (λ t l. omega (arith, ints, (h t l).0, one_times (exact M k t), ap (λ z. z · (V t).low) (one-mul (scale M k)))) in
      omega (arith, ints, st, one_times (onward M k a (exact M k) s), ap (λ z. z · (closed M V s).low) (one-mul (scale M (suc k))), no_margin M.discount (10000 ^ M.conditions))

  after_pass : In M (suc k) s (closed M V s)
  after_pass =
      let Y : ℕ → ℤ = λ a. M.discount · expected M a s (exact M k) in
      let best = (gathered M V (M.moves - 1) s).chosen in
      let most : greatest (M.moves - 1) Y ≤ℤ ((scale M (suc k) · (closed M V s).high) -ℤ (scale M (suc k) · M.reward s)) =
      greatest_least (M.moves - 1) Y _ (λ j l. omega (arith, ints, below j (omega (arith, sound.some_move)))) in
      let least = greatest_member (M.moves - 1) best Y (gathered_held M V s (M.moves - 1)).within in
      (omega (arith, ints, above), omega (arith, ints))

wider : (M : Model) (k s strength : ℕ) (e e' : Ends) → Given strength e e' → In M k s e → In M k s e'
wider M k s strength e e' g i =
    let l = multiple_mono (scale M k) e'.low e.low g.below in
    let u = multiple_mono (scale M k) e.high e'.high g.above in
    (omega (arith, ints, i.0), omega (arith, ints, i.1))

pub values_lie_within : ValuesLieWithin
values_lie_within M sound V zero S ds (started agree) s state = subst (In M 0 s) (sym (agree s state)) (at_start M s)
values_lie_within M sound V k S ds (passed {V = W} {k = j} h agree) s state =
    subst (In M k s) (sym (agree s state)) (after_pass M sound W j (values_lie_within M sound W j S ds h) s state)
values_lie_within M sound V k S ds (pruned {V = W} strength rule h laws agree) s state =
    subst (In M k s) (sym (agree s state)) (wider M k s strength (W s) (rule (W s)) (laws s state) (values_lie_within M sound W k _ ds h s state))
values_lie_within M sound V k S ds (drew d h is) s state = values_lie_within M sound V k S _ h s state
