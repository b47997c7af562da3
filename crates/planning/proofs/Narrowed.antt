-- In every history no range is wider than the bound.
use Rattle.std.proofs.Common.{◌≡◌, ℕ, zero, suc, ◌+◌, ◌-◌, ◌*◌, ◌/◌, ◌^◌, ◌<◌, ◌≤◌, max, ℤ, pos, ◌+ℤ◌, ◌-ℤ◌, ◌≤ℤ◌, ◌<ℤ◌, ap, subst, mul_comm, add-mul, mul-add, arith}
use native.Mathlib.Nat.{mul-div-le, lt-mul-div-succ, two-pow-succ}
use borrow.Author.Differences.{ints}
use lib.Signed.{lt_z}
use Rattle.std.specs.Int.{int_max}
use Rattle.std.proofs.lemmas.Int.{clamps, by_lt_z}
use Rattle.std.proofs.lemmas.Nat.{mul-le}
use Rattle.std.proofs.lemmas.Bool.{cond_both}
use Rattle.ranges.specs.declared.ends.Ends.{Ends}
use Rattle.ranges.specs.Ranges.{ends, mixed, average}
use Rattle.ranges.specs.Whole.{◌·◌, floor, ceiling}
use Rattle.ranges.proofs.Multiples.{multiple_is, multiple_mono}
use Rattle.ranges.proofs.Quotients.{floor_next, ceiling_next}
use Rattle.planning.specs.Models.{Model, IsState, Sound}
use Rattle.planning.specs.Passes.{averaged, ranged, gathered, closed}
use Rattle.planning.specs.Histories.{span, Given, bound, Narrow, RangesStayNarrow}
use Rattle.planning.specs.Histories.History.{started, passed, pruned, drew}
use Rattle.planning.proofs.Scaled.{times_sum, times_pos, times_zero}
use Rattle.planning.proofs.Stages.{mix_below}

-- e is no wider than w
abbrev Wide : ℕ → Ends → Type 0
Wide w e = e.high ≤ℤ (e.low +ℤ pos w)

-- an average is wider by 1 at most
average_wide : (c w : ℕ) (e f : Ends) → c ≤ 10000 → Wide w e → Wide w f → Wide (w + 1) (average c e f)
average_wide c w e f part p q =
    let h = mixed c e.high f.high in
    let l = mixed c e.low f.low in
    let m = mix_below c e.high f.high e.low f.low (pos w) part p q in
    let up = ceiling_next 10000 (omega arith) h in
    let down = floor_next 10000 (omega arith) l in
    omega (arith, ints, multiple_is 10000 (ceiling 10000 h), multiple_is 10000 (floor 10000 l), times_pos 10000 w)

averaged_wide : (c : ℕ → ℕ) (i w : ℕ) (V : ℕ → Ends) → ((j : ℕ) → j < i → c j ≤ 10000) → ((t : ℕ) → t < 2 ^ i → Wide w (V t)) → Wide (w + i) (averaged c i V)
averaged_wide c zero w V ch h = omega (arith, ints, h 0 (omega arith))
averaged_wide c (suc i) w V ch h =
    let rec = averaged_wide c i (w + 1) (λ t. average (c i) (V (t + 2 ^ i)) (V t)) (λ j l. ch j (omega arith))
    (λ t l. average_wide (c i) w (V (t + 2 ^ i)) (V t) (ch i (omega arith)) (h (t + 2 ^ i) (omega (arith, two-pow-succ i))) (h t (omega (arith, two-pow-succ i)))) in
    omega (arith, ints, rec)

module _ (M : Model) (sound : Sound M) (V : ℕ → Ends) (w s : ℕ) (state : IsState M s) (h : (t : ℕ) → IsState M t → Wide w (V t)) where
  ranged_wide : (a : ℕ) → a < M.moves → Wide (w + M.conditions) (ranged M a V s)
  unfolding ranged
  ranged_wide a move = averaged_wide (λ i. M.chance a i s) M.conditions w V (λ i l. sound.chances a i s move l state) h

  gathered_wide : (a : ℕ) → a < M.moves → Wide (w + M.conditions) (gathered M V a s).ends
  gathered_wide zero move = ranged_wide 0 move
  gathered_wide (suc a) move = omega (arith, ints, clamps, gathered_wide a (omega arith), ranged_wide (suc a) move)

  -- 10,000 times the width of a closed range
  closed_wide : (10000 · span (closed M V s)) <ℤ pos (M.discount * (w + M.conditions) + 20000)
  closed_wide =
      let g = (gathered M V (M.moves - 1) s).ends in
      let b = M.discount in
      let wide = gathered_wide (M.moves - 1) (omega (arith, sound.some_move)) in
      let mono : (b · g.high) ≤ℤ ((b · g.low) +ℤ (b · pos (w + M.conditions))) =
      subst (λ z. (b · g.high) ≤ℤ z) (times_sum b g.low (pos (w + M.conditions))) (multiple_mono b g.high (g.low +ℤ pos (w + M.conditions)) wide) in
      let up = ceiling_next 10000 (omega arith) (b · g.high) in
      let down = floor_next 10000 (omega arith) (b · g.low) in
      omega (arith, ints, multiple_is 10000 (ceiling 10000 (b · g.high)), multiple_is 10000 (floor 10000 (b · g.low)), multiple_is 10000 (span (closed M V s)), times_pos b (w + M.conditions))

-- from the bound multiplied out to a whole width, and back
to_width : (D B : ℕ) (z : ℤ) → 0 < D → (D · z) ≤ℤ pos B → z ≤ℤ pos (B / D)
to_width D B z some h =
    by_lt_z (pos (B / D)) z
    (λ over. let m = multiple_mono D (pos (B / D + 1)) z (omega (arith, ints)) in absurd (omega (arith, ints, times_pos D (B / D + 1), lt-mul-div-succ B some)))
    (λ fine. fine)

from_width : (D B : ℕ) (z : ℤ) → z ≤ℤ pos (B / D) → (D · z) ≤ℤ pos B
from_width D B z h = omega (arith, ints, multiple_mono D z (pos (B / D)) h, times_pos D (B / D), mul-div-le B D)

-- the width stays: were it one more, the discount would not have left room for it
stays : (b n B : ℕ) (z : ℤ) → b < 10000 → 20000 + b * n ≤ B → (10000 · z) <ℤ pos (b * (B / (10000 - b) + n) + 20000) → z ≤ℤ pos (B / (10000 - b))
stays b n B z less big h =
    let D = 10000 - b in
    let W = B / D in
    by_lt_z (pos W) z
    (λ over.
    let some : 0 < D = omega arith in
    let next = lt-mul-div-succ B some in
    let parts : (D + b) * W ≡ D * W + b * W = add-mul D b W in
    let whole : (D + b) * W ≡ 10000 * W = ap (λ k. k * W) (omega arith) in
    absurd (omega (arith, ints, multiple_is 10000 z, mul-add b W n, mul-add D W 1)))
    (λ fine. fine)

module _ (M : Model) (sound : Sound M) (S : ℕ) where
  abbrev D : ℕ
  D = 10000 - M.discount

  some_rest : 0 < D
  some_rest = omega (arith, sound.less_than_whole)

  widths : (V : ℕ → Ends) → Narrow M V S → (t : ℕ) → IsState M t → Wide (bound M S / D) (V t)
  widths V h t l = omega (arith, ints, to_width D (bound M S) (span (V t)) some_rest (h t l))

  after_pass : (V : ℕ → Ends) → Narrow M V S → (s : ℕ) → IsState M s → (D · span (closed M V s)) ≤ℤ pos (bound M S)
  after_pass V h s state =
      from_width D (bound M S) (span (closed M V s))
      (stays M.discount M.conditions (bound M S) (span (closed M V s)) sound.less_than_whole (omega arith) (closed_wide M sound V (bound M S / D) s state (widths V h)))

at_start : (D B : ℕ) (R : ℤ) → (D · span (ends R R)) ≤ℤ pos B
at_start D B R = let none : R -ℤ R ≡ pos 0 = omega (arith, ints) in rw none (omega (arith, ints, times_zero D))

-- a given range is bounded by the greater strength
given_narrow : (M : Model) (S strength : ℕ) (e e' : Ends) → Given strength e e' → ((10000 - M.discount) · span e) ≤ℤ pos (bound M S) → ((10000 - M.discount) · span e') ≤ℤ pos (bound M (max S strength))
given_narrow M S strength e e' g h =
    let D = 10000 - M.discount in
    let m = multiple_mono D (span e') (int_max (pos strength) (span e)) g.width in
    let old : S * D ≤ max S strength * D = mul-le S D (max S strength) D (omega arith) (omega arith) in
    let new : strength * D ≤ max S strength * D = mul-le strength D (max S strength) D (omega arith) (omega arith) in
    let either : (D · int_max (pos strength) (span e)) ≤ℤ pos (bound M (max S strength)) =
    cond_both (lt_z (span e) (pos strength)) (pos strength) (span e) (λ z. (D · z) ≤ℤ pos (bound M (max S strength)))
    (λ yes. omega (arith, ints, times_pos D strength, mul_comm D strength)) (λ no. omega (arith, ints)) in
    omega (arith, ints)

pub ranges_stay_narrow : RangesStayNarrow
ranges_stay_narrow M sound V zero S ds (started agree) s state = rw (agree s state) (at_start (10000 - M.discount) (bound M 0) (M.reward s))
ranges_stay_narrow M sound V k S ds (passed {V = W} {k = j} h agree) s state = rw (agree s state) (after_pass M sound S W (ranges_stay_narrow M sound W j S ds h) s state)
ranges_stay_narrow M sound V k S ds (pruned {V = W} {S = T} strength rule h laws agree) s state =
    rw (agree s state) (given_narrow M T strength (W s) (rule (W s)) (laws s state) (ranges_stay_narrow M sound W k T ds h s state))
ranges_stay_narrow M sound V k S ds (drew d h is) s state = ranges_stay_narrow M sound V k S _ h s state
