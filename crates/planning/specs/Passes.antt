-- A pass over the ranges of all states.
--     averaged c i V         V with the conditions below i averaged out, the last of them first
--     ranged M a V s         the range that the move a gives from the state s: F(0)
--     gather h a e           the held advice h, shown the move a with the ends e: the greater low and its move, the held one at equal lows; the greater high from either
--     gathered M V a s       what is held in the state s after the moves 0 to a
--     drawn M V s            the advice for s: what all moves gather, discounted, with the reward added
--     closed M V s           the same without its move: the range of s after one more pass
use Rattle.std.specs.Prelude.{ℕ, zero, suc, ◌+◌, ◌-◌, ◌^◌, cond, int_lt}
use Rattle.std.specs.Int.{int_max}
use Rattle.ranges.specs.declared.ends.Advice.{Advice}
use Rattle.ranges.specs.declared.ends.Ends.{Ends}
use Rattle.ranges.specs.Ranges.{ends, average, discounted, plus}
use Rattle.planning.specs.Models.{Model}

abbrev pub averaged : (ℕ → ℕ) → ℕ → (ℕ → Ends) → Ends
averaged c zero V = V 0
averaged c (suc i) V = averaged c i (λ t. average (c i) (V (t + 2 ^ i)) (V t))

unfoldable pub ranged : Model → ℕ → (ℕ → Ends) → ℕ → Ends
ranged M a V s = averaged (λ i. M.chance a i s) M.conditions V

abbrev pub gather : Advice → ℕ → Ends → Advice
gather h a e =
    record { chosen = cond (int_lt h.ends.low e.low) a h.chosen; ends = ends (int_max h.ends.low e.low) (int_max h.ends.high e.high) }

abbrev pub gathered : Model → (ℕ → Ends) → ℕ → ℕ → Advice
gathered M V zero s = record { chosen = 0; ends = ranged M 0 V s }
gathered M V (suc a) s = gather (gathered M V a s) (suc a) (ranged M (suc a) V s)

abbrev pub drawn : Model → (ℕ → Ends) → ℕ → Advice
drawn M V s =
    let g = gathered M V (M.moves - 1) s in
    record { chosen = g.chosen; ends = plus (M.reward s) (discounted M.discount g.ends) }

abbrev pub closed : Model → (ℕ → Ends) → ℕ → Ends
closed M V s = (drawn M V s).ends
