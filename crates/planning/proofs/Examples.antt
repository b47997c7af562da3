-- The lock's figures by computation, and a history of it.
use Rattle.std.proofs.Common.{ℕ, zero, suc, ◌<◌, ◌≤◌, cond, eqb, pos, ◌+ℤ◌, refl, arith}
use lib.Signed.{le_z_yes}
use Rattle.std.proofs.lemmas.Bool.{cond_both}
use Rattle.ranges.specs.declared.ends.Ends.{Ends}
use Rattle.ranges.specs.Ranges.{ends, loss}
use Rattle.ranges.specs.Whole.{◌·◌}
use Rattle.planning.specs.Models.{Sound}
use Rattle.planning.specs.Passes.{ranged, drawn}
use Rattle.planning.specs.Draws.{most, spread, rise, fall, tail, Draw}
use Rattle.planning.specs.Histories.{Given}
use Rattle.planning.specs.Histories.History.{started, passed, pruned, drew}
use Rattle.planning.specs.Lock.{lock, ranges_after, Worked, SomeHistory}

pub worked : Worked
unfolding ◌·◌ ranged most
worked =
    record {
      at_start = (refl, refl);
      one_pass = (refl, refl);
      two_passes = (refl, refl);
      draw_at_start = (refl, refl, refl, refl, refl);
      draw_after_one = (refl, refl, refl, refl, refl);
      below_zero = refl;
    }

few : (a s : ℕ) → lock.chance a 0 s ≤ 10000
few a s = cond_both (eqb a 0) (cond (eqb s 1) 9000 0) 5000 (λ z. z ≤ 10000) (λ _. cond_both (eqb s 1) 9000 0 (λ z. z ≤ 10000) (λ _. omega arith) (λ _. omega arith)) (λ _. omega arith)

lock_sound : Sound lock
lock_sound = record { some_move = omega arith; some_discount = omega arith; less_than_whole = omega arith; chances = λ a i s move condition state. few a s }

-- a rule that gives every range a width of 151, at the ranges after one pass
abbrev widen : Ends → Ends
widen e = ends e.low (e.low +ℤ pos 151)

wide_enough : (s : ℕ) → s < 2 → Given 151 (ranges_after 1 s) (widen (ranges_after 1 s))
unfolding ◌·◌ ranged
wide_enough zero l = record { below = le_z_yes tt; above = le_z_yes tt; width = le_z_yes tt }
wide_enough (suc zero) l = record { below = le_z_yes tt; above = le_z_yes tt; width = le_z_yes tt }
wide_enough (suc (suc s)) l = absurd (omega arith)

abbrev widened : ℕ → Ends
widened s = widen (ranges_after 1 s)

abbrev draw : Draw
draw =
    record {
      moves = λ s. (drawn lock widened s).chosen;
      spread_is = spread lock widened;
      rise_is = rise lock widened;
      fall_is = fall lock widened;
      loss_is = loss 9000 (spread lock widened) (rise lock widened) (fall lock widened);
      tail_is = tail lock widened;
    }

pub some_history : SomeHistory
some_history = (
  lock_sound,
  (
    widened,
    draw,
    drew draw (pruned 151 widen (passed {V = ranges_after 0} {V' = ranges_after 1} (started (λ s l. refl)) (λ s l. refl)) wide_enough (λ s l. refl))
        (record { names = λ s l. refl; spreads = refl; rises = refl; falls = refl; loses = refl; tails = refl }),
  ),
)
