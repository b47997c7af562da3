-- The one-condition lock, worked: two moves, discount 9,000; the reward is 100 where the condition is 1; move 0 keeps it at 1 with chance 9,000, move 1 sets it with chance 5,000.
--     lock             its model
--     ranges_after k   the ranges after k passes
--     Worked           all its figures, and one average below zero
--     SomeHistory      the lock has a history with one pass, a pruning of strength 151 and one draw
use Rattle.std.specs.Prelude.{◌≡◌, ℕ, zero, suc, cond, [], ◌∷◌, pos, negsuc, ◌==◌}
use Rattle.ranges.specs.declared.ends.Ends.{Ends}
use Rattle.ranges.specs.Ranges.{ends, average, loss}
use Rattle.planning.specs.Models.{Model, Sound}
use Rattle.planning.specs.Passes.{closed}
use Rattle.planning.specs.Draws.{spread, rise, fall, tail, Draw}
use Rattle.planning.specs.Histories.{History}

abbrev pub lock : Model
lock =
    record {
      conditions = 1;
      moves = 2;
      discount = 9000;
      reward = λ s. cond (s == 1) (pos 100) (pos 0);
      chance = λ a i s. cond (a == 0) (cond (s == 1) 9000 0) 5000;
    }

abbrev pub ranges_after : ℕ → ℕ → Ends
ranges_after zero s = ends (lock.reward s) (lock.reward s)
ranges_after (suc k) s = closed lock (ranges_after k) s

abbrev pub Ranges : ℕ → Ends → Ends → Type 0
Ranges k e f = (ranges_after k 0 ≡ e) × (ranges_after k 1 ≡ f)

abbrev pub Figures : ℕ → ℕ → ℕ → ℕ → ℕ → ℕ → Type 0
Figures k x y z l t =
    let V = ranges_after k in
    (spread lock V ≡ x) × (rise lock V ≡ y) × (fall lock V ≡ z) × (loss 9000 (spread lock V) (rise lock V) (fall lock V) ≡ l) × (tail lock V ≡ t)

pub record Worked : Type 0 where
  pub at_start : Ranges 0 (ends (pos 0) (pos 0)) (ends (pos 100) (pos 100))
  pub one_pass : Ranges 1 (ends (pos 45) (pos 45)) (ends (pos 181) (pos 181))
  pub two_passes : Ranges 2 (ends (pos 101) (pos 102)) (ends (pos 250) (pos 252))
  pub draw_at_start : Figures 0 0 81 0 729 0
  pub draw_after_one : Figures 1 2 71 0 641 81
  pub below_zero : average 5000 (ends (negsuc 0) (negsuc 0)) (ends (pos 0) (pos 0)) ≡ ends (negsuc 0) (pos 0)

abbrev pub SomeHistory : Type 0
SomeHistory = Sound lock × ((V : ℕ → Ends) × (d : Draw) × History lock V 1 151 (d ∷ []))
