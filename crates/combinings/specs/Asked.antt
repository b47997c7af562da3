-- What a combining asks of its leaves.
--     Within limit e       the ends e are ordered and within ±limit
--     Averaging c e f      the ends e and f can be averaged by the chance c
--     Discounting b e      the ends e can be discounted by b
--     Rewarding r e        the reward r can be added to the ends e
use Rattle.std.specs.Prelude.{ℕ, ◌-◌, ◌^◌, ◌≤◌, ℤ, pos, neg_ℤ, ◌≤ℤ◌}
use Rattle.ranges.specs.declared.ends.Ends.{Ends}
use Rattle.ranges.specs.Ranges.{Ordered, Inside}

pub record Within (limit : ℕ) (e : Ends) : Type 0 where
  pub ordered : Ordered e
  pub inside : Inside limit e

pub record Averaging (chance : ℕ) (one zero : Ends) : Type 0 where
  pub at_one : Within (2 ^ 41) one
  pub at_zero : Within (2 ^ 41) zero
  pub part : chance ≤ 10000

pub record Discounting (discount : ℕ) (e : Ends) : Type 0 where
  pub ends_fit : Within (2 ^ 41) e
  pub part : discount ≤ 10000

pub record Rewarding (reward : ℤ) (e : Ends) : Type 0 where
  pub ends_fit : Within (2 ^ 41 - 2 ^ 32) e
  pub least : neg_ℤ (pos (2 ^ 32)) ≤ℤ reward
  pub greatest : reward ≤ℤ pos (2 ^ 32)
