-- The limits of leaves.
--     reward_within z       a reward may be z
--     chance_within c       a chance, in ten-thousandths, may be c
--     within limit z        z lies within ±limit
--     ends_within limit e   the low end of e is not above the high one, and both lie within ±limit
--     LimitsArePlain        what the four tests say in plain facts
use Rattle.std.specs.Prelude.{ℕ, ◌^◌, ◌≤◌, Bool, ◌&&◌, ℤ, pos, negsuc, neg_ℤ, ◌≤ℤ◌, Decides, int_le, nat_le, unsigned_abs}
use Rattle.ranges.specs.declared.ends.Ends.{Ends}
use Rattle.ranges.specs.Ranges.{Ordered, Inside}

-- from -2^32 to 2^32
abbrev pub reward_within : ℤ → Bool
reward_within z = int_le (negsuc 4294967295) z && int_le z (pos 4294967296)

abbrev pub chance_within : ℕ → Bool
chance_within c = nat_le c 10000

abbrev pub within : ℕ → ℤ → Bool
within limit z = nat_le (unsigned_abs z) limit

abbrev pub ends_within : ℕ → Ends → Bool
ends_within limit e = int_le e.low e.high && (within limit e.low && within limit e.high)

pub record LimitsArePlain : Type 0 where
  pub rewards : (z : ℤ) → Decides (reward_within z) ((neg_ℤ (pos (2 ^ 32)) ≤ℤ z) × (z ≤ℤ pos (2 ^ 32)))
  pub chances : (c : ℕ) → Decides (chance_within c) (c ≤ 10000)
  pub numbers : (limit : ℕ) (z : ℤ) → Decides (within limit z) ((neg_ℤ (pos limit) ≤ℤ z) × (z ≤ℤ pos limit))
  pub ranges : (limit : ℕ) (e : Ends) → Decides (ends_within limit e) (Ordered e × Inside limit e)
