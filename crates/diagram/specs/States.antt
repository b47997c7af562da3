-- A state is a whole number, and its bits are the values of the conditions, condition 0 in the lowest.
--     bit i s           condition i is 1 in the state s
--     bits_from i n s   the bits of s at i, i + 1, .., n of them
--     number_of bs      the state whose bits are bs
--     StatesAreBits     a state of n conditions is its n bits, and any n bits are a state's
use Rattle.std.specs.Prelude.{◌≡◌, ℕ, zero, suc, ◌+◌, ◌*◌, ◌/◌, ◌%◌, ◌^◌, ◌<◌, Bool, cond, List, [], ◌∷◌, length, ◌==◌}

abbrev pub bit : ℕ → ℕ → Bool
bit i s = s / 2 ^ i % 2 == 1

abbrev pub bits_from : ℕ → ℕ → ℕ → List Bool
bits_from i zero s = []
bits_from i (suc n) s = bit i s ∷ bits_from (suc i) n s

abbrev pub number_of : List Bool → ℕ
number_of [] = 0
number_of (b ∷ bs) = cond b 1 0 + 2 * number_of bs

pub record StateBits (n : ℕ) : Type 0 where
  pub state_back : (s : ℕ) → s < 2 ^ n → number_of (bits_from 0 n s) ≡ s
  pub bits_back : (bs : List Bool) → length bs ≡ n → bits_from 0 n (number_of bs) ≡ bs
  pub inside : (bs : List Bool) → length bs ≡ n → number_of bs < 2 ^ n

abbrev pub StatesAreBits : Type 0
StatesAreBits = (n : ℕ) → StateBits n
