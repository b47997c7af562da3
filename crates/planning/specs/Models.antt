-- A model as the mathematics sees it: a reward for each state, and chances for each move.
--     Model          conditions n, moves m, discount b in ten-thousandths, the reward of a state, the chance of (move, condition, state)
--     IsState M s    s is one of the 2^n states
--     Sound M        there is a move, the discount lies strictly between 0 and 1, no chance is above 10,000
use Rattle.std.specs.Prelude.{ℕ, ◌^◌, ◌<◌, ◌≤◌, ℤ}

pub record Model : Type 0 where
  pub conditions : ℕ
  pub moves : ℕ
  pub discount : ℕ
  pub reward : ℕ → ℤ
  pub chance : ℕ → ℕ → ℕ → ℕ

abbrev pub IsState : Model → ℕ → Type 0
IsState M s = s < 2 ^ M.conditions

pub record Sound (M : Model) : Type 0 where
  pub some_move : 0 < M.moves
  pub some_discount : 0 < M.discount
  pub less_than_whole : M.discount < 10000
  pub chances : (a i s : ℕ) → a < M.moves → i < M.conditions → IsState M s → M.chance a i s ≤ 10000
