-- A survey of tables over states finds the greatest over all states.
--     GreatestOfStates n g r    no state of n conditions has more than r, and one has r
--     SurveysCoverStates        where what is read does not hang on the bits after a move, the greatest over all bits is the greatest over all states
use Rattle.std.specs.Prelude.{◌≡◌, ℕ, ◌+◌, ◌^◌, ◌<◌, ◌≤◌, Bool, List, ◌++◌, length}
use Rattle.diagram.specs.States.{bits_from}
use Rattle.survey.specs.Greatest.{greatest}

pub record GreatestOfStates (n : ℕ) (g : ℕ → ℕ) (r : ℕ) : Type 0 where
  pub most : (s : ℕ) → s < 2 ^ n → g s ≤ r
  pub state : ℕ
  pub inside : state < 2 ^ n
  pub met : g state ≡ r

abbrev pub SurveysCoverStates : Type 0
SurveysCoverStates =
    (n : ℕ) (f : List Bool → ℕ) (g : ℕ → ℕ) → ((bs : List Bool) (s : ℕ) → length bs ≡ n → s < 2 ^ n → f (bs ++ bits_from 0 n s) ≡ g s) → GreatestOfStates n g (greatest (n + n) f)
