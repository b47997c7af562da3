-- The stages of a step as functions of bits, one for each level: the conditions after a move first, then those before it.
--     over_states n g         a function of states, whatever the bits after a move are
--     over_after n g          a function of the states after a move, whatever the bits before it are
--     part c n V d t          V with d of the n conditions averaged out by the chances c, the last of them first; t is a state of the others
--     parts M V a d           the same for the move a, as a function of bits
--     averaging M a i f       f with the after-condition i averaged out by the chance of the move a
--     PartsAreAveraged        a stage is the average of the one before it with its next condition at 1 and at 0
--     PartsComeToRanges       no condition averaged out is V over the states after the move, and all is the range that the move gives
use Rattle.std.specs.Prelude.{◌≡◌, ℕ, zero, suc, ◌+◌, ◌-◌, ◌^◌, ◌<◌, Bool, true, false, List, length, take, drop, slice_set}
use Rattle.diagram.specs.States.{number_of}
use Rattle.ranges.specs.declared.ends.Ends.{Ends}
use Rattle.ranges.specs.Ranges.{average}
use Rattle.planning.specs.Models.{Model}
use Rattle.planning.specs.Passes.{ranged}

abbrev pub over_states : {X : Type 0} → ℕ → (ℕ → X) → List Bool → X
over_states n g bs = g (number_of (drop n bs))

abbrev pub over_after : {X : Type 0} → ℕ → (ℕ → X) → List Bool → X
over_after n g bs = g (number_of (take n bs))

abbrev pub part : (ℕ → ℕ) → ℕ → (ℕ → Ends) → ℕ → ℕ → Ends
part c n V zero t = V t
part c n V (suc d) t = average (c (n - suc d)) (part c n V d (t + 2 ^ (n - suc d))) (part c n V d t)

abbrev pub parts : Model → (ℕ → Ends) → ℕ → ℕ → List Bool → Ends
parts M V a d bs = part (λ i. M.chance a i (number_of (drop M.conditions bs))) M.conditions V d (number_of (take (M.conditions - d) bs))

abbrev pub averaging : Model → ℕ → ℕ → (List Bool → Ends) → List Bool → Ends
averaging M a i f bs = average (over_states M.conditions (M.chance a i) bs) (f (slice_set bs i true)) (f (slice_set bs i false))

abbrev pub PartsAreAveraged : Type 0
PartsAreAveraged =
    (M : Model) (V : ℕ → Ends) (a d : ℕ) → d < M.conditions → (bs : List Bool) → length bs ≡ M.conditions + M.conditions →
    parts M V a (suc d) bs ≡ averaging M a (M.conditions - suc d) (parts M V a d) bs

pub record PartsComeToRanges : Type 0 where
  pub first : (M : Model) (V : ℕ → Ends) (a : ℕ) (bs : List Bool) → parts M V a 0 bs ≡ over_after M.conditions V bs
  pub last : (M : Model) (V : ℕ → Ends) (a : ℕ) (bs : List Bool) → parts M V a M.conditions bs ≡ over_states M.conditions (ranged M a V) bs
