-- Exact values and plans, multiplied out so that all numbers are whole.
--     weight c i t           the product over the conditions below i of the chance c of what t has there, or of what it has not
--     sum k f                f 0 + f 1 + .. + f (k - 1)
--     expected M a s X       the sum over all states t after the move a from s, of the weight of t times X t
--     scale M k              what a value with k stages to go is multiplied by: 10,000^((n + 1)·k)
--     greatest k f           the greatest of f 0, .., f k
--     exact M k s            the exact value of s with k stages to go, times scale M k
--     worth M π k s          the same of the plan π, which names a move for each number of stages to go and each state
--     nested c i X           X with the conditions below i averaged out one by one, times 10,000^i
--     steady f               the plan that names f s in the state s, whatever the stage: advice
use Rattle.std.specs.Prelude.{◌≡◌, ℕ, zero, suc, ◌+◌, ◌-◌, ◌*◌, ◌^◌, cond, ℤ, pos, ◌+ℤ◌}
use Rattle.std.specs.Int.{int_max}
use Rattle.diagram.specs.States.{bit}
use Rattle.ranges.specs.Ranges.{mixed}
use Rattle.ranges.specs.Whole.{◌·◌}
use Rattle.planning.specs.Models.{Model}

abbrev pub weight : (ℕ → ℕ) → ℕ → ℕ → ℕ
weight c zero t = 1
weight c (suc i) t = weight c i t * cond (bit i t) (c i) (10000 - c i)

abbrev pub sum : ℕ → (ℕ → ℤ) → ℤ
sum zero f = pos 0
sum (suc k) f = sum k f +ℤ f k

unfoldable pub expected : Model → ℕ → ℕ → (ℕ → ℤ) → ℤ
expected M a s X = sum (2 ^ M.conditions) (λ t. weight (λ i. M.chance a i s) M.conditions t · X t)

unfoldable pub scale : Model → ℕ → ℕ
scale M k = 10000 ^ ((M.conditions + 1) * k)

abbrev pub greatest : ℕ → (ℕ → ℤ) → ℤ
greatest zero f = f 0
greatest (suc k) f = int_max (greatest k f) (f (suc k))

abbrev pub exact : Model → ℕ → ℕ → ℤ
exact M zero s = M.reward s
exact M (suc k) s = (scale M (suc k) · M.reward s) +ℤ greatest (M.moves - 1) (λ a. M.discount · expected M a s (exact M k))

abbrev pub worth : Model → (ℕ → ℕ → ℕ) → ℕ → ℕ → ℤ
worth M π zero s = M.reward s
worth M π (suc k) s = (scale M (suc k) · M.reward s) +ℤ (M.discount · expected M (π (suc k) s) s (worth M π k))

abbrev pub steady : (ℕ → ℕ) → ℕ → ℕ → ℕ
steady f k s = f s

-- the conditions below i taken one by one, the last of them first, each with its two branches mixed by its chance
abbrev pub nested : (ℕ → ℕ) → ℕ → (ℕ → ℤ) → ℤ
nested c zero X = X 0
nested c (suc i) X = nested c i (λ t. mixed (c i) (X (t + 2 ^ i)) (X t))

-- the sum over all states after a move is the nested averages
abbrev pub SumsAreNested : Type 0
SumsAreNested = (M : Model) (a s : ℕ) (X : ℕ → ℤ) → expected M a s X ≡ nested (λ i. M.chance a i s) M.conditions X
