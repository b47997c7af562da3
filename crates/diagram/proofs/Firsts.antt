-- What `find` over the numbers below n comes to.
use Rattle.std.proofs.Common.{◌≡◌, ℕ, ◌<◌, ◌≤◌, Bool, true, false, Some, None, Option, MatchOption, arith}
use Rattle.diagram.specs.First.{FirstFailing}

pub first_found : (p : ℕ → Bool) (a b n : ℕ) (r : Option ℕ) → a ≡ 0 → b ≡ n →
    MatchOption r ((k : ℕ) → a ≤ k → k < b → p k ≡ true) (λ i. (a ≤ i) × (i < b) × (p i ≡ false) × ((k : ℕ) → a ≤ k → k < i → p k ≡ true)) → FirstFailing p n r
first_found p a b n None start end none = λ k low. none k (omega arith) (omega arith)
first_found p a b n (Some i) start end found = (omega (arith, found.1), found.2, λ k low. found.3 k (omega arith) low)
