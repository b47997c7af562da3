-- One bit more at the end of a list of bits, and a list cut around one of its bits.
use Rattle.std.proofs.Common.{◌≡◌, ℕ, zero, suc, ◌+◌, ◌*◌, ◌^◌, ◌<◌, Bool, true, false, cond, List, [], ◌∷◌, ◌++◌, length, take, drop, refl, ap, arith}
use native.Mathlib.Nat.{pow-succ'}
use Rattle.diagram.specs.States.{number_of}

pub number_one : (bs : List Bool) → number_of (bs ++ true ∷ []) ≡ number_of bs + 2 ^ length bs
number_one [] = refl
number_one (b ∷ bs) = let h = number_one bs in let e = pow-succ' 2 (length bs) in elim b as (λ c. cond c 1 0 + 2 * number_of (bs ++ true ∷ []) ≡ (cond c 1 0 + 2 * number_of bs) + 2 ^ suc (length bs)) [ true ↦ omega arith | false ↦ omega arith ]

pub number_zero : (bs : List Bool) → number_of (bs ++ false ∷ []) ≡ number_of bs
number_zero [] = refl
number_zero (b ∷ bs) = ap (λ z. cond b 1 0 + 2 * z) (number_zero bs)

pub take_front : {X : Type 0} (xs ys : List X) (k : ℕ) → length xs ≡ k → take k (xs ++ ys) ≡ xs
take_front [] ys zero e = refl
take_front [] ys (suc k) e = absurd (omega arith)
take_front (x ∷ xs) ys zero e = absurd (omega arith)
take_front (x ∷ xs) ys (suc k) e = ap (λ zs. x ∷ zs) (take_front xs ys k (omega arith))

pub take_through : {X : Type 0} (xs ys : List X) (y : X) (k : ℕ) → suc (length xs) ≡ k → take k (xs ++ y ∷ ys) ≡ xs ++ y ∷ []
take_through xs ys y zero e = absurd (omega arith)
take_through [] ys y (suc zero) e = refl
take_through [] ys y (suc (suc k)) e = absurd (omega arith)
take_through (x ∷ xs) ys y (suc k) e = ap (λ zs. x ∷ zs) (take_through xs ys y k (omega arith))

-- what lies past a place does not hang on what stands there
pub drop_past : {X : Type 0} (xs ys : List X) (y z : X) (k : ℕ) → length xs < k → drop k (xs ++ y ∷ ys) ≡ drop k (xs ++ z ∷ ys)
drop_past xs ys y z zero less = absurd (omega arith)
drop_past [] ys y z (suc k) less = refl
drop_past (x ∷ xs) ys y z (suc k) less = drop_past xs ys y z k (omega arith)
