-- Lists in which each thing stands once.
--     Same                what a kind of thing shows of its sameness: a test that holds of equal things and of no others
--     same_whole          the test for whole numbers
--     index eq xs x       the first place at which x stands, or the length where it does not
--     listed eq xs x      xs, with x at its end if it did not stand there
use Rattle.std.specs.Prelude.{◌≡◌, ℕ, suc, Bool, true, false, cond, List, [], ◌∷◌, ◌++◌, length, ℤ, pos, negsuc, ◌==◌, nat_lt}

pub record Same {X : Type 0} (eq : X → X → Bool) : Type 0 where
  pub means : (x y : X) → eq x y ≡ true → x ≡ y
  pub self : (x : X) → eq x x ≡ true

abbrev pub same_whole : ℤ → ℤ → Bool
same_whole (pos a) (pos b) = a == b
same_whole (pos a) (negsuc b) = false
same_whole (negsuc a) (pos b) = false
same_whole (negsuc a) (negsuc b) = a == b

abbrev pub index : {X : Type 0} → (X → X → Bool) → List X → X → ℕ
index eq [] x = 0
index eq (y ∷ ys) x = cond (eq y x) 0 (suc (index eq ys x))

abbrev pub listed : {X : Type 0} → (X → X → Bool) → List X → X → List X
listed eq xs x = cond (nat_lt (index eq xs x) (length xs)) xs (xs ++ x ∷ [])
