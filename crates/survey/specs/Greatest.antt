-- The greatest value of a function over lists of bits.
--     greatest L f           the greatest that f comes to over all lists of L bits
--     IsGreatest L f r       no list of L bits has more than r, and one has r
--     GreatestIsGreatest     `greatest` is that
use Rattle.std.specs.Prelude.{◌≡◌, ℕ, zero, suc, ◌≤◌, max, Bool, true, false, List, [], ◌∷◌, length}

unfoldable pub greatest : ℕ → (List Bool → ℕ) → ℕ
greatest zero f = f []
greatest (suc L) f = max (greatest L (λ bs. f (true ∷ bs))) (greatest L (λ bs. f (false ∷ bs)))

pub record IsGreatest (L : ℕ) (f : List Bool → ℕ) (r : ℕ) : Type 0 where
  pub most : (bs : List Bool) → length bs ≡ L → f bs ≤ r
  pub where_it_is : List Bool
  pub as_long : length where_it_is ≡ L
  pub met : f where_it_is ≡ r

abbrev pub GreatestIsGreatest : Type 0
GreatestIsGreatest = (L : ℕ) (f : List Bool → ℕ) → IsGreatest L f (greatest L f)
