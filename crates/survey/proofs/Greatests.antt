-- The greatest value is no less than any and is met.
use Rattle.std.proofs.Common.{◌≡◌, ℕ, zero, suc, ◌≤◌, max, Bool, true, false, List, [], ◌∷◌, length, refl, ap, ◌∙◌, ⊎_elim, arith}
use Rattle.std.proofs.lemmas.Bool.{cases_lt}
use Rattle.survey.specs.Greatest.{greatest, IsGreatest, GreatestIsGreatest}

pub greatest_agree : (L : ℕ) (f g : List Bool → ℕ) → ((bs : List Bool) → length bs ≡ L → f bs ≡ g bs) → greatest L f ≡ greatest L g
unfolding greatest
greatest_agree zero f g h = h [] refl
greatest_agree (suc L) f g h =
    let one = greatest_agree L (λ bs. f (true ∷ bs)) (λ bs. g (true ∷ bs)) (λ bs long. h (true ∷ bs) (omega arith)) in
    let nil = greatest_agree L (λ bs. f (false ∷ bs)) (λ bs. g (false ∷ bs)) (λ bs long. h (false ∷ bs) (omega arith)) in
    ap (λ z. max z (greatest L (λ bs. f (false ∷ bs)))) one ∙ ap (max (greatest L (λ bs. g (true ∷ bs)))) nil

module _ (L : ℕ) (f : List Bool → ℕ) (a b : ℕ) (p : IsGreatest L (λ bs. f (true ∷ bs)) a) (q : IsGreatest L (λ bs. f (false ∷ bs)) b) where
  most_of : (bs : List Bool) → length bs ≡ suc L → f bs ≤ max a b
  most_of [] long = absurd (omega arith)
  most_of (true ∷ bs) long = let h = p.most bs (omega arith) in omega arith
  most_of (false ∷ bs) long = let h = q.most bs (omega arith) in omega arith

  joined : IsGreatest (suc L) f (max a b)
  joined =
      ⊎_elim
      (λ less.
      record {
        most = most_of;
        where_it_is = false ∷ q.where_it_is;
        as_long = ap suc q.as_long;
        met = q.met ∙ omega arith;
      })
      (λ no_less.
      record {
        most = most_of;
        where_it_is = true ∷ p.where_it_is;
        as_long = ap suc p.as_long;
        met = p.met ∙ omega arith;
      })
      (cases_lt a b)

only : (f : List Bool → ℕ) (bs : List Bool) → length bs ≡ 0 → f bs ≤ f []
only f [] long = omega arith
only f (b ∷ bs) long = absurd (omega arith)

pub greatest_is_greatest : GreatestIsGreatest
unfolding greatest
greatest_is_greatest zero f = record { most = only f; where_it_is = []; as_long = refl; met = refl }
greatest_is_greatest (suc L) f = joined L f _ _ (greatest_is_greatest L (λ bs. f (true ∷ bs))) (greatest_is_greatest L (λ bs. f (false ∷ bs)))
