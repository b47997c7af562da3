-- Finding a thing in a list, and listing it: it then stands there, at its index, and what stood there before stays.
use Rattle.std.proofs.Common.{◌≡◌, ℕ, zero, suc, ◌<◌, ◌≤◌, Bool, true, false, cond, List, [], ◌∷◌, ◌++◌, length, get_or, sym, refl, ap, ◌∙◌, subst, ⊎_elim, append_assoc, append-nil, arith, length-append}
use Rattle.std.proofs.lemmas.List.{get_or_append_left, get_or_push, length_push}
use Rattle.std.proofs.lemmas.Bool.{cond_both, cond-true, cond-false, cases_lt, lt-ltb, le-ltb, false≢true}
use Rattle.reduction.specs.Canonical.{Distinct}
use Rattle.reduction.specs.Listed.{Same, index, listed}

-- ys is xs and then more
abbrev pub Grown : {X : Type 0} → List X → List X → Type 0
Grown xs ys = (zs : List _) × (ys ≡ xs ++ zs)

pub grown_none : {X : Type 0} (xs : List X) → Grown xs xs
grown_none xs = ([], sym (append-nil xs))

pub grown_more : {X : Type 0} (xs ys zs : List X) → Grown xs ys → Grown ys zs → Grown xs zs
grown_more xs ys zs g h = (g.0 ++ h.0, h.1 ∙ ap (λ l. l ++ h.0) g.1 ∙ append_assoc xs g.0 h.0)

pub grown_length : {X : Type 0} (xs ys : List X) → Grown xs ys → length xs ≤ length ys
grown_length xs ys g = omega (arith, ap length g.1, length-append xs g.0)

pub grown_getD : {X : Type 0} (xs ys : List X) (i : ℕ) (d : X) → Grown xs ys → i < length xs → get_or ys i d ≡ get_or xs i d
grown_getD xs ys i d g h = ap (λ l. get_or l i d) g.1 ∙ get_or_append_left xs g.0 d i h

module _ {X : Type 0} (eq : X → X → Bool) (same : Same eq) where
  pub index_le : (xs : List X) (x : X) → index eq xs x ≤ length xs
  index_le [] x = omega arith
  index_le (y ∷ ys) x = cond_both (eq y x) 0 (suc (index eq ys x)) (λ i. i ≤ suc (length ys)) (λ _. omega arith) (λ _. omega (arith, index_le ys x))

  found_step : (y x d : X) (ys : List X) (b : Bool) → eq y x ≡ b → (index eq ys x < length ys → get_or ys (index eq ys x) d ≡ x) → cond b 0 (suc (index eq ys x)) < suc (length ys) →
      get_or (y ∷ ys) (cond b 0 (suc (index eq ys x))) d ≡ x
  found_step y x d ys true e rest l = same.means y x e
  found_step y x d ys false e rest l = rest (omega arith)

  found : (xs : List X) (x d : X) → index eq xs x < length xs → get_or xs (index eq xs x) d ≡ x
  found [] x d h = absurd (omega arith)
  found (y ∷ ys) x d h = found_step y x d ys (eq y x) refl (found ys x d) h

  pub listed_cases : (xs : List X) (x : X) (P : List X → Type 0) → (index eq xs x < length xs → P xs) → (index eq xs x ≡ length xs → P (xs ++ x ∷ [])) → P (listed eq xs x)
  listed_cases xs x P old new =
      ⊎_elim (λ l. subst P (sym (cond-true _ _ _ (lt-ltb _ _ l))) (old l)) (λ g. subst P (sym (cond-false _ _ _ (le-ltb _ _ g))) (new (omega (arith, index_le xs x)))) (cases_lt (index eq xs x) (length xs))

  pub listed_grown : (xs : List X) (x : X) → Grown xs (listed eq xs x)
  listed_grown xs x = listed_cases xs x (Grown xs) (λ _. grown_none xs) (λ _. (x ∷ [], refl))

  pub listed_at : (xs : List X) (x d : X) → get_or (listed eq xs x) (index eq xs x) d ≡ x
  listed_at xs x d = listed_cases xs x (λ l. get_or l (index eq xs x) d ≡ x) (λ l. found xs x d l) (λ e. get_or_push xs x d (index eq xs x) (sym e))

  pub listed_within : (xs : List X) (x : X) → index eq xs x < length (listed eq xs x)
  listed_within xs x = listed_cases xs x (λ l. index eq xs x < length l) (λ l. l) (λ e. omega (arith, length_push xs x))

  missed_step : (y x d : X) (ys : List X) (i : ℕ) (b : Bool) → eq y x ≡ b → ((j : ℕ) → j < index eq ys x → eq (get_or ys j d) x ≡ false) → i < cond b 0 (suc (index eq ys x)) → eq (get_or (y ∷ ys) i d) x ≡ false
  missed_step y x d ys i true hit rest l = absurd (omega arith)
  missed_step y x d ys zero false miss rest l = miss
  missed_step y x d ys (suc i) false miss rest l = rest i (omega arith)

  -- before its index a thing does not stand
  pub missed : (xs : List X) (x d : X) (i : ℕ) → i < index eq xs x → eq (get_or xs i d) x ≡ false
  missed [] x d i l = absurd (omega arith)
  missed (y ∷ ys) x d i l = missed_step y x d ys i (eq y x) refl (missed ys x d) l

  -- in a list of distinct things a thing's place is its index
  pub index_unique : (xs : List X) (x d : X) (i : ℕ) → Distinct eq xs → i < length xs → get_or xs i d ≡ x → index eq xs x ≡ i
  index_unique xs x d i apart l e =
      let k = index eq xs x in
      ⊎_elim
      (λ under.
      let at = found xs x d (omega arith) in
      absurd (false≢true (sym (apart k i d under l) ∙ ap (λ z. eq z (get_or xs i d)) at ∙ ap (eq x) e ∙ same.self x)))
      (λ rest. ⊎_elim (λ beyond. absurd (false≢true (sym (missed xs x d i beyond) ∙ ap (λ z. eq z x) e ∙ same.self x))) (λ le. omega arith) (cases_lt i k))
      (cases_lt k i)
