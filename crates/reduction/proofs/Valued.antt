-- What holds of all values of a function holds of all leaves of its reduced table.
use Rattle.std.proofs.Common.{◌≡◌, ℕ, zero, suc, ◌+◌, ◌<◌, Bool, true, false, List, [], ◌∷◌, length, get_or, sym, refl, subst, ⊎_elim, arith}
use Rattle.std.proofs.lemmas.List.{get_or_append_left, get_or_push, length_push}
use Rattle.std.proofs.lemmas.Bool.{cases_lt}
use Rattle.diagram.specs.declared.nodes.Node.{Node}
use Rattle.reduction.specs.Listed.{Same, listed}
use Rattle.reduction.specs.Walk.{walk, reduced}
use Rattle.reduction.proofs.Interning.{listed_cases}
use Rattle.reduction.proofs.Walked.{link_leaves}

abbrev pub AllIn : {X : Type 0} → (X → Type 0) → List X → Type 0
AllIn P xs = (j : ℕ) (d : _) → j < length xs → P (get_or xs j d)

module _ {X : Type 0} (eq : X → X → Bool) (same : Same eq) (n : ℕ) (P : X → Type 0) where
  listed_all : (xs : List X) (x : X) → AllIn P xs → P x → AllIn P (listed eq xs x)
  listed_all xs x all here =
      listed_cases eq same xs x (AllIn P) (λ _. all)
      (λ _ j d l.
      ⊎_elim (λ old. subst P (sym (get_or_append_left xs (x ∷ []) d j old)) (all j d old))
      (λ end. let last : length xs ≡ j = omega (arith, length_push xs x) in subst P (sym (get_or_push xs x d j last)) here) (cases_lt j (length xs)))

  walk_all : (L k : ℕ) (f : List Bool → X) (ls : List X) (ns : List Node) → ((bs : List Bool) → length bs ≡ L → P (f bs)) → AllIn P ls → AllIn P (walk eq n L k f ls ns).leaves
  unfolding walk
  walk_all zero k f ls ns h all = listed_all ls (f []) all (h [] refl)
  walk_all (suc L) k f ls ns h all =
      let one = walk eq n L (suc k) (λ bs. f (true ∷ bs)) ls ns in
      let m = walk eq n L (suc k) (λ bs. f (false ∷ bs)) one.leaves one.nodes in
      let first = walk_all L (suc k) (λ bs. f (true ∷ bs)) ls ns (λ bs long. h (true ∷ bs) (omega arith)) all in
      let both = walk_all L (suc k) (λ bs. f (false ∷ bs)) one.leaves one.nodes (λ bs long. h (false ∷ bs) (omega arith)) first in
      subst (AllIn P) (sym (link_leaves eq same n k one.root m)) both

  pub reduced_all : (f : List Bool → X) → ((bs : List Bool) → length bs ≡ n + n → P (f bs)) → AllIn P (reduced eq n f).leaves
  reduced_all f h = walk_all (n + n) 0 f [] [] h (λ j d l. absurd (omega arith))
