-- The greatest over the levels from one on: a level that is tested parts it in two, and a level that none of the three references tests can be skipped.
use Rattle.std.proofs.Common.{◌≡◌, ℕ, zero, suc, ◌+◌, ◌-◌, ◌<◌, ◌≤◌, max, Bool, true, false, List, [], ◌∷◌, refl, ap, ◌∙◌, arith}
use Rattle.sources.specs.declared.spot.Spot.{Spot}
use Rattle.sources.specs.declared.three.Sources.{Sources}
use Rattle.sources.specs.Spots.{levels, top, down}
use Rattle.sources.proofs.Descents.{Descends, down_quiet}
use Rattle.survey.specs.Greatest.{greatest}
use Rattle.survey.specs.Surveyed.{greatest_from}
use Rattle.survey.proofs.Greatests.{greatest_agree}

-- where no level is left, it is the figure of the three leaves
pub at_leaves : {A B C : Type 0} (S : Sources A B C) (f : ℕ → Spot → List Bool → ℕ) (at : Spot) → greatest_from S (levels S) (f (levels S) at) ≡ f (levels S) at []
unfolding greatest
at_leaves S f at = let e : levels S - levels S ≡ 0 = omega arith in ap (λ L. greatest L (f (levels S) at)) e

module _ {A B C : Type 0} {S : Sources A B C} {f : ℕ → Spot → List Bool → ℕ} (descends : Descends S f) where
  halved : (L k : ℕ) (at : Spot) → greatest (suc L) (f k at) ≡ max (greatest L (f (suc k) (down S k true at))) (greatest L (f (suc k) (down S k false at)))
  unfolding greatest
  halved L k at =
      ap (λ z. max z (greatest L (λ bs. f k at (false ∷ bs)))) (greatest_agree L (λ bs. f k at (true ∷ bs)) (f (suc k) (down S k true at)) (λ bs long. descends.step k true at bs))
      ∙ ap (max (greatest L (f (suc k) (down S k true at)))) (greatest_agree L (λ bs. f k at (false ∷ bs)) (f (suc k) (down S k false at)) (λ bs long. descends.step k false at bs))

  pub at_node : (k : ℕ) (at : Spot) → k < levels S → greatest_from S k (f k at) ≡ max (greatest_from S (suc k) (f (suc k) (down S k true at))) (greatest_from S (suc k) (f (suc k) (down S k false at)))
  at_node k at less =
      let e : levels S - k ≡ suc (levels S - suc k) = omega arith in
      ap (λ L. greatest L (f k at)) e ∙ halved (levels S - suc k) k at

  skip_level : (L k : ℕ) (at : Spot) → k < top S at → greatest (suc L) (f k at) ≡ greatest L (f (suc k) at)
  skip_level L k at less =
      let x : (v : Bool) → greatest L (f (suc k) (down S k v at)) ≡ greatest L (f (suc k) at) = λ v. ap (λ z. greatest L (f (suc k) z)) (down_quiet S k v at less) in
      let p = x true in
      let q = x false in
      halved L k at ∙ omega arith

  skip : (d k L k' L' : ℕ) (at : Spot) → k' ≡ k + d → L ≡ L' + d → k' ≤ top S at → greatest L (f k at) ≡ greatest L' (f k' at)
  skip zero k L k' L' at ek eL le =
      let e : k ≡ k' = omega arith in
      let e' : L ≡ L' = omega arith in
      ap (λ z. greatest z (f k at)) e' ∙ ap (λ z. greatest L' (f z at)) e
  skip (suc d) k L k' L' at ek eL le =
      let e : L ≡ suc (L' + d) = omega arith in
      ap (λ z. greatest z (f k at)) e ∙ skip_level (L' + d) k at (omega arith) ∙ skip d (suc k) (L' + d) k' L' at (omega arith) refl le

  pub to_top : (k : ℕ) (at : Spot) → k ≤ top S at → top S at ≤ levels S → greatest_from S k (f k at) ≡ greatest_from S (top S at) (f (top S at) at)
  to_top k at le inside = skip (top S at - k) k (levels S - k) (top S at) (levels S - top S at) at (omega arith) (omega arith) (omega arith)
