-- A level that none of the three references tests can be skipped: the walk from it and the walk from the next come to the same.
use Rattle.std.proofs.Common.{◌≡◌, ℕ, zero, suc, ◌+◌, ◌<◌, ◌≤◌, Bool, true, false, List, ◌∷◌, length, sym, refl, ap, ◌∙◌, subst, arith}
use Rattle.std.proofs.lemmas.Bool.{cond-true, eq-eqb}
use Rattle.diagram.specs.declared.nodes.Node.{Node}
use Rattle.reduction.specs.Canonical.{Agree}
use Rattle.reduction.specs.Listed.{Same}
use Rattle.reduction.specs.Walk.{Made, link, walk}
use Rattle.reduction.proofs.Once.{walk_agree}
use Rattle.reduction.proofs.Walked.{link_adds, walk_adds}
use Rattle.sources.specs.declared.spot.Spot.{Spot}
use Rattle.sources.specs.declared.three.Sources.{Sources}
use Rattle.sources.specs.Spots.{top, down}
use Rattle.sources.proofs.Descents.{Descends, down_quiet}
use Rattle.combine.specs.Tables.{Over, Sound}
use Rattle.combine.proofs.Walks.{over_more, walk_again}

module _ {A B C X : Type 0} {eq : X → X → Bool} {S : Sources A B C} {f : ℕ → Spot → List Bool → X} (same : Same eq) (descends : Descends S f) where
  abbrev n : ℕ
  n = S.conditions

  -- one half of the function is the function of where the references lead
  halves : (L k : ℕ) (x : Bool) (at : Spot) → Agree L (λ bs. f k at (x ∷ bs)) (f (suc k) (down S k x at))
  halves L k x at bs long = descends.step k x at bs

  quiet_halves : (L k : ℕ) (x : Bool) (at : Spot) → k < top S at → Agree L (λ bs. f k at (x ∷ bs)) (f (suc k) at)
  quiet_halves L k x at less bs long = descends.step k x at bs ∙ ap (λ z. f (suc k) z bs) (down_quiet S k x at less)

  -- the walk at a level that is tested
  pub walk_node : (L k : ℕ) (at : Spot) (ls : List X) (ns : List Node) →
      walk eq n (suc L) k (f k at) ls ns
      ≡ link n k (walk eq n L (suc k) (f (suc k) (down S k true at)) ls ns).root
      (walk eq n L (suc k) (f (suc k) (down S k false at)) (walk eq n L (suc k) (f (suc k) (down S k true at)) ls ns).leaves (walk eq n L (suc k) (f (suc k) (down S k true at)) ls ns).nodes)
  unfolding walk
  walk_node L k at ls ns =
      let one = walk_agree eq n L (suc k) (λ bs. f k at (true ∷ bs)) (f (suc k) (down S k true at)) ls ns (halves L k true at) in
      let nil : (m : Made X) → walk eq n L (suc k) (λ bs. f k at (false ∷ bs)) m.leaves m.nodes ≡ walk eq n L (suc k) (f (suc k) (down S k false at)) m.leaves m.nodes =
      λ m. walk_agree eq n L (suc k) (λ bs. f k at (false ∷ bs)) (f (suc k) (down S k false at)) m.leaves m.nodes (halves L k false at) in
      ap (λ m. link n k m.root (walk eq n L (suc k) (λ bs. f k at (false ∷ bs)) m.leaves m.nodes)) one
      ∙ ap (link n k (walk eq n L (suc k) (f (suc k) (down S k true at)) ls ns).root) (nil (walk eq n L (suc k) (f (suc k) (down S k true at)) ls ns))

  module _ (at : Spot) (ls : List X) (ns : List Node) where
    abbrev W : ℕ → ℕ → Made X
    W L k = walk eq n L k (f k at) ls ns

    over_level : (p q L k : ℕ) → k < top S at → Over p q (W L (suc k)) → Over p q (W (suc L) k)
    unfolding walk
    over_level p q L k less o =
        let one = walk_agree eq n L (suc k) (λ bs. f k at (true ∷ bs)) (f (suc k) at) ls ns (quiet_halves L k true at less) in
        let m = walk eq n L (suc k) (λ bs. f k at (true ∷ bs)) ls ns in
        let m' = walk eq n L (suc k) (λ bs. f k at (false ∷ bs)) m.leaves m.nodes in
        over_more p q m (link n k m.root m') (link_adds n k m.root m.leaves m.nodes m' (walk_adds eq same n L (suc k) (λ bs. f k at (false ∷ bs)) m.leaves m.nodes))
        (subst (Over p q) (sym one) o)

    pub over_levels : (p q d k L k' L' : ℕ) → k' ≡ k + d → L ≡ L' + d → k' ≤ top S at → Over p q (W L' k') → Over p q (W L k)
    over_levels p q zero k L k' L' ek eL le o =
        let e : k' ≡ k = omega arith in
        let e' : L' ≡ L = omega arith in
        subst (λ z. Over p q (W L z)) e (subst (λ z. Over p q (W z k')) e' o)
    over_levels p q (suc d) k L k' L' ek eL le o =
        let e : suc (L' + d) ≡ L = omega arith in
        subst (λ z. Over p q (W z k)) e (over_level p q (L' + d) k (omega arith) (over_levels p q d (suc k) (L' + d) k' L' (omega arith) refl le o))

    module _ (s : Sound eq n ls ns) where
      skip_level : (L k : ℕ) → k + suc L ≡ n + n → k < top S at → length (W L (suc k)).leaves ≤ 65536 → W (suc L) k ≡ W L (suc k)
      unfolding walk
      skip_level L k ends less few =
          let m = W L (suc k) in
          let one : walk eq n L (suc k) (λ bs. f k at (true ∷ bs)) ls ns ≡ m = walk_agree eq n L (suc k) (λ bs. f k at (true ∷ bs)) (f (suc k) at) ls ns (quiet_halves L k true at less) in
          let nil : walk eq n L (suc k) (λ bs. f k at (false ∷ bs)) m.leaves m.nodes ≡ m =
          walk_agree eq n L (suc k) (λ bs. f k at (false ∷ bs)) (f (suc k) at) m.leaves m.nodes (quiet_halves L k false at less) ∙ walk_again eq same n L (suc k) (f (suc k) at) ls ns (omega arith) s few in
          ap (λ z. link n k z.root (walk eq n L (suc k) (λ bs. f k at (false ∷ bs)) z.leaves z.nodes)) one ∙ ap (link n k m.root) nil ∙ cond-true _ _ _ (eq-eqb m.root m.root refl)

      pub skip_levels : (d k L k' L' : ℕ) → k' ≡ k + d → L ≡ L' + d → k + L ≡ n + n → k' ≤ top S at → length (W L' k').leaves ≤ 65536 → W L k ≡ W L' k'
      skip_levels zero k L k' L' ek eL ends le few =
          let e : k ≡ k' = omega arith in
          let e' : L ≡ L' = omega arith in
          ap (λ z. W z k) e' ∙ ap (W L') e
      skip_levels (suc d) k L k' L' ek eL ends le few =
          let e : L ≡ suc (L' + d) = omega arith in
          let rest : W (L' + d) (suc k) ≡ W L' k' = skip_levels d (suc k) (L' + d) k' L' (omega arith) refl (omega arith) le few in
          ap (λ z. W z k) e ∙ skip_level (L' + d) k (omega arith) (omega arith) (subst (λ m. length m.leaves ≤ 65536) (sym rest) few) ∙ rest
