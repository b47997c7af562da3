-- Lists that follow others under a map of leaves, in that each function that stands in the others stands mapped in these, go on to follow them when both walk one more leaf or node.
use Rattle.std.proofs.Common.{◌≡◌, ℕ, zero, suc, ◌+◌, ◌-◌, ◌≤◌, Bool, true, false, ◌⊎◌, List, ◌∷◌, length, get_or, sym, refl, ap, ◌∙◌, subst, ⊎_elim, arith}
use Rattle.diagram.specs.Lawful.{names, Lawful}
use Rattle.diagram.specs.Reads.{reach}
use Rattle.reduction.specs.Listed.{Same}
use Rattle.reduction.specs.Walk.{Made, walk}
use Rattle.reduction.specs.Canonical.{both}
use Rattle.reduction.specs.Mapped.{NoLarger}
use Rattle.reduction.proofs.Interning.{grown_none}
use Rattle.reduction.proofs.Growth.{Above}
use Rattle.reduction.proofs.Walked.{Adds, Stands, pass_over, unlinked, walk_adds, walk_stands}
use Rattle.reduction.proofs.Again.{at_root, half, Tidy, walk_tidy, again}
use Rattle.reduction.proofs.Standing.{stands_later, stood_before}

module _ {X Y : Type 0} (eq : X → X → Bool) (same : Same eq) (eq' : Y → Y → Bool) (same' : Same eq') (n : ℕ) (g : X → Y) where
  pub record Follows (m : Made X) (m' : Made Y) : Type 0 where
    pub lawful : Lawful (both n) (length m.leaves) m.nodes
    pub lawful' : Lawful (both n) (length m'.leaves) m'.nodes
    pub tidy' : Tidy eq' same' n m'.leaves m'.nodes
    pub no_larger : NoLarger m' m
    pub maps : (L k : ℕ) (h : List Bool → X) (r : ℕ) → k + L ≡ n + n → Stands eq same n L k h (at_root m r) → (r' : ℕ) × Stands eq' same' n L k (λ bs. g (h bs)) (at_root m' r')

  -- the roots do not matter
  rerooted : (m : Made X) (m' : Made Y) (r r' : ℕ) → Follows m m' → Follows (at_root m r) (at_root m' r')
  rerooted m m' r r' fol =
      record { lawful = fol.lawful; lawful' = fol.lawful'; tidy' = fol.tidy'; no_larger = record { leaves = fol.no_larger.leaves; nodes = fol.no_larger.nodes }; maps = fol.maps }

  module _ (L k : ℕ) (f : List Bool → X) (m : Made X) (m' : Made Y) (ends : k + L ≡ n + n) (fol : Follows m m') where
    abbrev walk' : Made Y
    walk' = walk eq' n L k (λ bs. g (f bs)) m'.leaves m'.nodes

    -- f stood in the lists before
    pub nothing_new : (r : ℕ) → Stands eq same n L k f (at_root m r) → Follows (at_root m r) walk'
    nothing_new r st =
        let p = fol.maps L k f r ends st in
        subst (Follows (at_root m r)) (sym (again eq' same' n L k (λ bs. g (f bs)) (at_root m' p.0) ends fol.tidy' p.1)) (rerooted m m' r p.0 fol)

    -- the root of m⁺, for f, is the one reference that m did not name
    module _ (m⁺ : Made X) (more : Adds m.leaves m.nodes m⁺) (st : Stands eq same n L k f m⁺) (no_larger : NoLarger walk' m⁺) (few : length m⁺.leaves ≤ 65536)
        (only : (r : ℕ) → names (length m⁺.leaves) (length m⁺.nodes) r ≡ true → (names (length m.leaves) (length m.nodes) r ≡ true) ⊎ (r ≡ m⁺.root))
        (top : (j : ℕ) → j ≤ n + n → Above n m⁺.nodes j m⁺.root → j ≤ k) where
      st' : Stands eq' same' n L k (λ bs. g (f bs)) walk'
      st' = walk_stands eq' same' n L k (λ bs. g (f bs)) m'.leaves m'.nodes ends fol.lawful' (omega arith)

      -- whatever stands at the new root is f after levels that are not tested
      maps_new : (d L₁ k₁ : ℕ) (h : List Bool → X) → k₁ + d ≡ k → k₁ + L₁ ≡ n + n → Stands eq same n L₁ k₁ h m⁺ → Stands eq' same' n L₁ k₁ (λ bs. g (h bs)) walk'
      maps_new zero L₁ k₁ h down ends₁ st₁ =
          let at : k ≡ k₁ = omega arith in
          record {
            lawful = st'.lawful;
            rooted = st'.rooted;
            above = subst (λ z. Above n walk'.nodes z walk'.root) at st'.above;
            reads = λ bs long d.
                let agrees : f bs ≡ h bs = sym (st.reads bs (omega arith) (f bs)) ∙ ap (λ z. get_or m⁺.leaves (reach n m⁺.nodes z bs m⁺.root) (f bs)) at ∙ st₁.reads bs long (f bs) in
                ap (λ z. get_or walk'.leaves (reach n walk'.nodes z bs walk'.root) d) (sym at) ∙ st'.reads bs (omega arith) d ∙ ap g agrees;
          }
      maps_new (suc d) zero k₁ h down ends₁ st₁ = absurd (omega arith)
      maps_new (suc d) (suc L₁) k₁ h down ends₁ st₁ =
          let quiet : (b : Bool) → _ = λ b. pass_over eq same n k₁ b m⁺.nodes m⁺.root (λ large. omega (arith, st.above large)) in
          let branch-of : (b : Bool) → Stands eq' same' n L₁ (suc k₁) (λ bs. g (h (b ∷ bs))) walk' =
          λ b.
          maps_new d L₁ (suc k₁) (λ bs. h (b ∷ bs)) (omega arith) (omega arith)
          (subst (λ r. Stands eq same n L₁ (suc k₁) (λ bs. h (b ∷ bs)) (at_root m⁺ r)) (quiet b) (half eq same n L₁ k₁ h m⁺ st₁ b)) in
          unlinked eq' same' n L₁ k₁ (λ bs. g (h bs)) walk' walk' (omega arith) (branch-of true) (branch-of false) (grown_none walk'.leaves, grown_none walk'.nodes) refl

      pub one_new : Follows m⁺ walk'
      one_new = record { lawful = st.lawful; lawful' = st'.lawful; tidy' = walk_tidy eq' same' n L k (λ bs. g (f bs)) m'.leaves m'.nodes fol.tidy'; no_larger = no_larger; maps = maps }
        where
          maps : (L₁ k₁ : ℕ) (h : List Bool → X) (r : ℕ) → k₁ + L₁ ≡ n + n → Stands eq same n L₁ k₁ h (at_root m⁺ r) → (r' : ℕ) × Stands eq' same' n L₁ k₁ (λ bs. g (h bs)) (at_root walk' r')
          maps L₁ k₁ h r ends₁ st₁ =
              ⊎_elim
              (λ old.
              let p = fol.maps L₁ k₁ h r ends₁ (stood_before eq same n L₁ k₁ h m m⁺ ends₁ more r fol.lawful old st₁) in
              (p.0, stands_later eq' same' n L₁ k₁ (λ bs. g (h bs)) (at_root m' p.0) walk' ends₁ (walk_adds eq' same' n L k (λ bs. g (f bs)) m'.leaves m'.nodes) st'.lawful p.1))
              (λ new.
              let here : Stands eq same n L₁ k₁ h m⁺ = subst (λ z. Stands eq same n L₁ k₁ h (at_root m⁺ z)) new st₁ in
              let low : k₁ ≤ k = top k₁ (omega arith) here.above in
              (walk'.root, maps_new (k - k₁) L₁ k₁ h (omega arith) ends₁ here))
              (only r st₁.rooted)
