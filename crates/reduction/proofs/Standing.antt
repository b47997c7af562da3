-- A root that stands for a function does so in longer lists too, and did in shorter ones that name it; two halves that stand are linked by a walk.
use Rattle.std.proofs.Common.{◌≡◌, ℕ, suc, ◌+◌, ◌-◌, ◌≤◌, Bool, true, false, List, ◌∷◌, length, get_or, sym, ap, ◌∙◌, subst, arith}
use Rattle.diagram.specs.Lawful.{blank, names, Lawful}
use Rattle.diagram.specs.Order.{level}
use Rattle.diagram.specs.Reads.{reach}
use Rattle.reduction.specs.Listed.{Same}
use Rattle.reduction.specs.Walk.{Made, link, walk}
use Rattle.reduction.specs.Canonical.{both}
use Rattle.reduction.proofs.Interning.{grown_getD}
use Rattle.reduction.proofs.Growth.{Above, node_within, reach_ends, reach_grown}
use Rattle.reduction.proofs.Walked.{Adds, Stands, kept_rooted, kept_above, kept_reads}
use Rattle.reduction.proofs.Again.{at_root, Tidy, again}

module _ {X : Type 0} (eq : X → X → Bool) (same : Same eq) (n : ℕ) where
  module _ (L k : ℕ) (f : List Bool → X) (m m⁺ : Made X) (ends : k + L ≡ n + n) (more : Adds m.leaves m.nodes m⁺) where
    pub stands_later : Lawful (both n) (length m⁺.leaves) m⁺.nodes → Stands eq same n L k f m → Stands eq same n L k f (at_root m⁺ m.root)
    stands_later lawful st =
        record { lawful = lawful; rooted = kept_rooted eq same n L k f m m⁺ ends st more; above = kept_above eq same n L k f m m⁺ ends st more; reads = kept_reads eq same n L k f m m⁺ ends st more }

    pub stood_before : (r : ℕ) → Lawful (both n) (length m.leaves) m.nodes → names (length m.leaves) (length m.nodes) r ≡ true → Stands eq same n L k f (at_root m⁺ r) →
        Stands eq same n L k f (at_root m r)
    stood_before r lawful old st = record { lawful = lawful; rooted = old; above = above; reads = reads }
      where
        above : Above n m.nodes k r
        above large = subst (λ x. k ≤ level n x.condition) (grown_getD m.nodes m⁺.nodes (r - 65536) blank more.1 (node_within (length m.leaves) (length m.nodes) r old large)) (st.above large)

        reads : (bs : List Bool) → length bs ≡ L → (d : X) → get_or m.leaves (reach n m.nodes k bs r) d ≡ f bs
        reads bs long d =
            let leaf = reach_ends n (length m.leaves) m.nodes lawful bs k r (omega arith) old above in
            sym (grown_getD m.leaves m⁺.leaves _ d more.0 leaf.0)
            ∙ ap (λ i. get_or m⁺.leaves i d) (sym (reach_grown n (length m.leaves) m.nodes lawful m⁺.nodes more.1 bs k r old)) ∙ st.reads bs long d

  -- a function of which both halves stand in the lists walks to the link of their roots
  pub walk_links : (L k : ℕ) (f : List Bool → X) (one m : Made X) → suc k + L ≡ n + n → Adds one.leaves one.nodes m → Tidy eq same n m.leaves m.nodes →
      Stands eq same n L (suc k) (λ bs. f (true ∷ bs)) one → Stands eq same n L (suc k) (λ bs. f (false ∷ bs)) m → walk eq n (suc L) k f m.leaves m.nodes ≡ link n k one.root m
  unfolding walk
  walk_links L k f one m ends more tidy st₁ st₀ =
      let first = again eq same n L (suc k) (λ bs. f (true ∷ bs)) (at_root m one.root) ends tidy (stands_later L (suc k) (λ bs. f (true ∷ bs)) one m ends more st₀.lawful st₁) in
      let next = again eq same n L (suc k) (λ bs. f (false ∷ bs)) m ends tidy st₀ in
      ap (λ z. link n k z.root (walk eq n L (suc k) (λ bs. f (false ∷ bs)) z.leaves z.nodes)) first ∙ ap (link n k one.root) next
