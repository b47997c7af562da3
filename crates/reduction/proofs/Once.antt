-- The reduced table depends on the values of the function alone, and reads them back.
use Rattle.std.proofs.Common.{◌≡◌, ℕ, zero, suc, ◌+◌, ◌≤◌, Bool, true, false, List, [], ◌∷◌, length, get_or, sym, refl, ap, ◌∙◌, subst, arith}
use Rattle.diagram.specs.declared.nodes.Node.{Node}
use Rattle.reduction.specs.Listed.{Same, index, listed}
use Rattle.reduction.specs.Walk.{Made, link, walk}
use Rattle.reduction.specs.Canonical.{Agree, says, TablesReadBack, TablesAreCanonical}
use Rattle.reduction.proofs.Walked.{walk_stands}
use Rattle.reduction.proofs.Again.{nothing, walk_tidy, same_again}

module _ {X : Type 0} (eq : X → X → Bool) where
  pub walk_agree : (n L k : ℕ) (f g : List Bool → X) (ls : List X) (ns : List Node) → Agree L f g → walk eq n L k f ls ns ≡ walk eq n L k g ls ns
  unfolding walk
  walk_agree n zero k f g ls ns h = ap (λ x. record { root = index eq ls x; leaves = listed eq ls x; nodes = ns }) (h [] refl)
  walk_agree n (suc L) k f g ls ns h =
      let one = walk_agree n L (suc k) (λ bs. f (true ∷ bs)) (λ bs. g (true ∷ bs)) ls ns (λ bs long. h (true ∷ bs) (omega arith)) in
      let nil : (m : Made X) → walk eq n L (suc k) (λ bs. f (false ∷ bs)) m.leaves m.nodes ≡ walk eq n L (suc k) (λ bs. g (false ∷ bs)) m.leaves m.nodes =
      λ m. walk_agree n L (suc k) (λ bs. f (false ∷ bs)) (λ bs. g (false ∷ bs)) m.leaves m.nodes (λ bs long. h (false ∷ bs) (omega arith)) in
      ap (λ m. link n k m.root (walk eq n L (suc k) (λ bs. f (false ∷ bs)) m.leaves m.nodes)) one ∙ ap (link n k (walk eq n L (suc k) (λ bs. g (true ∷ bs)) ls ns).root) (nil (walk eq n L (suc k) (λ bs. g (true ∷ bs)) ls ns))

  module _ (same : Same eq) where
    pub read_back : TablesReadBack eq
    read_back n f few =
        let st = walk_stands eq same n (n + n) 0 f [] [] (omega arith) (λ j less. absurd (omega arith)) few in
        let tidy = walk_tidy eq same n (n + n) 0 f [] [] (nothing eq same n) in
        record {
          lawful = st.lawful;
          named = st.rooted;
          reads = st.reads;
          leaves_once = tidy.leaves_apart;
          nodes_once = tidy.nodes_apart;
          parted = tidy.parted;
          again = same_again eq same n f few;
        }

    pub canonical : TablesAreCanonical eq
    canonical n f g =
        record {
          same = walk_agree n (n + n) 0 f g [] [];
          agree = λ few e bs long.
              let rf = (read_back n f few).reads bs long (f bs) in
              let rg = subst (λ m. length m.leaves ≤ 65536) e few in
              sym rf ∙ ap (λ m. get_or m.leaves (says n m bs) (f bs)) e ∙ (read_back n g rg).reads bs long (f bs);
        }
