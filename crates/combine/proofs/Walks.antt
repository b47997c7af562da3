-- Walks over sound lists: the lists stay sound, a function walked again adds nothing, and what is known stays known as the lists grow.
use Rattle.std.proofs.Common.{◌≡◌, ℕ, ◌+◌, ◌≤◌, Bool, List, length, sym, subst, inl, inr, ⊎_elim, arith}
use Rattle.diagram.specs.declared.nodes.Node.{Node}
use Rattle.reduction.specs.Listed.{Same}
use Rattle.reduction.specs.Walk.{Made, walk}
use Rattle.reduction.proofs.Interning.{Grown, grown_length}
use Rattle.reduction.proofs.Walked.{Adds, Stands, walk_stands, kept_rooted, kept_above, kept_reads}
use Rattle.reduction.proofs.Again.{Tidy, walk_tidy, again}
use Rattle.combine.specs.Tables.{made, Over, Sound}

pub over_more : {X : Type 0} (a b : ℕ) (m m' : Made X) → Adds m.leaves m.nodes m' → Over a b m → Over a b m'
over_more a b m m' more o =
    let l = grown_length _ _ more.0 in
    let k = grown_length _ _ more.1 in
    ⊎_elim (λ x. inl (omega arith)) (λ x. inr (omega arith)) o

module _ {X : Type 0} (eq : X → X → Bool) (same : Same eq) (n : ℕ) where
  tidy : (ls : List X) (ns : List Node) → Sound eq n ls ns → Tidy eq same n ls ns
  tidy ls ns s = record { leaves_apart = s.leaves_once; nodes_apart = s.nodes_once; parted = s.parted }

  module _ (L k : ℕ) (f : List Bool → X) (ls : List X) (ns : List Node) (ends : k + L ≡ n + n) (s : Sound eq n ls ns) (few : length (walk eq n L k f ls ns).leaves ≤ 65536) where
    stands : Stands eq same n L k f (walk eq n L k f ls ns)
    stands = walk_stands eq same n L k f ls ns ends s.lawful few

    pub walk_sound : Sound eq n (walk eq n L k f ls ns).leaves (walk eq n L k f ls ns).nodes
    walk_sound =
        let t = walk_tidy eq same n L k f ls ns (tidy ls ns s) in
        record { lawful = stands.lawful; leaves_once = t.leaves_apart; nodes_once = t.nodes_apart; parted = t.parted }

    pub walk_again : walk eq n L k f (walk eq n L k f ls ns).leaves (walk eq n L k f ls ns).nodes ≡ walk eq n L k f ls ns
    walk_again = again eq same n L k f (walk eq n L k f ls ns) ends (walk_tidy eq same n L k f ls ns (tidy ls ns s)) stands

  -- a root to which a function walks in lists, adding nothing, is where it walks in longer ones too
  pub walk_grown : (L k : ℕ) (f : List Bool → X) (r : ℕ) (ls ls' : List X) (ns ns' : List Node) → k + L ≡ n + n → Sound eq n ls ns → Sound eq n ls' ns' → length ls ≤ 65536 →
      Grown ls ls' → Grown ns ns' → walk eq n L k f ls ns ≡ made r ls ns → walk eq n L k f ls' ns' ≡ made r ls' ns'
  walk_grown L k f r ls ls' ns ns' ends s s' few g h e =
      let st : Stands eq same n L k f (made r ls ns) = subst (Stands eq same n L k f) e (stands L k f ls ns ends s (subst (λ m. length m.leaves ≤ 65536) (sym e) few)) in
      again eq same n L k f (made r ls' ns') ends (tidy ls' ns' s')
      (record {
        lawful = s'.lawful;
        rooted = kept_rooted eq same n L k f (made r ls ns) (made r ls' ns') ends st (g, h);
        above = kept_above eq same n L k f (made r ls ns) (made r ls' ns') ends st (g, h);
        reads = kept_reads eq same n L k f (made r ls ns) (made r ls' ns') ends st (g, h);
      })
