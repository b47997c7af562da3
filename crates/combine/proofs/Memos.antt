-- A memo says right things: from the start, after a result is kept, and as the lists grow.
use Rattle.std.proofs.Common.{◌≡◌, ℕ, ◌-◌, ◌<◌, ◌≤◌, Bool, List, length, set, Some, sym, ap, ◌∙◌, subst, ⊎_elim, arith, length-set, get_or-set_other, get_or-set_same}
use Rattle.std.proofs.lemmas.Bool.{cases_eq}
use Rattle.diagram.specs.declared.nodes.Node.{Node}
use Rattle.reduction.specs.Listed.{Same}
use Rattle.reduction.proofs.Interning.{Grown}
use Rattle.sources.specs.declared.entry.Entry.{Entry}
use Rattle.sources.specs.declared.spot.Spot.{Spot}
use Rattle.sources.specs.declared.three.Sources.{Sources}
use Rattle.sources.specs.Memos.{none, slot, kept, entry_at, recalled, Unused}
use Rattle.sources.specs.Spots.{levels, top}
use Rattle.sources.proofs.Recalls.{remembered_means, recall_means}
use Rattle.combine.specs.Tables.{Sound}
use Rattle.combine.specs.Remembered.{Known, Remembers}
use Rattle.combine.proofs.Walks.{walk_grown}

module _ {A B C X : Type 0} (eq : X → X → Bool) (S : Sources A B C) (f : ℕ → Spot → List Bool → X) where
  pub remembers_nothing : (es : List Entry) (stamp : ℕ) (ls : List X) (ns : List Node) → Unused es stamp → Remembers eq S f es stamp ls ns
  remembers_nothing es stamp ls ns unused j l e = absurd (unused j l e)

  pub recalls_known : (es : List Entry) (stamp : ℕ) (ls : List X) (ns : List Node) (at : Spot) (r : ℕ) → Remembers eq S f es stamp ls ns → 0 < length es → Some r ≡ recalled es stamp at → Known eq S f ls ns at r
  recalls_known es stamp ls ns at r m some e =
      let c = recall_means es stamp at r e in
      let d = remembered_means es stamp at some c.0 in
      subst (Known eq S f ls ns at) c.1
      (subst (λ z. Known eq S f ls ns z (entry_at es (slot at (length es))).result) d.placed (m (slot at (length es)) d.within d.stamped))

  pub remembers_kept : (es : List Entry) (stamp : ℕ) (ls : List X) (ns : List Node) (at : Spot) (r i : ℕ) → Remembers eq S f es stamp ls ns → Known eq S f ls ns at r → i < length es →
      Remembers eq S f (set es i (kept stamp at r)) stamp ls ns
  remembers_kept es stamp ls ns at r i m known within j l st =
      ⊎_elim
      (λ same_place.
      let here : entry_at (set es i (kept stamp at r)) j ≡ kept stamp at r = ap (entry_at (set es i (kept stamp at r))) same_place ∙ get_or-set_same es i (kept stamp at r) none within in
      subst (λ e. Known eq S f ls ns e.spot e.result) (sym here) known)
      (λ other.
      let there : entry_at (set es i (kept stamp at r)) j ≡ entry_at es j = get_or-set_other es i j (kept stamp at r) none other in
      subst (λ e. Known eq S f ls ns e.spot e.result) (sym there) (m j (omega (arith, length-set es i (kept stamp at r))) (ap (λ e. e.stamp) (sym there) ∙ st)))
      (cases_eq j i)

  module _ (same : Same eq) (ls ls' : List X) (ns ns' : List Node) (s : Sound eq S.conditions ls ns) (s' : Sound eq S.conditions ls' ns') (few : length ls ≤ 65536) (g : Grown ls ls') (h : Grown ns ns') where
    known_grown : (at : Spot) (r : ℕ) → Known eq S f ls ns at r → Known eq S f ls' ns' at r
    known_grown at r k =
        let i = k.inside in
        record {
          inside = i;
          again = walk_grown eq same S.conditions (levels S - top S at) (top S at) (f (top S at) at) r ls ls' ns ns' (omega arith) s s' few g h k.again;
        }

    pub remembers_grown : (es : List Entry) (stamp : ℕ) → Remembers eq S f es stamp ls ns → Remembers eq S f es stamp ls' ns'
    remembers_grown es stamp m j l e = known_grown (entry_at es j).spot (entry_at es j).result (m j l e)
