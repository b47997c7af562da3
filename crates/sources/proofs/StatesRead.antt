-- A lawful table over states gives each state its leaf, read over the conditions before a move or over those after it.
use Rattle.std.proofs.Common.{◌≡◌, ℕ, suc, ◌+◌, ◌-◌, ◌<◌, ◌≤◌, Bool, true, cond, ◌&&◌, leb, List, [], ◌∷◌, ◌++◌, length, get_or, sym, refl, ap, ◌∙◌, subst, ⊎_elim, add-zero, add-suc, arith, length-append}
use Rattle.std.proofs.lemmas.Bool.{cond-false, cases_lt, cases_eq, and_parts, and_left, lt-leb, eq-eqb, ne_eqb, false≢true}
use Rattle.diagram.specs.declared.conditions.Condition.{Condition}
use Rattle.diagram.specs.declared.conditions.Condition.TheVariants.{Before, After}
use Rattle.diagram.specs.declared.nodes.Node.{Node}
use Rattle.diagram.specs.Lawful.{named, names, Lawful}
use Rattle.diagram.specs.Order.{level, exists, states}
use Rattle.diagram.specs.Reads.{branch, tests, descend, reach, leaf_of}
use Rattle.diagram.specs.States.{bits_from}
use Rattle.diagram.proofs.Bits.{length_bits}
use Rattle.diagram.proofs.Steps.{reach_skip, leaf_quiet, node_quiet}
use Rattle.reduction.proofs.Growth.{node_within, descend_named, reach_ends}
use Rattle.reduction.proofs.Levels.{states_both}
use Rattle.sources.specs.Inputs.{Unfixed}
use Rattle.sources.specs.Views.{StatesAreRead}
use Rattle.sources.proofs.Seeing.{seen_before}

-- a condition of a table over states stands n levels later before a move than its number
shifted : (n : ℕ) (c : Condition) → exists (states n) c ≡ true → level n c ≡ n + level 0 c
shifted n (Before b) h = omega arith
shifted n (After a) h = absurd (false≢true h)

reach_join : (o : ℕ) (ns : List Node) (k : ℕ) (bs cs : List Bool) (r : ℕ) → reach o ns k (bs ++ cs) r ≡ reach o ns (k + length bs) cs (reach o ns k bs r)
unfolding reach
reach_join o ns k [] cs r = rw add-zero
reach_join o ns k (b ∷ bs) cs r = reach_join o ns (suc k) bs cs (descend o ns k b r) ∙ ap (λ z. reach o ns z cs (reach o ns (suc k) bs (descend o ns k b r))) (omega arith)

reach_stays : (o : ℕ) (ns : List Node) (k : ℕ) (bs : List Bool) (r : ℕ) → r < 65536 → reach o ns k bs r ≡ r
unfolding reach
reach_stays o ns k [] r small = refl
reach_stays o ns k (b ∷ bs) r small = ap (reach o ns (suc k) bs) (cond-false _ _ _ (and_left _ _ (lt-leb _ _ small))) ∙ reach_stays o ns (suc k) bs r small

module _ (n leaves : ℕ) (ns : List Node) (lawful : Lawful (states n) leaves ns) where
  at_state : (r : ℕ) → names leaves (length ns) r ≡ true → 65536 ≤ r → exists (states n) (named ns r).condition ≡ true
  at_state r h large = (and_parts _ _ (lawful (r - 65536) (node_within leaves (length ns) r h large))).0

  above : (r : ℕ) → names leaves (length ns) r ≡ true → 65536 ≤ r → n ≤ level n (named ns r).condition
  above r h large = omega (arith, shifted n (named ns r).condition (at_state r h large))

  same_test : (k : ℕ) (r : ℕ) → names leaves (length ns) r ≡ true → tests 0 ns k r ≡ tests n ns (n + k) r
  same_test k r h =
      ⊎_elim (λ small. and_left _ _ (lt-leb _ _ small) ∙ sym (and_left _ _ (lt-leb _ _ small)))
      (λ large.
      let e = shifted n (named ns r).condition (at_state r h large) in
      ap (λ v. leb 65536 r && v)
      (⊎_elim (λ at. eq-eqb _ _ at ∙ sym (eq-eqb (level n (named ns r).condition) (n + k) (omega arith)))
      (λ off. ne_eqb _ _ off ∙ sym (ne_eqb (level n (named ns r).condition) (n + k) (λ hit. off (omega arith)))) (cases_eq (level 0 (named ns r).condition) k)))
      (cases_lt r 65536)

  same_reach : (k : ℕ) (bs : List Bool) (r : ℕ) → names leaves (length ns) r ≡ true → reach 0 ns k bs r ≡ reach n ns (n + k) bs r
  unfolding reach
  same_reach k [] r h = refl
  same_reach k (b ∷ bs) r h =
      let e : descend 0 ns k b r ≡ descend n ns (n + k) b r = ap (λ v. cond v (branch b (named ns r)) r) (same_test k r h) in
      let h' = descend_named n leaves ns (states_both n leaves ns lawful) (n + k) b r h in
      ap (reach 0 ns (suc k) bs) e ∙ same_reach (suc k) bs (descend n ns (n + k) b r) h' ∙ ap (λ z. reach n ns z bs (descend n ns (n + k) b r)) (add-suc n k)

  over_before : (bs : List Bool) (s r : ℕ) → length bs ≡ n → names leaves (length ns) r ≡ true → reach n ns 0 (bs ++ bits_from 0 n s) r ≡ leaf_of n ns r s
  over_before bs s r long h =
      reach_skip n ns bs (bits_from 0 n s) 0 r
      (λ j l less. ⊎_elim (λ small. leaf_quiet n ns 0 (0 + length bs) r small j l less) (λ large. node_quiet n ns 0 (0 + length bs) r (omega (arith, above r h large)) j l less) (cases_lt r 65536))
      ∙ ap (λ z. reach n ns z (bits_from 0 n s) r) (omega arith)

  over_after : (bs : List Bool) (s r : ℕ) → names leaves (length ns) r ≡ true → reach 0 ns 0 (bits_from 0 n s ++ bs) r ≡ leaf_of n ns r s
  over_after bs s r h =
      let long = length_bits 0 n s in
      let e : reach 0 ns 0 (bits_from 0 n s) r ≡ leaf_of n ns r s = same_reach 0 (bits_from 0 n s) r h ∙ ap (λ z. reach n ns z (bits_from 0 n s) r) (add-zero n) in
      let small = (reach_ends n leaves ns (states_both n leaves ns lawful) (bits_from 0 n s) n r (omega arith) h (above r h)).1 in
      reach_join 0 ns 0 (bits_from 0 n s) bs r ∙ ap (reach 0 ns (0 + length (bits_from 0 n s)) bs) e ∙ reach_stays 0 ns (0 + length (bits_from 0 n s)) bs (leaf_of n ns r s) small

pub states_are_read : {X : Type 0} (blank : X) → StatesAreRead blank
states_are_read blank n i r s lawful h free =
    let ns = i.table.nodes.now in
    let leaf : ℕ → _ = λ z. get_or i.table.leaves.now z blank in
    record {
      before =
          λ at bs long.
          let all = length-append bs (bits_from 0 n s) in
          let bits = length_bits 0 n s in
          ap leaf (ap (λ ds. reach i.offset ns 0 ds r) (seen_before i.fixed 0 (bs ++ bits_from 0 n s) (subst (Unfixed i.fixed) (omega arith) free)) ∙ ap (λ o. reach o ns 0 (bs ++ bits_from 0 n s) r) at ∙ over_before n (length i.table.leaves.now) ns lawful bs s r long h);
      after =
          λ at bs long.
          let all = length-append (bits_from 0 n s) bs in
          let bits = length_bits 0 n s in
          ap leaf (ap (λ ds. reach i.offset ns 0 ds r) (seen_before i.fixed 0 (bits_from 0 n s ++ bs) (subst (Unfixed i.fixed) (omega arith) free)) ∙ ap (λ o. reach o ns 0 (bits_from 0 n s ++ bs) r) at ∙ over_after n (length i.table.leaves.now) ns lawful bs s r h);
    }
