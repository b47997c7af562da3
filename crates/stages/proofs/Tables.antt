-- Tables as inputs of a combination: a table over states says what it says of each state, and a reduced table reads its function, at a fixed level too.
use Rattle.std.proofs.Common.{◌≡◌, ℕ, ◌+◌, ◌<◌, ◌≤◌, Bool, List, ◌++◌, length, get_or, take, drop, set, sym, ap, ◌∙◌, subst, arith, length-drop, length-set, take-append-drop}
use Rattle.std.proofs.lemmas.List.{length-take-le}
use Rattle.diagram.specs.Lawful.{Lawful}
use Rattle.diagram.specs.Order.{states}
use Rattle.diagram.specs.Reads.{reach, leaf_of}
use Rattle.diagram.specs.States.{bits_from, number_of}
use Rattle.diagram.proofs.Numbers.{states_are_bits}
use Rattle.reduction.specs.Listed.{Same}
use Rattle.reduction.specs.Walk.{Made, reduced}
use Rattle.reduction.proofs.Once.{read_back}
use Rattle.sources.specs.declared.input.Input.{Input}
use Rattle.sources.specs.Inputs.{value, Named, Unfixed}
use Rattle.sources.specs.Views.{fixed_at}
use Rattle.sources.proofs.Seeing.{seen_before, fixed_levels_are_set}
use Rattle.sources.proofs.StatesRead.{states_are_read}
use Rattle.stages.specs.Parts.{over_states, over_after}

module _ {X : Type 0} (blank : X) (n : ℕ) (i : Input X) (r : ℕ) where
  abbrev says : ℕ → X
  says s = get_or i.table.leaves.now (leaf_of n i.table.nodes.now r s) blank

  module _ (lawful : Lawful (states n) (length i.table.leaves.now) i.table.nodes.now) (named : Named i r) (free : Unfixed i.fixed (n + n)) (bs : List Bool) (long : length bs ≡ n + n) where
    pub reads_states : i.offset ≡ n → value blank i 0 bs r ≡ over_states n says bs
    reads_states at =
        let high : length (drop n bs) ≡ n = length-drop n bs ∙ omega arith in
        let low : length (take n bs) ≡ n = length-take-le n bs (omega arith) in
        let s = number_of (drop n bs) in
        let back : take n bs ++ bits_from 0 n s ≡ bs = ap (λ cs. take n bs ++ cs) ((states_are_bits n).bits_back (drop n bs) high) ∙ take-append-drop n bs in
        ap (λ cs. value blank i 0 cs r) (sym back) ∙ (states_are_read blank n i r s lawful named free).before at (take n bs) low

    pub reads_after : i.offset ≡ 0 → value blank i 0 bs r ≡ over_after n says bs
    reads_after at =
        let high : length (drop n bs) ≡ n = length-drop n bs ∙ omega arith in
        let low : length (take n bs) ≡ n = length-take-le n bs (omega arith) in
        let s = number_of (take n bs) in
        let back : bits_from 0 n s ++ drop n bs ≡ bs = ap (λ cs. cs ++ drop n bs) ((states_are_bits n).bits_back (take n bs) low) ∙ take-append-drop n bs in
        ap (λ cs. value blank i 0 cs r) (sym back) ∙ (states_are_read blank n i r s lawful named free).after at (drop n bs) high

-- a reduced table in the lists of an input
module _ {X : Type 0} (eq : X → X → Bool) (same : Same eq) (blank : X) (n : ℕ) (f : List Bool → X) (i : Input X) (r : ℕ) (is : reduced eq n f ≡ record { root = r; leaves = i.table.leaves.now; nodes = i.table.nodes.now })
    (few : length i.table.leaves.now ≤ 65536) (at : i.offset ≡ n) (free : Unfixed i.fixed (n + n)) where
  pub reads_made : (bs : List Bool) → length bs ≡ n + n → value blank i 0 bs r ≡ f bs
  reads_made bs long =
      let small : length (reduced eq n f).leaves ≤ 65536 = subst (λ m. length m.leaves ≤ 65536) (sym is) few in
      ap (λ cs. get_or i.table.leaves.now (reach i.offset i.table.nodes.now 0 cs r) blank) (seen_before i.fixed 0 bs (subst (Unfixed i.fixed) (omega arith) free))
      ∙ ap (λ o. get_or i.table.leaves.now (reach o i.table.nodes.now 0 bs r) blank) at
      ∙ ap (λ (m : Made X). get_or m.leaves (reach n m.nodes 0 bs m.root) blank) (sym is) ∙ (read_back eq same n f small).reads bs long blank

  pub reads_fixed : (k : ℕ) (x : Bool) (bs : List Bool) → k < length bs → length bs ≡ n + n → value blank (fixed_at i k x) 0 bs r ≡ f (set bs k x)
  reads_fixed k x bs less long = fixed_levels_are_set blank i k x bs r less (subst (Unfixed i.fixed) (sym long) free) ∙ reads_made (set bs k x) (length-set bs k x ∙ long)
