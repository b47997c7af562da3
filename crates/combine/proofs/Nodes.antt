-- The table that a visit comes to: at three leaves, at what the memo knows, and at a level that is tested, by its two halves and their link.
use Rattle.std.proofs.Common.{◌≡◌, ℕ, suc, ◌+◌, ◌-◌, ◌<◌, ◌≤◌, Bool, true, false, List, [], length, sym, refl, ap, ◌∙◌, subst, inl, inr, arith}
use Rattle.diagram.specs.declared.nodes.Node.{Node}
use Rattle.reduction.specs.Listed.{Same, index, listed}
use Rattle.reduction.specs.Walk.{Made, link, walk}
use Rattle.reduction.proofs.Walked.{link_adds, walk_adds}
use Rattle.reduction.proofs.Interning.{grown_none}
use Rattle.sources.specs.declared.spot.Branches.{Branches}
use Rattle.sources.specs.declared.spot.Spot.{Spot}
use Rattle.sources.specs.declared.three.Sources.{Sources}
use Rattle.sources.specs.Spots.{levels, top, down}
use Rattle.sources.proofs.Visits.{Visit, Parts, inside}
use Rattle.combine.specs.Tables.{made, walk_from, Over, Sound}
use Rattle.combine.specs.Remembered.{Known}
use Rattle.combine.proofs.Walks.{over_more, walk_sound, walk_again}
use Rattle.combine.proofs.Skips.{walk_node, over_levels, skip_levels}

module _ {A B C X : Type 0} {eq : X → X → Bool} {S : Sources A B C} {f : ℕ → Spot → List Bool → X} {from : ℕ} {at : Spot} (same : Same eq) (v : Visit S f from at) (ls : List X) (ns : List Node) where
  abbrev n : ℕ
  n = S.conditions

  abbrev whole : Made X
  whole = walk_from eq n from (f from at) ls ns

  module _ (t : ℕ) (is : t ≡ top S at) where
    abbrev at_top : Made X
    at_top = walk_from eq n t (f t at) ls ns

    over_whole : (p q : ℕ) → Over p q at_top → Over p q whole
    over_whole p q o =
        let above = v.above in
        let le = inside v in
        over_levels same v.descends at ls ns p q (t - from) from (n + n - from) t (n + n - t) (omega arith) (omega arith) (omega arith) o

    to_top : Sound eq n ls ns → length at_top.leaves ≤ 65536 → whole ≡ at_top
    to_top s few =
        let above = v.above in
        let le = inside v in
        skip_levels same v.descends at ls ns s (t - from) from (n + n - from) t (n + n - t) (omega arith) (omega arith) (omega arith) (omega arith) few

  -- at three leaves
  module _ (end : levels S ≡ top S at) where
    abbrev leaf : X
    leaf = f (levels S) at []

    at_end : at_top (levels S) end ≡ made (index eq ls leaf) (listed eq ls leaf) ns
    unfolding walk
    at_end = let e : n + n - (n + n) ≡ 0 = omega arith in ap (λ L. walk eq n L (n + n) (f (n + n) at) ls ns) e

    pub leaf_over : (p q : ℕ) → p < length (listed eq ls leaf) → Over p q whole
    leaf_over p q more = over_whole (levels S) end p q (subst (Over p q) (sym at_end) (inl more))

    pub leaf_made : Sound eq n ls ns → (r : ℕ) (ls' : List X) → r ≡ index eq ls leaf → ls' ≡ listed eq ls leaf → length ls' ≤ 65536 → whole ≡ made r ls' ns
    leaf_made s r ls' place list few =
        let e : at_top (levels S) end ≡ made r ls' ns = at_end ∙ (λ i. made (sym place i) (sym list i) ns) in
        to_top (levels S) end s (subst (λ m. length m.leaves ≤ 65536) (sym e) few) ∙ e

  -- what the memo knows
  pub known_made : Sound eq n ls ns → length ls ≤ 65536 → (r : ℕ) → Known eq S f ls ns at r → whole ≡ made r ls ns
  known_made s few r k = to_top (top S at) refl s (subst (λ m. length m.leaves ≤ 65536) (sym k.again) few) ∙ k.again

module _ {A B C X : Type 0} {eq : X → X → Bool} {S : Sources A B C} {f : ℕ → Spot → List Bool → X} {from level : ℕ} {at : Spot} {ahead : Branches} (same : Same eq) (d : Parts S f from at level ahead) where
  abbrev all : List X → List Node → Made X
  all ls ns = walk_from eq S.conditions from (f from at) ls ns

  abbrev here : List X → List Node → Made X
  here ls ns = walk_from eq S.conditions level (f level at) ls ns

  abbrev O : List X → List Node → Made X
  O ls ns = walk_from eq S.conditions (level + 1) (f (level + 1) ahead.one) ls ns

  abbrev Z : List X → List Node → Made X
  Z ls ns = walk_from eq S.conditions (level + 1) (f (level + 1) ahead.zero) ls ns

  halved : (ls : List X) (ns : List Node) → here ls ns ≡ link S.conditions level (O ls ns).root (Z (O ls ns).leaves (O ls ns).nodes)
  halved ls ns =
      let less = d.less in
      let e : levels S - level ≡ suc (levels S - suc level) = omega arith in
      let moved : (s s' : Spot) (ms : List X) (ks : List Node) → s ≡ s' → walk_from eq S.conditions (suc level) (f (suc level) s') ms ks ≡ walk_from eq S.conditions (level + 1) (f (level + 1) s) ms ks =
      λ s s' ms ks is. ap (λ z. walk_from eq S.conditions (suc level) (f (suc level) z) ms ks) (sym is) ∙ ap (λ k. walk_from eq S.conditions k (f k s) ms ks) {x = suc level} {y = level + 1} (omega arith) in
      ap (λ L. walk eq S.conditions L level (f level at) ls ns) e ∙ walk_node same d.visit.descends (levels S - suc level) level at ls ns
      ∙ ap (λ m. link S.conditions level m.root (walk_from eq S.conditions (suc level) (f (suc level) (down S level false at)) m.leaves m.nodes)) (moved ahead.one (down S level true at) ls ns d.one)
      ∙ ap (link S.conditions level (O ls ns).root) (moved ahead.zero (down S level false at) (O ls ns).leaves (O ls ns).nodes d.zero)

  grows_zero : (ls : List X) (ns : List Node) (p q : ℕ) → Over p q (Z (O ls ns).leaves (O ls ns).nodes) → Over p q (all ls ns)
  grows_zero ls ns p q o =
      let m = O ls ns in
      let z = Z m.leaves m.nodes in
      over_whole same d.visit ls ns level d.is p q
      (subst (Over p q) (sym (halved ls ns)) (over_more p q z (link S.conditions level m.root z) (link_adds S.conditions level m.root z.leaves z.nodes z (grown_none z.leaves, grown_none z.nodes)) o))

  pub one_over : (ls : List X) (ns : List Node) (p q : ℕ) → Over p q (O ls ns) → Over p q (all ls ns)
  one_over ls ns p q o =
      let m = O ls ns in
      grows_zero ls ns p q (over_more p q m (Z m.leaves m.nodes) (walk_adds eq same S.conditions (levels S - (level + 1)) (level + 1) (f (level + 1) ahead.zero) m.leaves m.nodes) o)

  module _ (ls ls₁ : List X) (ns ns₁ : List Node) (r₁ : ℕ) (one : O ls ns ≡ made r₁ ls₁ ns₁) where
    pub zero_over : (p q : ℕ) → Over p q (Z ls₁ ns₁) → Over p q (all ls ns)
    zero_over p q o = grows_zero ls ns p q (subst (λ m. Over p q (Z m.leaves m.nodes)) (sym one) o)

    module _ (ls₂ : List X) (ns₂ : List Node) (r₀ : ℕ) (nil : Z ls₁ ns₁ ≡ made r₀ ls₂ ns₂) where
      joined : here ls ns ≡ link S.conditions level r₁ (made r₀ ls₂ ns₂)
      joined = halved ls ns ∙ ap (λ m. link S.conditions level m.root (Z m.leaves m.nodes)) one ∙ ap (link S.conditions level r₁) nil

      pub link_over : (p q : ℕ) → q < length (link S.conditions level r₁ (made r₀ ls₂ ns₂)).nodes → Over p q (all ls ns)
      link_over p q more = over_whole same d.visit ls ns level d.is p q (subst (Over p q) (sym joined) (inr more))

      module _ (s : Sound eq S.conditions ls ns) (few : length ls₂ ≤ 65536) (r : ℕ) (ns₃ : List Node) (linked : link S.conditions level r₁ (made r₀ ls₂ ns₂) ≡ made r ls₂ ns₃) where
        found : here ls ns ≡ made r ls₂ ns₃
        found = joined ∙ linked

        small : length (here ls ns).leaves ≤ 65536
        small = subst (λ m. length m.leaves ≤ 65536) (sym found) few

        pub node_made : all ls ns ≡ made r ls₂ ns₃
        node_made = to_top same d.visit ls ns level d.is s small ∙ found

        ends : level + (levels S - level) ≡ levels S
        ends = let less = d.less in omega arith

        pub node_sound : Sound eq S.conditions ls₂ ns₃
        node_sound = subst (λ m. Sound eq S.conditions m.leaves m.nodes) found (walk_sound eq same S.conditions (levels S - level) level (f level at) ls ns ends s small)

        pub node_known : Known eq S f ls₂ ns₃ at r
        node_known =
            let again : walk_from eq S.conditions level (f level at) ls₂ ns₃ ≡ made r ls₂ ns₃ =
            subst (λ m. walk_from eq S.conditions level (f level at) m.leaves m.nodes ≡ m) found (walk_again eq same S.conditions (levels S - level) level (f level at) ls ns ends s small) in
            record {
              inside = inside d.visit;
              again = subst (λ k. walk_from eq S.conditions k (f k at) ls₂ ns₃ ≡ made r ls₂ ns₃) d.is again;
            }
