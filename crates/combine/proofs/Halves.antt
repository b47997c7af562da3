-- A visit that goes deeper: what its two halves and their link leave.
use Rattle.std.proofs.Common.{◌≡◌, ℕ, ◌+◌, ◌≤◌, Bool, List, length, take, set, Some, None, Option, sym, ap, ◌∙◌, subst, arith}
use Rattle.diagram.specs.declared.nodes.Node.{Node}
use Rattle.listing.specs.declared.listed.Listed.{Listed}
use Rattle.listing.specs.Listing.{counted, Stays}
use Rattle.listing.specs.Linking.{Links, Unlinked}
use Rattle.reduction.specs.Listed.{Same}
use Rattle.reduction.specs.Walk.{Made, link}
use Rattle.reduction.proofs.Interning.{Grown, grown_none}
use Rattle.listing.proofs.Linked.{links_over, unlinked_over}
use Rattle.reduction.proofs.Walked.{link_adds}
use Rattle.sources.specs.declared.memo.Memo.{Memo}
use Rattle.sources.specs.declared.spot.Branches.{Branches}
use Rattle.sources.specs.declared.spot.Spot.{Spot}
use Rattle.sources.specs.declared.three.Sources.{Sources}
use Rattle.sources.specs.Carried.{Carried}
use Rattle.sources.specs.Memos.{slot, kept}
use Rattle.sources.proofs.Recalls.{slot_below}
use Rattle.sources.proofs.Visits.{Parts}
use Rattle.combine.specs.Tables.{made, walk_from, Sound}
use Rattle.combine.specs.Remembered.{Known, Remembers}
use Rattle.combine.specs.Working.{Working, Lasts, Visited, Standing, TooMany}
use Rattle.combine.proofs.Lasting.{Done, few, over_before}
use Rattle.combine.proofs.Memos.{remembers_grown, remembers_kept}
use Rattle.combine.proofs.Nodes.{one_over, zero_over, link_over, node_made, node_sound, node_known}

module _ {A B C X : Type 0} {i j : _} {eq : X → X → Bool} {S : Sources A B C} {f : ℕ → Spot → List Bool → X} {from level : ℕ} {at : Spot} {ahead : Branches} (same : Same eq) (d : Parts S f from at level ahead) where
  abbrev half : Spot → Listed X i → Listed Node j → Made X
  half s l k = walk_from eq S.conditions (level + 1) (f (level + 1) s) (counted l) (counted k)

  -- what a visit comes to that gives no root
  abbrev None_of : Listed X i → Listed X i → Listed Node j → Listed Node j → Option ℕ → Type 0
  None_of l l' k k' r = Visited eq S.conditions from (f from at) l l' k k' r

  pub one_none : {leaves leaves' : Listed X i} {nodes nodes' : Listed Node j} {memo memo' : Memo} {r : Option ℕ} → Lasts leaves leaves' nodes nodes' memo memo' → r ≡ None → TooMany leaves nodes (half ahead.one leaves nodes) →
      None_of leaves leaves' nodes nodes' r
  one_none {leaves} {leaves'} {nodes} {nodes'} _ none o =
      subst (None_of leaves leaves' nodes nodes') (sym none) (one_over same d (counted leaves) (counted nodes) (length leaves.items.now) (length nodes.items.now) o)

  module _ {leaves leaves₁ : Listed X i} {nodes nodes₁ : Listed Node j} {memo memo₁ : Memo} (p : Lasts leaves leaves₁ nodes nodes₁ memo memo₁) (r₁ : ℕ) (one : Standing (half ahead.one leaves nodes) leaves₁ nodes₁ r₁) where
    module _ {leaves₂ : Listed X i} {nodes₂ : Listed Node j} {memo₂ : Memo} (q : Lasts leaves₁ leaves₂ nodes₁ nodes₂ memo₁ memo₂) where
      pub zero_none : {r : Option ℕ} → r ≡ None → TooMany leaves₁ nodes₁ (half ahead.zero leaves₁ nodes₁) → None_of leaves leaves₂ nodes nodes₂ r
      zero_none none o =
          subst (None_of leaves leaves₂ nodes nodes₂) (sym none)
          (zero_over same d (counted leaves) (counted leaves₁) (counted nodes) (counted nodes₁) r₁ one (length leaves.items.now) (length nodes.items.now) (over_before (half ahead.zero leaves₁ nodes₁) p.leaves_stay p.nodes_stay o))

      module _ (r₀ : ℕ) (nil : Standing (half ahead.zero leaves₁ nodes₁) leaves₂ nodes₂ r₀) (sound : Sound eq S.conditions (counted leaves) (counted nodes)) (w : Working eq S f leaves₂ nodes₂ memo₂) {nodes₃ : Listed Node j} (on : Stays nodes₂ nodes₃) where
        few_nodes : length nodes₃.items.now ≤ 65535
        few_nodes = let short = w.few_nodes in let long = on.items_length in omega arith

        -- the nodes as they were: nothing was linked
        pub unlinked_done : {r : Option ℕ} → r ≡ None → Unlinked S.conditions level r₁ r₀ nodes₂ nodes₃ → Done eq S f from at leaves leaves₂ nodes nodes₃ memo₂ r
        unlinked_done none full =
            let long = unlinked_over (counted leaves₂) S.conditions level r₁ r₀ nodes₂ nodes₃ full in
            let first = p.nodes_stay.items_length in
            let second = q.nodes_stay.items_length in
            let e : counted nodes₃ ≡ counted nodes₂ = ap (λ z. take nodes₃.count z) full.kept ∙ ap (λ z. take z nodes₂.items.now) full.counts in
            record {
              visited =
                  subst (None_of leaves leaves₂ nodes nodes₃) (sym none)
                  (link_over same d (counted leaves) (counted leaves₁) (counted nodes) (counted nodes₁) r₁ one (counted leaves₂) (counted nodes₂) r₀ nil (length leaves.items.now) (length nodes.items.now) (omega arith));
              working =
                  record {
                    few_leaves = w.few_leaves;
                    few_nodes = few_nodes;
                    sound = subst (Sound eq S.conditions (counted leaves₂)) (sym e) w.sound;
                    remembers = subst (Remembers eq S f memo₂.entries.now memo₂.stamp (counted leaves₂)) (sym e) w.remembers;
                  };
            }

        module _ {r : ℕ} (links : Links S.conditions level r₁ r₀ nodes₂ nodes₃ r) where
          linked : link S.conditions level r₁ (made r₀ (counted leaves₂) (counted nodes₂)) ≡ made r (counted leaves₂) (counted nodes₃)
          linked = links_over (counted leaves₂) S.conditions level r₁ r₀ nodes₂ nodes₃ r links

          small : length (counted leaves₂) ≤ 65536
          small = few leaves₂ w.few_leaves

          sound₃ : Sound eq S.conditions (counted leaves₂) (counted nodes₃)
          sound₃ = node_sound same d (counted leaves) (counted leaves₁) (counted nodes) (counted nodes₁) r₁ one (counted leaves₂) (counted nodes₂) r₀ nil sound small r (counted nodes₃) linked

          known : Known eq S f (counted leaves₂) (counted nodes₃) at r
          known = node_known same d (counted leaves) (counted leaves₁) (counted nodes) (counted nodes₁) r₁ one (counted leaves₂) (counted nodes₂) r₀ nil sound small r (counted nodes₃) linked

          grown : Grown (counted nodes₂) (counted nodes₃)
          grown =
              subst (λ m. Grown (counted nodes₂) m.nodes) linked
              (link_adds S.conditions level r₁ (counted leaves₂) (counted nodes₂) (made r₀ (counted leaves₂) (counted nodes₂)) (grown_none (counted leaves₂), grown_none (counted nodes₂))).1

          remembers : Remembers eq S f memo₂.entries.now memo₂.stamp (counted leaves₂) (counted nodes₃)
          remembers =
              remembers_grown eq S f same (counted leaves₂) (counted leaves₂) (counted nodes₂) (counted nodes₃) w.sound sound₃ small (grown_none (counted leaves₂)) grown memo₂.entries.now memo₂.stamp w.remembers

          pub linked_done : {memo₃ : Memo} → Carried memo₂ memo₃ → memo₃.entries.now ≡ set memo₂.entries.now (slot at (length memo₂.entries.now)) (kept memo₂.stamp at r) →
              Done eq S f from at leaves leaves₂ nodes nodes₃ memo₃ (Some r)
          linked_done {memo₃} carried written =
              let es = memo₂.entries.now in
              let after = remembers_kept eq S f es memo₂.stamp (counted leaves₂) (counted nodes₃) at r (slot at (length es)) remembers known (slot_below at (length es) memo₂.some) in
              record {
                visited = node_made same d (counted leaves) (counted leaves₁) (counted nodes) (counted nodes₁) r₁ one (counted leaves₂) (counted nodes₂) r₀ nil sound small r (counted nodes₃) linked;
                working =
                    record {
                      few_leaves = w.few_leaves;
                      few_nodes = few_nodes;
                      sound = sound₃;
                      remembers =
                          subst (λ z. Remembers eq S f z memo₃.stamp (counted leaves₂) (counted nodes₃)) (sym written)
                          (subst (λ z. Remembers eq S f (set es (slot at (length es)) (kept memo₂.stamp at r)) z (counted leaves₂) (counted nodes₃)) (sym carried.stamp) after);
                    };
              }
