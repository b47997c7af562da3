-- Linking in a lent list of nodes comes to linking in a table, whatever leaves the table has.
use Rattle.std.proofs.Common.{◌≡◌, ℕ, suc, ◌+◌, ◌^◌, ◌<◌, true, false, cond, eqb, List, length, sym, refl, ap, ◌∙◌}
use Rattle.std.proofs.lemmas.Bool.{cond-false, ne_eqb}
use Rattle.diagram.specs.declared.nodes.Node.{Node}
use Rattle.listing.specs.declared.listed.Listed.{Listed}
use Rattle.listing.specs.Listing.{counted, Interns}
use Rattle.reduction.specs.Listed.{index, listed}
use Rattle.reduction.specs.Walk.{same_node, Made, node_for, link}
use Rattle.listing.specs.Linking.{bare, linked, Links, Unlinked}

abbrev pub with_leaves : {X : Type 0} → List X → Made ℕ → Made X
with_leaves ls m = record { root = m.root; leaves = ls; nodes = m.nodes }

module _ {X : Type 0} (ls : List X) (n k r₁ r₀ : ℕ) where
  pub link_over : (ns : List Node) → link n k r₁ (record { root = r₀; leaves = ls; nodes = ns }) ≡ with_leaves ls (link n k r₁ (bare r₀ ns))
  link_over ns =
      elim (eqb r₁ r₀) as
      (λ v. cond {A = Made X} v (record { root = r₀; leaves = ls; nodes = ns }) (record { root = 65536 + index same_node ns (node_for n k r₁ r₀); leaves = ls; nodes = listed same_node ns (node_for n k r₁ r₀) })
      ≡ with_leaves ls (cond v (bare r₀ ns) (bare (65536 + index same_node ns (node_for n k r₁ r₀)) (listed same_node ns (node_for n k r₁ r₀)))))
      [ true ↦ refl | false ↦ refl ]

  pub links_over : {i : _} (l l' : Listed Node i) (r : ℕ) → Links n k r₁ r₀ l l' r → link n k r₁ (record { root = r₀; leaves = ls; nodes = counted l }) ≡ record { root = r; leaves = ls; nodes = counted l' }
  links_over l l' r is = link_over (counted l) ∙ ap (with_leaves ls) is.made

  pub unlinked_over : {i : _} (l l' : Listed Node i) → Unlinked n k r₁ r₀ l l' → length (link n k r₁ (record { root = r₀; leaves = ls; nodes = counted l })).nodes ≡ suc (length l.items.now)
  unlinked_over l l' is = ap (λ m. length m.nodes) (link_over (counted l)) ∙ is.full

-- a node that was listed is the link of its branches
pub node_links : {i : _} {l l' : Listed Node i} {x : Node} {j : ℕ} (n k r₁ r₀ : ℕ) → x ≡ node_for n k r₁ r₀ → (r₁ ≡ r₀ → ⊥) → 65536 + j < 2 ^ 32 → Interns same_node l l' x j → Links n k r₁ r₀ l l' (65536 + j)
node_links {l = l} {l' = l'} {j = j} n k r₁ r₀ is apart small put =
    let y = node_for n k r₁ r₀ in
    let place : index same_node (counted l) y ≡ j = ap (index same_node (counted l)) (sym is) ∙ sym put.place in
    let list : listed same_node (counted l) y ≡ counted l' = ap (listed same_node (counted l)) (sym is) ∙ sym put.listing in
    let off : linked n k r₁ r₀ l ≡ bare (65536 + index same_node (counted l) y) (listed same_node (counted l) y) = cond-false _ _ _ (ne_eqb r₁ r₀ apart) in
    record {
      made = off ∙ (λ t. bare (65536 + place t) (list t));
      counts = put.counts ∙ ap (λ z. length (listed same_node (counted l) z)) is ∙ ap (λ m. length m.nodes) (sym off);
      small = small;
    }
