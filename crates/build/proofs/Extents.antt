-- What a combination leaves in its lists is a table in the lent slices, and is lawful.
use Rattle.std.proofs.Common.{◌≡◌, ℕ, ◌≤◌, Bool, true, List, ◌++◌, length, take, Ok, Err, Result, sym, ap, ◌∙◌, subst, arith}
use Rattle.std.proofs.lemmas.List.{take-append-le}
use Rattle.diagram.specs.declared.nodes.Node.{Node}
use Rattle.diagram.specs.Lawful.{names, Lawful}
use Rattle.listing.specs.declared.listed.Listed.{Listed}
use Rattle.reduction.specs.Canonical.{both, ReadsBack}
use Rattle.listing.specs.Listing.{counted}
use Rattle.reduction.specs.Listed.{Same}
use Rattle.reduction.specs.Walk.{reduced}
use Rattle.reduction.proofs.Once.{read_back}
use Rattle.combine.specs.declared.combine.TooLarge.{TooLarge}
use Rattle.combine.specs.Tables.{made}
use Rattle.combine.specs.Working.{Fits}
use Rattle.tables.specs.declared.lawful.Extent.{Extent}
use Rattle.build.specs.Built.{Stands, Built, LawfulExtent, LawfulIfBuilt}

module _ {X : Type 0} {i j : _} (eq : X → X → Bool) (n : ℕ) (f : List Bool → X) (l : Listed X i) (k : Listed Node j) (r : ℕ) (fits : Fits (reduced eq n f) l k r) (leaves : List X) (nodes : List Node) (leaves-are : leaves ≡ l.items.now)
    (nodes-are : nodes ≡ k.items.now) where
  abbrev extent : Extent
  extent = record { leaves = l.count; nodes = k.count; root = r }

  pub stands : (capacity : ℕ) → length l.items.now ≡ capacity → length k.items.now ≡ capacity → Stands (reduced eq n f) capacity leaves nodes extent
  stands capacity long long' =
      let few = fits.leaves_fit in
      let few' = fits.nodes_fit in
      record {
        is = fits.standing ∙ (λ t. made r (take l.count (sym leaves-are t)) (take k.count (sym nodes-are t)));
        leaves_fit = omega arith;
        nodes_fit = omega arith;
      }

  module _ (same : Same eq) (small : length l.items.now ≤ 65535) where
    back : ReadsBack eq n f (made r (counted l) (counted k))
    back =
        let few = fits.leaves_fit in
        let long = fits.leaves_counted in
        let short : length (counted l) ≤ 65536 = omega arith in
        subst (ReadsBack eq n f) fits.standing (read_back eq same n f (subst (λ m. length m.leaves ≤ 65536) (sym fits.standing) short))

    pub lawful_extent : LawfulExtent n nodes extent
    lawful_extent =
        record {
          lawful = subst (Lawful (both n) l.count) (ap (take k.count) (sym nodes-are)) (subst (λ z. Lawful (both n) z (counted k)) fits.leaves_counted back.lawful);
          rooted = subst (λ z. names l.count z r ≡ true) fits.nodes_counted (subst (λ z. names z (length (counted k)) r ≡ true) fits.leaves_counted back.named);
        }

-- what stands past the counted nodes is no matter
pub lawful_in_longer : {X : Type 0} (eq : X → X → Bool) (n : ℕ) (f : List Bool → X) (capacity : ℕ) (ls : List X) (ns more : List Node) (r : Result Extent TooLarge) → capacity ≤ length ns → Built eq n f capacity ls ns r → LawfulIfBuilt n ns r →
    LawfulIfBuilt n (ns ++ more) r
lawful_in_longer eq n f capacity ls ns more (Ok x) long built is =
    record { lawful = subst (Lawful (both n) x.leaves) (sym (take-append-le x.nodes ns more (omega (arith, built.nodes_fit)))) is.lawful; rooted = is.rooted }
lawful_in_longer eq n f capacity ls ns more (Err e) long built is = is
