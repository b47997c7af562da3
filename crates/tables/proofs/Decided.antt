-- The test of a table tells whether the table is lawful.
use Rattle.std.proofs.Common.{◌≡◌, ℕ, Bool, true, List, take, Decides, sym, subst}
use Rattle.std.proofs.lemmas.List.{length-take-le}
use Rattle.std.proofs.lemmas.Bool.{leb-true, le-leb}
use Rattle.std.proofs.lemmas.Bool.Decides.{Decides-and, Decides-like}
use Rattle.diagram.specs.declared.conditions.Domain.{Domain}
use Rattle.diagram.specs.declared.nodes.Node.{Node}
use Rattle.diagram.specs.First.{HoldsBelow}
use Rattle.diagram.specs.Lawful.{names, node_is_lawful}
use Rattle.tables.specs.declared.lawful.Extent.{Extent}
use Rattle.tables.specs.Within.{leaf_is_within}
use Rattle.tables.specs.Tables.{lawful_table, LawfulTable}
use Rattle.tables.proofs.Below.{decides_below}

-- a test tells that it holds
decides_self : (t : Bool) → Decides t (t ≡ true)
decides_self t = (λ e. e, λ e. e)

pub decides_table : {X : Type 0} (within : X → Bool) (blank : X) (d : Domain) (leaves : List X) (nodes : List Node) (x : Extent) →
    Decides (lawful_table within blank d leaves nodes x) (LawfulTable within blank d leaves nodes x)
decides_table within blank d leaves nodes x =
    let counted = take x.nodes nodes in
    let Holds : ℕ → Type 0 = HoldsBelow (node_is_lawful d x.leaves counted) in
    Decides-like _
    (λ h.
    record {
      leaves_fit = h.0;
      nodes_fit = h.1.0;
      rooted = h.1.1.0;
      limited = h.1.1.1.0;
      lawful = subst Holds (sym (length-take-le x.nodes nodes h.1.0)) h.1.1.1.1;
    })
    (λ t.
    (t.leaves_fit, (t.nodes_fit, (t.rooted, (t.limited, subst Holds (length-take-le x.nodes nodes t.nodes_fit) t.lawful)))))
    (Decides-and _ _ (leb-true _ _, le-leb _ _)
    (Decides-and _ _ (leb-true _ _, le-leb _ _)
    (Decides-and _ _ (decides_self (names x.leaves x.nodes x.root))
    (Decides-and _ _ (decides_below (leaf_is_within within blank leaves) x.leaves) (decides_below (node_is_lawful d x.leaves counted) x.nodes)))))
