-- When a table is lawful: the counted leaves and nodes of two lists, and a root.
--     all_below p n                           p holds at each number below n
--     lawful_table                            the test of a table over a domain: the counts fit the lists, the root names something, each counted leaf is within its limits and each counted node is lawful
--     LawfulTable                             the same in plain facts
use Rattle.std.specs.Prelude.{◌≡◌, ℕ, zero, suc, ◌≤◌, Bool, true, ◌&&◌, List, length, take, nat_le}
use Rattle.diagram.specs.declared.conditions.Domain.{Domain}
use Rattle.diagram.specs.declared.nodes.Node.{Node}
use Rattle.diagram.specs.First.{HoldsBelow}
use Rattle.diagram.specs.Lawful.{names, node_is_lawful, Lawful}
use Rattle.tables.specs.declared.lawful.Extent.{Extent}
use Rattle.tables.specs.Within.{leaf_is_within}

abbrev pub all_below : (ℕ → Bool) → ℕ → Bool
all_below p zero = true
all_below p (suc n) = p n && all_below p n

abbrev pub lawful_table : {X : Type 0} → (X → Bool) → X → Domain → List X → List Node → Extent → Bool
lawful_table within blank d leaves nodes x =
    nat_le x.leaves (length leaves)
    && (nat_le x.nodes (length nodes)
    && (names x.leaves x.nodes x.root
    && (all_below (leaf_is_within within blank leaves) x.leaves
    && all_below (node_is_lawful d x.leaves (take x.nodes nodes)) x.nodes)))

pub record LawfulTable {X : Type 0} (within : X → Bool) (blank : X) (d : Domain) (leaves : List X) (nodes : List Node) (x : Extent) : Type 0 where
  pub leaves_fit : x.leaves ≤ length leaves
  pub nodes_fit : x.nodes ≤ length nodes
  pub rooted : names x.leaves x.nodes x.root ≡ true
  pub limited : HoldsBelow (leaf_is_within within blank leaves) x.leaves
  pub lawful : Lawful d x.leaves (take x.nodes nodes)
