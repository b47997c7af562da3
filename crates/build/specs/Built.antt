-- What building a table asks and what it comes to.
--     Roomy capacity index leaves nodes    lists of so many leaves and nodes, and the index, are long enough for the capacity
--     Stands m capacity leaves nodes x     the counted leaves and nodes of the two lists are the table m, with its root, and are within the capacity
--     Built eq n f capacity leaves nodes r    the reduced table of f stands in the lists; or it has more leaves or more nodes than the capacity
--     LawfulIfBuilt n nodes r              what was built is a lawful table over a move of n conditions, and its root names something
use Rattle.std.specs.Prelude.{◌≡◌, ℕ, ◌<◌, ◌≤◌, Bool, true, List, length, take, IfOk, Result, MatchResult}
use Rattle.diagram.specs.declared.nodes.Node.{Node}
use Rattle.diagram.specs.Lawful.{names, Lawful}
use Rattle.reduction.specs.Canonical.{both}
use Rattle.reduction.specs.Walk.{Made, reduced}
use Rattle.combine.specs.declared.combine.TooLarge.{TooLarge}
use Rattle.combine.specs.Tables.{made, Over}
use Rattle.tables.specs.declared.lawful.Extent.{Extent}
use Rattle.build.specs.declared.build.Index.{Index}

pub record Roomy (capacity : ℕ) (index : Index) (leaves nodes : ℕ) : Type 0 where
  pub some : 0 < capacity
  pub small : capacity ≤ 65535
  pub leaves_fit : capacity ≤ leaves
  pub nodes_fit : capacity ≤ nodes
  pub leaf_heads : capacity ≤ length index.leaf_heads.now
  pub leaf_next : capacity ≤ length index.leaf_next.now
  pub node_heads : capacity ≤ length index.node_heads.now
  pub node_next : capacity ≤ length index.node_next.now

pub record Stands {X : Type 0} (m : Made X) (capacity : ℕ) (leaves : List X) (nodes : List Node) (x : Extent) : Type 0 where
  pub is : m ≡ made x.root (take x.leaves leaves) (take x.nodes nodes)
  pub leaves_fit : x.leaves ≤ capacity
  pub nodes_fit : x.nodes ≤ capacity

abbrev pub Built : {X : Type 0} → (X → X → Bool) → ℕ → (List Bool → X) → ℕ → List X → List Node → Result Extent TooLarge → Type 0
Built eq n f capacity leaves nodes r = MatchResult r (Stands (reduced eq n f) capacity leaves nodes) (λ _. Over capacity capacity (reduced eq n f))

pub record LawfulExtent (n : ℕ) (nodes : List Node) (x : Extent) : Type 0 where
  pub lawful : Lawful (both n) x.leaves (take x.nodes nodes)
  pub rooted : names x.leaves x.nodes x.root ≡ true

abbrev pub LawfulIfBuilt : ℕ → List Node → Result Extent TooLarge → Type 0
LawfulIfBuilt n nodes r = IfOk r (LawfulExtent n nodes)
