-- The table that a combination makes.
--     made r ls ns           the table with the root r, the leaves ls and the nodes ns
--     walk_from eq n k f ls ns    the walk of f over the levels from k to the last, its leaves and nodes listed after ls and ns
--     Over a b m             m has more than a leaves or more than b nodes
--     Sound eq n ls ns       the leaves and nodes listed so far are lawful, each stands once, and no node has two equal references
use Rattle.std.specs.Prelude.{ℕ, ◌+◌, ◌-◌, ◌<◌, Bool, ◌⊎◌, List, length}
use Rattle.diagram.specs.declared.nodes.Node.{Node}
use Rattle.diagram.specs.Lawful.{Lawful}
use Rattle.reduction.specs.Canonical.{both, Distinct, Parted}
use Rattle.reduction.specs.Walk.{same_node, Made, walk}

abbrev pub made : {X : Type 0} → ℕ → List X → List Node → Made X
made r ls ns = record { root = r; leaves = ls; nodes = ns }

abbrev pub walk_from : {X : Type 0} → (X → X → Bool) → ℕ → ℕ → (List Bool → X) → List X → List Node → Made X
walk_from eq n k f ls ns = walk eq n (n + n - k) k f ls ns

abbrev pub Over : {X : Type 0} → ℕ → ℕ → Made X → Type 0
Over a b m = (a < length m.leaves) ⊎ (b < length m.nodes)

pub record Sound {X : Type 0} (eq : X → X → Bool) (n : ℕ) (ls : List X) (ns : List Node) : Type 0 where
  pub lawful : Lawful (both n) (length ls) ns
  pub leaves_once : Distinct eq ls
  pub nodes_once : Distinct same_node ns
  pub parted : Parted ns
