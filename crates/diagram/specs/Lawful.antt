-- When a list of nodes is lawful, and when a reference names something.
--     at nodes r                             the node that the reference r names
--     names leaves nodes r                   r names one of so many leaves or of so many nodes
--     later n nodes c r                      r names a leaf, or a node whose condition stands later than c
--     branch_is_lawful d leaves nodes j r    r may be a branch of node j: a leaf, or a node before j that tests a later condition
--     node_is_lawful d leaves nodes j        node j tests a condition of the domain and both its branches are lawful
--     Lawful d leaves nodes                  every node is
use Rattle.std.specs.Prelude.{ℕ, ◌-◌, Bool, true, cond, ◌&&◌, List, length, nat_lt, slice_index_or}
use Rattle.diagram.specs.declared.conditions.Condition.{Condition}
use Rattle.diagram.specs.declared.conditions.Condition.TheVariants.{Before}
use Rattle.diagram.specs.declared.conditions.Domain.{Domain}
use Rattle.diagram.specs.declared.nodes.Node.{Node}
use Rattle.diagram.specs.First.{HoldsBelow}
use Rattle.diagram.specs.Order.{level, exists}

-- what stands past the end of a list of nodes: nothing reads it
abbrev pub blank : Node
blank = record { condition = Before (record { 0 = 0 }); one = 0; zero = 0 }

abbrev pub node_at : List Node → ℕ → Node
node_at nodes j = slice_index_or nodes j blank

abbrev pub named : List Node → ℕ → Node
named nodes r = node_at nodes (r - 65536)

abbrev pub names : ℕ → ℕ → ℕ → Bool
names leaves nodes r = cond (nat_lt r 65536) (nat_lt r leaves) (nat_lt (r - 65536) nodes)

abbrev pub later : ℕ → List Node → Condition → ℕ → Bool
later n nodes c r = cond (nat_lt r 65536) true (nat_lt (level n c) (level n (named nodes r).condition))

abbrev pub branch_is_lawful : Domain → ℕ → List Node → ℕ → ℕ → Bool
branch_is_lawful d leaves nodes j r = names leaves j r && later d.conditions nodes (node_at nodes j).condition r

abbrev pub node_is_lawful : Domain → ℕ → List Node → ℕ → Bool
node_is_lawful d leaves nodes j =
    exists d (node_at nodes j).condition && (branch_is_lawful d leaves nodes j (node_at nodes j).one && branch_is_lawful d leaves nodes j (node_at nodes j).zero)

abbrev pub Lawful : Domain → ℕ → List Node → Type 0
Lawful d leaves nodes = HoldsBelow (node_is_lawful d leaves nodes) (length nodes)
