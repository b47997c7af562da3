use Rattle.std.proofs.Common.{◌≡◌, true, length}
use Rattle.diagram.specs.Lawful.{names}
use Rattle.diagram.specs.Reads.{leaf_of}
use Rattle.diagram.proofs.look.leaf_number.Given as goal

abbrev pub invariant-loop-leaf : goal.invariant-loop-leaf
invariant-loop-leaf g l = record {
  named : names (length l.table.leaves.now) (length l.table.nodes.now) l.reference ≡ true;
  same : leaf_of l.conditions l.table.nodes.now l.reference l.state ≡ leaf_of l.conditions l.table.nodes.now l.table.root l.state;
}

abbrev pub decreases-loop-leaf : goal.decreases-loop-leaf
decreases-loop-leaf g l = l.reference
