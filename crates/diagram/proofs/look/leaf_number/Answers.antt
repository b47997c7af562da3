use Rattle.std.proofs.Common.{sym, ap, ◌∙◌, length}
use Rattle.diagram.specs.Reads.{branch}
use Rattle.diagram.specs.Lawful.{node_at}
use Rattle.diagram.proofs.Steps.{Follows, follow_at, reach_leaf}
use Rattle.diagram.proofs.look.leaf_number.Goals as goal

-- what a turn makes of the reference
turned : (g : _) (c : goal.After-branch_for-reference g) → Follows c.args.conditions (length c.args.table.leaves.now) c.args.table.nodes.now c.args.state c.loop-leaf.reference c.branch_for-reference.result
turned g c =
    let node = node_at c.args.table.nodes.now c.in-Node.j in
    follow_at _ _ _ _ _ c.in-Node.j _ c.requires.lawful c.loop-leaf.invariant.named c.in-Node.ensures
    (c.branch_for-reference.ensures ∙ ap (λ v. branch v node) c.holds.ensures)

pub loop-leaf-preserved : goal.loop-leaf-preserved
loop-leaf-preserved g c = let t = turned g c in record { named = t.counted; same = t.same ∙ c.loop-leaf.invariant.same }

pub loop-leaf-smaller : goal.loop-leaf-smaller
loop-leaf-smaller g c = (turned g c).earlier

pub returns-in-Leaf-clause-reached : goal.returns-in-Leaf-clause-reached
returns-in-Leaf-clause-reached g c =
    let leaf = c.in-Leaf.ensures in
    leaf.1 ∙ (sym (reach_leaf _ _ c.args.state _ leaf.0) ∙ c.loop-leaf.invariant.same)
