use Rattle.std.proofs.Common.{take, ap, ◌∙◌}
use native.Mathlib.Nat.{sub-zero}
use Rattle.std.proofs.lemmas.List.{length-take-le}
use Rattle.diagram.specs.Lawful.{node_is_lawful}
use Rattle.tables.specs.Tables.{all_below}
use Rattle.tables.proofs.Below.{none_fails}
use Rattle.tables.proofs.lawful.are_all_lawful.Goals as goal

pub returns : goal.returns
returns c =
    let nodes = c.args.nodes.now in
    let count = c.args.count in
    let first = simp sub-zero at c.first_unlawful.ensures in
    none_fails _ _ _ _ c.is_none.ensures first ∙ ap (all_below (node_is_lawful c.args.domain c.args.leaves (take count nodes))) (length-take-le count nodes c.requires)
