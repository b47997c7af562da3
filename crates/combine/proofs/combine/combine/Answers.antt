use Rattle.sources.specs.Spots.{values}
use Rattle.std.proofs.Common.{arith}
use Rattle.combine.proofs.Starting.{working_from_nothing}
use Rattle.combine.proofs.combine.combine.Goals as goal

pub visit-requires-clause-working : goal.visit-requires-clause-working
visit-requires-clause-working g c =
    let S = c.args.reading.sources in
    let f = values (g.C.Combining.meaning c.args.combining) g.C.First.Interned.blank g.C.Second.Interned.blank g.C.Third.Interned.blank S in
    let start = c.begin.ensures in
    working_from_nothing g.C.Out.Interned.equal S f c.begin.new.leaves c.begin.new.nodes c.begin.new.memo (omega (arith, start.leaves_stay.items_length)) (omega (arith, start.nodes_stay.items_length)) start.no_leaf start.no_node start.unused
