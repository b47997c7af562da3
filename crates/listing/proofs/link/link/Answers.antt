use Rattle.std.proofs.Common.{arith}
use Rattle.listing.proofs.Linked.{node_links}
use Rattle.listing.proofs.link.link.Goals as goal

pub returns-clause-linked : goal.returns-clause-linked
returns-clause-linked c =
    node_links c.args.conditions c.args.level c.args.one c.args.zero c.node_for.ensures c.if-one-zero.false (omega (arith, c.in_ok-place.ensures.interned.within, c.intern.new.self.indexed.counted)) c.in_ok-place.ensures.interned
