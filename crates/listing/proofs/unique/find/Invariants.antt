use Rattle.listing.proofs.Hashes.{Sought}
use Rattle.listing.proofs.unique.find.Given as goal

abbrev pub invariant-loop-i : goal.invariant-loop-i
invariant-loop-i g l = Sought g.X.Interned.equal g.X.Interned.digested g.X.Interned.blank l.items l.count l.heads l.next l.x l.at

abbrev pub decreases-loop-i : goal.decreases-loop-i
decreases-loop-i g l = l.at
