use Rattle.listing.proofs.Pushes.{pushed}
use Rattle.listing.proofs.unique.push.Goals as goal

pub returns-clause-indexed : goal.returns-clause-indexed
returns-clause-indexed g c =
    pushed (record { means = g.met.X.Interned.means; self = g.met.X.Interned.reflexive }) c.requires.indexed c.args.x c.requires.room c.requires.new c.bucket-b.ensures c.head_of.ensures
