use Rattle.std.proofs.Common.{sym, ◌∙◌, rules}
use Rattle.reduction.specs.Listed.{Same}
use Rattle.listing.proofs.Hashes.{begins, sinks, passes, present, absent}
use Rattle.listing.proofs.unique.find.Given as given
use Rattle.listing.proofs.unique.find.Goals as goal

sameness : (g : given.Over) → Same g.X.Interned.equal
sameness g = record { means = g.met.X.Interned.means; self = g.met.X.Interned.reflexive }

pub loop-i-init : goal.loop-i-init
loop-i-init g c = begins _ _ _ _ _ _ _ c.args.x c.requires (sameness g) c.bucket.result c.head_of-at.result c.bucket.ensures c.head_of-at.ensures

pub loop-i-smaller : goal.loop-i-smaller
loop-i-smaller g c = sinks _ _ _ _ _ _ _ c.args.x c.requires (sameness g) c.loop-i.invariant c.in-Some.ensures c.index-items-i.is

pub loop-i-preserved : goal.loop-i-preserved
loop-i-preserved g c = passes _ _ _ _ _ _ _ c.args.x c.requires (sameness g) c.loop-i.invariant c.in-Some.ensures c.index-items-i.is (sym c.if-same.false ∙ c.same.ensures)

pub returns-then-same : goal.returns-then-same
returns-then-same g c = present _ _ _ _ _ _ _ c.args.x c.requires (sameness g) c.loop-i.invariant c.in-Some.ensures c.index-items-i.is (sym c.if-same.true ∙ c.same.ensures)

pub returns : goal.returns
returns g c = absent _ _ _ _ _ _ _ c.args.x c.requires (sameness g) c.loop-i.at c.loop-i.invariant (search rules)
