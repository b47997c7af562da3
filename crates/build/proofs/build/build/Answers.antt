use Rattle.std.proofs.Common.{rules}
use Rattle.build.proofs.Extents.{lawful_in_longer}
use Rattle.build.proofs.build.build.Goals as goal

pub returns-clause-lawful : goal.returns-clause-lawful
returns-clause-lawful g c = lawful_in_longer g.C.Out.Interned.equal _ _ _ c.fill.new.leaves c.fill.new.nodes _ c.fill.result (search rules) c.fill.ensures.built c.fill.ensures.lawful
