use Rattle.reduction.proofs.Once.{read_back}
use Rattle.reduction.proofs.tables_read_back.Goals as goal

pub returns : goal.returns
returns g c = read_back g.L.Interned.equal (record { means = g.met.L.Interned.means; self = g.met.L.Interned.reflexive })
