use Rattle.reduction.proofs.Mapped.{mapping_never_grows}
use Rattle.reduction.proofs.mapping_never_grows.Goals as goal

pub returns : goal.returns
returns g c =
    mapping_never_grows g.L.Interned.equal g.K.Interned.equal (record { means = g.met.L.Interned.means; self = g.met.L.Interned.reflexive })
    (record { means = g.met.K.Interned.means; self = g.met.K.Interned.reflexive })
