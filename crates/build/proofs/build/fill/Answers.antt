use Rattle.std.proofs.Common.{refl, rules}
use Rattle.build.proofs.Extents.{stands, lawful_extent}
use Rattle.build.proofs.build.fill.Goals as goal

pub returns : goal.returns
returns g c =
    let e = c.in_ok-root.ensures in
    let l = c.combine.new.leaves in
    let k = c.combine.new.nodes in
    let r = c.in_ok-root.root in
    record {
      built = rw c.extent_of.ensures (stands g.C.Out.Interned.equal _ _ l k r e.combined _ _ (search rules) (search rules) _ (search rules) (search rules));
      lawful = rw c.extent_of.ensures (lawful_extent g.C.Out.Interned.equal _ _ l k r e.combined _ _ refl (search rules) (record { means = g.met.C.Out.Interned.means; self = g.met.C.Out.Interned.reflexive }) (search rules));
      lent = search rules;
    }
