use native.Mathlib.Nat.{sub-zero}
use Rattle.tables.proofs.Below.{none_outside}
use Rattle.tables.proofs.lawful.are_all_allowed.Goals as goal

pub returns : goal.returns
returns g c =
    let first = simp sub-zero at c.first_outside.ensures in
    none_outside (g.K.Limits.within c.args.limits) g.K.Leaf.Interned.blank c.args.leaves.now c.args.count c.first_outside.result c.is_none.result c.requires c.is_none.ensures first
