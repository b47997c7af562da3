use Rattle.std.proofs.Common.{◌≡◌, pos, w64, to_z, of_z, rules}
use Rattle.std.specs.Int.{int_rem_euclid}
use Rattle.ranges.specs.Whole.{floor, ceiling}
use Rattle.ranges.proofs.Ceilings.{ceiling_is}
use Rattle.ranges.proofs.Quotients.{ceiling_laws}
use Rattle.ranges.proofs.rounding.ceiling_of.Goals as goal

pub returns : goal.returns
returns c =
    let z = c.args.z in
    let d = c.args.d in
    let quotient : to_z w64 (of_z w64 c.floor_of.result) ≡ floor d z = search rules in
    let rest : to_z w64 (of_z w64 c.rem_euclid.result) ≡ int_rem_euclid z (pos d) = search rules in
    let is = ceiling_is d z _ _ _ c.requires quotient rest c.raised.ensures.exact c.raised.ensures.over in
    let e : to_z w64 (of_z w64 c.raised.result) ≡ ceiling d z = search rules in
    let l = ceiling_laws d c.requires z _ e in
    record { value = e; above = l.0; next = l.1 }
