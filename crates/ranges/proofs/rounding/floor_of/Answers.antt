use Rattle.std.proofs.Common.{◌≡◌, pos, ◌∙◌, w64, to_z, of_z, rules}
use Rattle.std.specs.Int.{int_div_euclid}
use Rattle.ranges.proofs.Quotients.{euclid_floor, floor_laws}
use Rattle.ranges.proofs.rounding.floor_of.Goals as goal

pub returns : goal.returns
returns c =
    let z = c.args.z in
    let d = c.args.d in
    let q : to_z w64 (of_z w64 c.quotient.result) ≡ int_div_euclid z (pos d) = search rules in
    let e = q ∙ euclid_floor z d in
    let l = floor_laws d c.requires z _ e in
    record { value = e; below = l.0; next = l.1 }
