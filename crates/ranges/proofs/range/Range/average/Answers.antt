use Rattle.std.proofs.Common.{arith}
use Rattle.std.proofs.lemmas.Int.{ints}
use Rattle.ranges.proofs.Mixes.{mixed_laws}
use Rattle.ranges.proofs.range.Range.average.Goals as goal

pub outwards-requires : goal.outwards-requires
outwards-requires c =
    let l = mixed_laws _ _ _ _ _ _ _ c.requires c.mixed_of-low.ensures c.mixed_of-high.ensures
    (omega (arith, ints)) (omega (arith, ints)) (omega (arith, ints)) (omega (arith, ints)) (omega (arith, ints)) (omega (arith, ints)) in
    record { ordered = omega (arith, ints); least = omega (arith, ints); greatest = omega (arith, ints) }
