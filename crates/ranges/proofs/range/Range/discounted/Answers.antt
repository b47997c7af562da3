use Rattle.std.proofs.Common.{arith}
use Rattle.std.proofs.lemmas.Int.{ints}
use Rattle.ranges.proofs.Mixes.{multiples_ordered}
use Rattle.ranges.proofs.range.Range.discounted.Goals as goal

pub outwards-requires : goal.outwards-requires
outwards-requires c =
    let o = multiples_ordered _ _ _ _ _ c.multiple_of-low.ensures.value c.multiple_of-high.ensures.value (omega (arith, ints)) in
    omega (arith, ints)
