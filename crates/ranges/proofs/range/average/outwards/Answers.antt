use Rattle.std.proofs.Common.{arith}
use Rattle.std.proofs.lemmas.Int.{ints}
use Rattle.ranges.proofs.Multiples.{multiple_is}
use Rattle.ranges.proofs.range.average.outwards.Goals as goal

pub invariant_of-result : goal.invariant_of-result
invariant_of-result c = omega (arith, ints, multiple_is 10000 c.floor_of.result, multiple_is 10000 c.ceiling_of.result)
