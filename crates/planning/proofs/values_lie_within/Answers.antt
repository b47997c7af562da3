use Rattle.planning.proofs.Contained.{values_lie_within}
use Rattle.planning.proofs.values_lie_within.Goals as goal

pub returns : goal.returns
returns c = values_lie_within
