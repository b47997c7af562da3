use Rattle.planning.proofs.Narrowed.{ranges_stay_narrow}
use Rattle.planning.proofs.ranges_stay_narrow.Goals as goal

pub returns : goal.returns
returns c = ranges_stay_narrow
