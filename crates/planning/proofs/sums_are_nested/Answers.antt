use Rattle.planning.proofs.Sums.{sums_nested}
use Rattle.planning.proofs.sums_are_nested.Goals as goal

pub returns : goal.returns
returns c = sums_nested
