use Rattle.planning.proofs.Examples.{worked}
use Rattle.planning.proofs.lock_is_worked.Goals as goal

pub returns : goal.returns
returns c = worked
