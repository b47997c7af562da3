use Rattle.planning.proofs.Examples.{some_history}
use Rattle.planning.proofs.histories_exist.Goals as goal

pub returns : goal.returns
returns c = some_history
