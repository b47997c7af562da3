use Rattle.stages.proofs.Averaged.{parts_are_averaged}
use Rattle.stages.proofs.parts_are_averaged.Goals as goal

pub returns : goal.returns
returns c = parts_are_averaged
