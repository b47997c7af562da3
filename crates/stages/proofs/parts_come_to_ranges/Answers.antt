use Rattle.stages.proofs.Averaged.{parts_come_to_ranges}
use Rattle.stages.proofs.parts_come_to_ranges.Goals as goal

pub returns : goal.returns
returns c = parts_come_to_ranges
