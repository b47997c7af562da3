use Rattle.std.proofs.Common.{◌-◌}
use Rattle.sources.specs.Spots.{levels}
use Rattle.survey.proofs.survey.+visit.Given as goal

abbrev pub decreases-visit : goal.decreases-visit
decreases-visit g l = levels l.reading.sources - l.from
