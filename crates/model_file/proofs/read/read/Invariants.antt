use Rattle.std.proofs.Common.{◌-◌, length}
use Rattle.model_file.specs.Lists.{held, Stays}
use Rattle.model_file.proofs.Progress.{Progress}
use Rattle.model_file.proofs.read.read.Given as goal

abbrev pub invariant-loop-mark : goal.invariant-loop-mark
invariant-loop-mark l = Progress l.file (held l.initial.lists) (held l.lists) l.mark × Stays l.initial.lists l.lists

abbrev pub decreases-loop-mark : goal.decreases-loop-mark
decreases-loop-mark l = length l.file - l.mark.place
