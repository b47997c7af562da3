use Rattle.std.proofs.Common.{◌+◌}
use Rattle.std.specs.Option.{option_map, unwrap_or}
use Rattle.planner.proofs.main.Given as goal

-- none is left once no file is to be loaded
abbrev pub decreases-loop-next : goal.decreases-loop-next
decreases-loop-next l = unwrap_or (option_map (λ _. l.session.turns + 1) l.next) 0
