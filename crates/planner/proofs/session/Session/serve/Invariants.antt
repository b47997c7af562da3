use Rattle.std.proofs.Common.{◌≤◌}
use Rattle.planner.proofs.session.Session.serve.Given as goal

abbrev pub invariant-loop-self : goal.invariant-loop-self
invariant-loop-self g l = l.self.turns ≤ l.fn.self.turns

abbrev pub decreases-loop-self : goal.decreases-loop-self
decreases-loop-self g l = l.self.turns
