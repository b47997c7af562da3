use Rattle.std.proofs.Common.{Some, sym, ap, ◌∙◌}
use Rattle.faults.specs.declared.ModelFault.TheVariants.{UnlawfulNode}
use Rattle.faults.proofs.Order.{each_none, each_some}
use Rattle.model.proofs.model.verdicts.check_nodes.Goals as goal

pub returns-in-Some : goal.returns-in-Some
returns-in-Some c = let h = c.in-Some.ensures in each_some _ _ _ h.0 h.1 h.2 ∙ ap (λ t. Some (UnlawfulNode t c.in-Some.entry)) (sym c.into.ensures)

pub returns-in-None : goal.returns-in-None
returns-in-None c = each_none _ _ c.in-None.ensures
