use Rattle.faults.proofs.Order.{none_passes}
use Rattle.model.specs.Checking.{model_tests}
use Rattle.model.specs.Held.{lists_in}
use Rattle.model.proofs.model.check.fill.Goals as goal

pub invariant_of-model : goal.invariant_of-model
invariant_of-model c =
    let s = c.args.sizes in
    record { lawful = none_passes (model_tests s.conditions s.moves s.discount (lists_in c.args.lists)) c.in_ok-check_lists.ensures; rooted = c.requires }
