-- A model in the code as the mathematics sees it.
--     plan_of x       its sizes and discount, its rewards and its chances, state by state
use Rattle.model.specs.declared.model.Model.{Model}
use Rattle.model.specs.Asking.{reward_at, chance_at}
use Rattle.model.specs.Models.{lists_of}
use Rattle.planning.specs.Models.{Model as Plan}

abbrev pub plan_of : Model → Plan
plan_of x =
    record { conditions = x.sizes.conditions; moves = x.sizes.moves; discount = x.sizes.discount; reward = reward_at x.sizes.conditions (lists_of x); chance = chance_at x.sizes.conditions (lists_of x) }
