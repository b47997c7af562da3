-- The order in which a diagram tests its conditions.
--     level n c     where the condition c stands in the order, among n conditions before and n after a move
--     number c      the number of the condition c, whichever of the two it is
--     exists d c    a table over the domain d may test c
--     states n      the domain of a table over the states of n conditions, which tests no after-condition
use Rattle.std.specs.Prelude.{ℕ, ◌+◌, Bool, false, ◌&&◌, nat_lt}
use Rattle.diagram.specs.declared.conditions.Condition.{Condition}
use Rattle.diagram.specs.declared.conditions.Condition.TheVariants.{Before, After}
use Rattle.diagram.specs.declared.conditions.Domain.{Domain}

abbrev pub level : ℕ → Condition → ℕ
level n (After a) = a.0
level n (Before b) = n + b.0

abbrev pub number : Condition → ℕ
number (After a) = a.0
number (Before b) = b.0

abbrev pub exists : Domain → Condition → Bool
exists d (After a) = d.after && nat_lt a.0 d.conditions
exists d (Before b) = nat_lt b.0 d.conditions

abbrev pub states : ℕ → Domain
states n = record { conditions = n; after = false }
