-- A table over states is a table over a move that tests nothing after it.
--     tests_before c      the condition c is one before a move
--     TestsNoAfter nodes  no node tests an after-condition
--     StatesTestNoAfter   the theorem
use Rattle.std.specs.Prelude.{ℕ, Bool, true, false, List, length}
use Rattle.diagram.specs.declared.conditions.Condition.{Condition}
use Rattle.diagram.specs.declared.conditions.Condition.TheVariants.{Before, After}
use Rattle.diagram.specs.declared.nodes.Node.{Node}
use Rattle.diagram.specs.First.{HoldsBelow}
use Rattle.diagram.specs.Lawful.{node_at, Lawful}
use Rattle.diagram.specs.Order.{states}
use Rattle.reduction.specs.Canonical.{both}

abbrev pub tests_before : Condition → Bool
tests_before (Before b) = true
tests_before (After a) = false

abbrev pub TestsNoAfter : List Node → Type 0
TestsNoAfter nodes = HoldsBelow (λ k. tests_before (node_at nodes k).condition) (length nodes)

pub record StatesTestNoAfter : Type 0 where
  pub so : (n leaves : ℕ) (nodes : List Node) → Lawful (states n) leaves nodes → Lawful (both n) leaves nodes × TestsNoAfter nodes
  pub back : (n leaves : ℕ) (nodes : List Node) → Lawful (both n) leaves nodes → TestsNoAfter nodes → Lawful (states n) leaves nodes
