-- What a table says of a state. A table is read level by level: a reference whose node tests the level goes on to the node's
-- branch for the bit there, and any other stays; after the last level it is the number of a leaf.
--     reach n nodes k bs r    where r leads from level k on, the bits from there being bs
--     leaf_of n nodes r s     the leaf to which r leads in the state s, in a table over the n conditions before a move
--     TablesAreFollowed       in a lawful table this is the same as following each node's branch for the state
use Rattle.std.specs.Prelude.{◌≡◌, ℕ, suc, ◌<◌, ◌≤◌, Bool, true, false, cond, ◌&&◌, List, [], ◌∷◌, length, ◌==◌, nat_le}
use Rattle.diagram.specs.declared.conditions.Condition.{Condition}
use Rattle.diagram.specs.declared.conditions.Condition.TheVariants.{Before, After}
use Rattle.diagram.specs.declared.nodes.Node.{Node}
use Rattle.diagram.specs.Lawful.{named, names, Lawful}
use Rattle.diagram.specs.Order.{level, states}
use Rattle.diagram.specs.States.{bit, bits_from}

abbrev pub branch : Bool → Node → ℕ
branch true node = node.one
branch false node = node.zero

abbrev pub tests : ℕ → List Node → ℕ → ℕ → Bool
tests n nodes k r = nat_le 65536 r && level n (named nodes r).condition == k

abbrev pub descend : ℕ → List Node → ℕ → Bool → ℕ → ℕ
descend n nodes k b r = cond (tests n nodes k r) (branch b (named nodes r)) r

unfoldable pub reach : ℕ → List Node → ℕ → List Bool → ℕ → ℕ
reach n nodes k [] r = r
reach n nodes k (b ∷ bs) r = reach n nodes (suc k) bs (descend n nodes k b r)

-- the levels of the conditions before a move begin at n
abbrev pub leaf_of : ℕ → List Node → ℕ → ℕ → ℕ
leaf_of n nodes r s = reach n nodes n (bits_from 0 n s) r

-- whether a condition is 1 in a state, which says nothing of the conditions after a move
abbrev pub value_in : ℕ → Condition → Bool
value_in s (Before b) = bit b.0 s
value_in s (After a) = false

-- what reading level by level comes to in a lawful table: a leaf leads to itself, and a node where its branch for the state leads
pub record Followed (n leaves : ℕ) (nodes : List Node) (r s : ℕ) : Type 0 where
  pub leaf : r < 65536 → leaf_of n nodes r s ≡ r
  pub node : 65536 ≤ r → leaf_of n nodes r s ≡ leaf_of n nodes (branch (value_in s (named nodes r).condition) (named nodes r)) s

abbrev pub TablesAreFollowed : Type 0
TablesAreFollowed = (n leaves : ℕ) (nodes : List Node) → Lawful (states n) leaves nodes → (r s : ℕ) → names leaves (length nodes) r ≡ true → Followed n leaves nodes r s
