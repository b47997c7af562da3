-- The one reduced table of a function. A function is over a list of Bool, one for each level of the order.
--     condition_at n k       the condition that stands at level k, among n before and n after a move
--     same_node              two nodes are the same where all their parts are
--     Made                   a root, with the leaves and the nodes listed so far
--     link n k r m           the node at level k with the branch r for 1 and m's root for 0, listed; no node where the two are equal
--     walk eq n L k f ls ns  the function f over the L levels from k on, its leaves and nodes listed after ls and ns; the branch for 1 is walked first, the one for 0 next, and their node comes last
--     reduced eq n f         the walk of all 2·n levels with nothing listed before it
use Rattle.std.specs.Prelude.{ℕ, zero, suc, ◌+◌, ◌-◌, ◌*◌, Bool, true, false, cond, ◌&&◌, List, [], ◌∷◌, ◌==◌, nat_lt}
use Rattle.diagram.specs.declared.conditions.Condition.{Condition}
use Rattle.diagram.specs.declared.conditions.Condition.TheVariants.{Before, After}
use Rattle.diagram.specs.declared.nodes.Node.{Node}
use Rattle.diagram.specs.Order.{number}
use Rattle.reduction.specs.Listed.{index, listed}

abbrev pub condition_at : ℕ → ℕ → Condition
condition_at n k = cond (nat_lt k n) (After (record { 0 = k })) (Before (record { 0 = k - n }))

abbrev pub same_condition : Condition → Condition → Bool
same_condition (Before a) (Before b) = a.0 == b.0
same_condition (Before a) (After b) = false
same_condition (After a) (Before b) = false
same_condition (After a) (After b) = a.0 == b.0

abbrev pub same_node : Node → Node → Bool
same_node x y = same_condition x.condition y.condition && (x.one == y.one && x.zero == y.zero)

-- where a table of nodes looks for a node first
abbrev pub node_digest : Node → ℕ
node_digest x = x.one * 2654435761 + x.zero * 40503 + number x.condition

pub record Made (X : Type 0) : Type 0 where
  pub root : ℕ
  pub leaves : List X
  pub nodes : List Node

abbrev pub node_for : ℕ → ℕ → ℕ → ℕ → Node
node_for n k r₁ r₀ = record { condition = condition_at n k; one = r₁; zero = r₀ }

abbrev pub link : {X : Type 0} → ℕ → ℕ → ℕ → Made X → Made X
link n k r m =
    cond (r == m.root) m
    (record { root = 65536 + index same_node m.nodes (node_for n k r m.root); leaves = m.leaves; nodes = listed same_node m.nodes (node_for n k r m.root) })

unfoldable pub walk : {X : Type 0} → (X → X → Bool) → ℕ → ℕ → ℕ → (List Bool → X) → List X → List Node → Made X
walk eq n zero k f ls ns = record { root = index eq ls (f []); leaves = listed eq ls (f []); nodes = ns }
walk eq n (suc L) k f ls ns =
    let one = walk eq n L (suc k) (λ bs. f (true ∷ bs)) ls ns in
    link n k one.root (walk eq n L (suc k) (λ bs. f (false ∷ bs)) one.leaves one.nodes)

abbrev pub reduced : {X : Type 0} → (X → X → Bool) → ℕ → (List Bool → X) → Made X
reduced eq n f = walk eq n (n + n) 0 f [] []
