-- When a model is lawful: the tests of its sizes, entries, nodes and roots, by tag and then by entry.
--     model_tests n m b l           the tests of a model of n conditions, m moves and discount b ÷ 10,000 with the lists l
use Rattle.std.specs.Prelude.{ℕ, Bool, cond, ◌&&◌, List, [], ◌∷◌, ◌++◌, length, pos, ◌==◌, nat_le, slice_index, slice_index_or}
use Rattle.diagram.specs.declared.nodes.Node.{Node}
use Rattle.diagram.specs.Lawful.{names, node_is_lawful}
use Rattle.diagram.specs.Order.{states}
use Rattle.faults.specs.declared.ModelFault.{ModelFault}
use Rattle.faults.specs.declared.ModelFault.TheVariants.{OutsideLimits, UnlawfulNode, RootNamesNothing}
use Rattle.faults.specs.Tests.{Test, test, each}
use Rattle.model_file.specs.Reading.{Lists}
use Rattle.tables.specs.Limits.{reward_within, chance_within}

abbrev pub between : ℕ → ℕ → ℕ → Bool
between low high x = nat_le low x && nat_le x high

abbrev pub size_tests : ℕ → ℕ → ℕ → List (Test ModelFault)
size_tests n m b = test (between 1 24 n) (OutsideLimits 1 0) ∷ test (between 1 16 m) (OutsideLimits 1 1) ∷ test (between 1 9999 b) (OutsideLimits 1 2) ∷ []

-- each entry of a list is within its limits; `blank` stands past the end of the list
abbrev pub limit_tests : {X : Type 0} → ℕ → (X → Bool) → X → List X → List (Test ModelFault)
limit_tests tag within blank xs = each (length xs) (λ k. test (within (slice_index_or xs k blank)) (OutsideLimits tag k))

abbrev pub node_tests : ℕ → ℕ → ℕ → List Node → List (Test ModelFault)
node_tests tag n leaves nodes = each (length nodes) (λ k. test (node_is_lawful (states n) leaves nodes k) (UnlawfulNode tag k))

-- root k is r: it names something in the reward table, or after the first in the chance table
abbrev pub is_named : Lists → ℕ → ℕ → Bool
is_named l k r = cond (k == 0) (names (length l.rewards) (length l.reward_nodes) r) (names (length l.chances) (length l.chance_nodes) r)

abbrev pub root_tests : Lists → List (Test ModelFault)
root_tests l = each (length l.roots) (λ k. test (is_named l k (slice_index l.roots k)) (RootNamesNothing k))

abbrev pub model_tests : ℕ → ℕ → ℕ → Lists → List (Test ModelFault)
model_tests n m b l =
    size_tests n m b ++ (limit_tests 2 reward_within (pos 0) l.rewards ++ (limit_tests 3 chance_within 0 l.chances
    ++ (node_tests 4 n (length l.rewards) l.reward_nodes ++ (node_tests 5 n (length l.chances) l.chance_nodes
    ++ root_tests l))))
