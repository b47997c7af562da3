-- What a lawful model's tests tell of its sizes, its two tables and its roots.
use Rattle.std.proofs.Common.{◌≡◌, ℕ, ◌+◌, ◌*◌, ◌<◌, true, ◌++◌, length, get_or, sym, ◌∙◌, arith}
use Rattle.std.proofs.lemmas.Bool.{cond-false, ne_eqb}
use Rattle.diagram.specs.Lawful.{names, Lawful}
use Rattle.diagram.specs.Order.{states}
use Rattle.faults.specs.Tests.{passes}
use Rattle.faults.proofs.Order.{passes_left, passes_right, each_holds}
use Rattle.model_file.specs.Reading.{Lists}
use Rattle.std.proofs.lemmas.Nat.{mul-add-lt}
use Rattle.model.specs.Asking.{chance_root}
use Rattle.model.specs.Checking.{is_named, model_tests}
use Rattle.model.proofs.Chain.{sizes, rewards, chances, reward_nodes, chance_nodes, roots, from_nodes}

module _ (n m b : ℕ) (l : Lists) (lawful : passes (model_tests n m b l) ≡ true) where
  nodes_pass : passes (from_nodes n m b l) ≡ true
  nodes_pass =
      passes_right (chances n m b l) (from_nodes n m b l)
      (passes_right (rewards n m b l) (chances n m b l ++ from_nodes n m b l) (passes_right (sizes n m b l) (rewards n m b l ++ (chances n m b l ++ from_nodes n m b l)) lawful))

  pub reward_table : Lawful (states n) (length l.rewards) l.reward_nodes
  reward_table k less = each_holds _ _ k less (passes_left (reward_nodes n m b l) (chance_nodes n m b l ++ roots n m b l) nodes_pass)

  rest_pass : passes (chance_nodes n m b l ++ roots n m b l) ≡ true
  rest_pass = passes_right (reward_nodes n m b l) (chance_nodes n m b l ++ roots n m b l) nodes_pass

  pub chance_table : Lawful (states n) (length l.chances) l.chance_nodes
  chance_table k less = each_holds _ _ k less (passes_left (chance_nodes n m b l) (roots n m b l) rest_pass)

  root_named : (k : ℕ) → k < length l.roots → is_named l k (get_or l.roots k 0) ≡ true
  root_named k less = each_holds _ _ k less (passes_right (chance_nodes n m b l) (roots n m b l) rest_pass)

  pub reward_root_named : 0 < length l.roots → names (length l.rewards) (length l.reward_nodes) (get_or l.roots 0 0) ≡ true
  reward_root_named some = root_named 0 some

  pub chance_root_named : (k : ℕ) → 0 < k → k < length l.roots → names (length l.chances) (length l.chance_nodes) (get_or l.roots k 0) ≡ true
  chance_root_named k later less = sym (cond-false _ _ _ (ne_eqb k 0 (λ (e : k ≡ 0). absurd (omega arith)))) ∙ root_named k less

-- the root of a move and a condition is one of them
pub chance_root_within : (n m a i len : ℕ) → len ≡ 1 + m * n → a < m → i < n → chance_root n a i < len
chance_root_within n m a i len long move condition = omega (arith, mul-add-lt a n i m move condition)
