-- The tests of a model, kind after kind: where one kind fails after all before it passed, and what passing all tells.
use Rattle.std.proofs.Common.{◌≡◌, ℕ, List, ◌++◌, length, pos, Some, None, Ok, Err, Option, Result, ◌∙◌}
use Rattle.faults.specs.declared.ModelFault.{ModelFault}
use Rattle.faults.specs.Tests.{Test, first_fault, Verdict}
use Rattle.faults.proofs.Order.{then_none, then_some}
use Rattle.model_file.specs.Reading.{Lists}
use Rattle.tables.specs.Limits.{reward_within, chance_within}
use Rattle.model.specs.Checking.{size_tests, limit_tests, node_tests, root_tests, model_tests}

module _ (n m b : ℕ) (l : Lists) where
  abbrev pub sizes : List (Test ModelFault)
  sizes = size_tests n m b

  abbrev pub rewards : List (Test ModelFault)
  rewards = limit_tests 2 reward_within (pos 0) l.rewards

  abbrev pub chances : List (Test ModelFault)
  chances = limit_tests 3 chance_within 0 l.chances

  abbrev pub reward_nodes : List (Test ModelFault)
  reward_nodes = node_tests 4 n (length l.rewards) l.reward_nodes

  abbrev pub chance_nodes : List (Test ModelFault)
  chance_nodes = node_tests 5 n (length l.chances) l.chance_nodes

  abbrev pub roots : List (Test ModelFault)
  roots = root_tests l

  abbrev pub from_nodes : List (Test ModelFault)
  from_nodes = reward_nodes ++ (chance_nodes ++ roots)

  after_sizes : first_fault sizes ≡ None → first_fault (model_tests n m b l) ≡ first_fault (rewards ++ (chances ++ from_nodes))
  after_sizes s = then_none sizes (rewards ++ (chances ++ from_nodes)) s

  after_rewards : first_fault sizes ≡ None → first_fault rewards ≡ None → first_fault (model_tests n m b l) ≡ first_fault (chances ++ from_nodes)
  after_rewards s r = after_sizes s ∙ then_none rewards (chances ++ from_nodes) r

  after_chances : first_fault sizes ≡ None → first_fault rewards ≡ None → first_fault chances ≡ None → first_fault (model_tests n m b l) ≡ first_fault from_nodes
  after_chances s r c = after_rewards s r ∙ then_none chances from_nodes c

  pub rewards_fail : (f : ModelFault) → first_fault sizes ≡ None → first_fault rewards ≡ Some f → first_fault (model_tests n m b l) ≡ Some f
  rewards_fail f s e = after_sizes s ∙ then_some rewards (chances ++ from_nodes) f e

  pub chances_fail : (f : ModelFault) → first_fault sizes ≡ None → first_fault rewards ≡ None → first_fault chances ≡ Some f → first_fault (model_tests n m b l) ≡ Some f
  chances_fail f s r e = after_rewards s r ∙ then_some chances from_nodes f e

  module _ (s : first_fault sizes ≡ None) (r : first_fault rewards ≡ None) (c : first_fault chances ≡ None) where
    pub reward_nodes_fail : (f : ModelFault) → first_fault reward_nodes ≡ Some f → first_fault (model_tests n m b l) ≡ Some f
    reward_nodes_fail f e = after_chances s r c ∙ then_some reward_nodes (chance_nodes ++ roots) f e

    pub chance_nodes_fail : (f : ModelFault) → first_fault reward_nodes ≡ None → first_fault chance_nodes ≡ Some f → first_fault (model_tests n m b l) ≡ Some f
    chance_nodes_fail f x e = after_chances s r c ∙ then_none reward_nodes (chance_nodes ++ roots) x ∙ then_some chance_nodes roots f e

    roots_decide : (o : Option ModelFault) → first_fault reward_nodes ≡ None → first_fault chance_nodes ≡ None → first_fault roots ≡ o → first_fault (model_tests n m b l) ≡ o
    roots_decide o x y e = after_chances s r c ∙ then_none reward_nodes (chance_nodes ++ roots) x ∙ then_none chance_nodes roots y ∙ e

    pub roots_verdict : (v : Result (Unit {0}) ModelFault) → first_fault reward_nodes ≡ None → first_fault chance_nodes ≡ None → Verdict roots v → Verdict (model_tests n m b l) v
    roots_verdict (Ok u) x y e = roots_decide None x y e
    roots_verdict (Err f) x y e = roots_decide (Some f) x y e
