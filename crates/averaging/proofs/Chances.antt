-- The chances of a model as a diagram: readable, none above 10,000, and at each state what the model says.
use Rattle.std.proofs.Common.{◌≡◌, ℕ, ◌+◌, ◌<◌, ◌≤◌, Bool, true, ◌++◌, List, length, get_or, sym, ap, ◌∙◌, subst, ⊎_elim, arith}
use Rattle.std.proofs.lemmas.Bool.{leb-true, cases_lt}
use Rattle.std.proofs.lemmas.List.{get_or_past}
use Rattle.faults.specs.Tests.{passes}
use Rattle.faults.proofs.Order.{passes_left, passes_right, each_holds}
use Rattle.diagram.specs.Lawful.{names, Lawful}
use Rattle.diagram.specs.Order.{states}
use Rattle.diagram.specs.Reads.{leaf_of}
use Rattle.model_file.specs.Reading.{Lists}
use Rattle.model.specs.declared.model.Model.{Model}
use Rattle.model.specs.Asking.{chance_root, chance_at}
use Rattle.model.specs.Checking.{model_tests}
use Rattle.model.specs.Models.{lists_of}
use Rattle.model.proofs.Chain.{sizes, rewards, chances, from_nodes}
use Rattle.model.proofs.Lawful.{chance_table, chance_root_named, chance_root_within}
use Rattle.reduction.specs.Canonical.{both}
use Rattle.reduction.proofs.Levels.{states_both}
use Rattle.sources.specs.declared.input.Input.{Input}
use Rattle.sources.specs.Inputs.{value, Named, Readable, Unfixed}
use Rattle.sources.proofs.Readables.{readable_own}
use Rattle.stages.specs.Parts.{over_states}
use Rattle.stages.proofs.Tables.{reads_states}
use Rattle.averaging.specs.Averaged.{ReadsChances}

list_limit : (n m b : ℕ) (l : Lists) → passes (model_tests n m b l) ≡ true → (j : ℕ) → j < length l.chances → get_or l.chances j 0 ≤ 10000
list_limit n m b l lawful j less =
    let later = passes_right (rewards n m b l) (chances n m b l ++ from_nodes n m b l) (passes_right (sizes n m b l) (rewards n m b l ++ (chances n m b l ++ from_nodes n m b l)) lawful) in
    leb-true _ _ (each_holds _ _ j less (passes_left (chances n m b l) (from_nodes n m b l) later))

-- past the end of the list stands 0
pub chance_limit : (x : Model) (a i s : ℕ) → chance_at x.sizes.conditions (lists_of x) a i s ≤ 10000
chance_limit x a i s =
    let j = leaf_of x.sizes.conditions x.lists.chance_nodes.now (get_or x.lists.roots.now (chance_root x.sizes.conditions a i) 0) s in
    ⊎_elim (list_limit x.sizes.conditions x.sizes.moves x.sizes.discount (lists_of x) x.lawful j) (λ past. omega (arith, get_or_past x.lists.chances.now j 0 past)) (cases_lt j (length x.lists.chances.now))

module _ (x : Model) (r : ℕ) (k : Input ℕ) (is : ReadsChances x r k) where
  lawful : Lawful (states x.sizes.conditions) (length k.table.leaves.now) k.table.nodes.now
  lawful =
      let given : Lawful (states x.sizes.conditions) (length x.lists.chances.now) x.lists.chance_nodes.now = chance_table x.sizes.conditions x.sizes.moves x.sizes.discount (lists_of x) x.lawful in
      subst (λ ls. Lawful (states x.sizes.conditions) (length ls) k.table.nodes.now) (sym is.leaves) (subst (Lawful (states x.sizes.conditions) (length x.lists.chances.now)) (sym is.nodes) given)

  pub chances_readable : Readable k (x.sizes.conditions + x.sizes.conditions)
  chances_readable = readable_own k (both x.sizes.conditions) is.offset (states_both x.sizes.conditions (length k.table.leaves.now) k.table.nodes.now lawful)

  pub chances_limited : (j : ℕ) → j < length k.table.leaves.now → get_or k.table.leaves.now j 0 ≤ 10000
  chances_limited = subst (λ ls. (j : ℕ) → j < length ls → get_or ls j 0 ≤ 10000) (sym is.leaves) (list_limit x.sizes.conditions x.sizes.moves x.sizes.discount (lists_of x) x.lawful)

  pub root_named : (a i : ℕ) → r ≡ get_or x.lists.roots.now (chance_root x.sizes.conditions a i) 0 → a < x.sizes.moves → i < x.sizes.conditions → Named k k.table.root
  root_named a i at move condition =
      let given : names (length x.lists.chances.now) (length x.lists.chance_nodes.now) (get_or x.lists.roots.now (chance_root x.sizes.conditions a i) 0) ≡ true =
      chance_root_named x.sizes.conditions x.sizes.moves x.sizes.discount (lists_of x) x.lawful (chance_root x.sizes.conditions a i) (omega arith) (chance_root_within x.sizes.conditions x.sizes.moves a i (length x.lists.roots.now) x.rooted move condition) in
      subst (λ ls. names (length ls) (length k.table.nodes.now) k.table.root ≡ true) (sym is.leaves)
      (subst (λ ns. names (length x.lists.chances.now) (length ns) k.table.root ≡ true) (sym is.nodes) (subst (λ z. names (length x.lists.chances.now) (length x.lists.chance_nodes.now) z ≡ true) (sym (is.root ∙ at)) given))

  pub chances_read : Named k k.table.root → (bs : List Bool) → length bs ≡ x.sizes.conditions + x.sizes.conditions →
      value 0 k 0 bs k.table.root ≡ over_states x.sizes.conditions (λ s. get_or x.lists.chances.now (leaf_of x.sizes.conditions x.lists.chance_nodes.now r s) 0) bs
  chances_read named bs long =
      reads_states 0 x.sizes.conditions k k.table.root lawful named (subst (λ f. Unfixed f (x.sizes.conditions + x.sizes.conditions)) (sym is.free) tt) bs long is.offset
      ∙ ap (λ ls. over_states x.sizes.conditions (λ s. get_or ls (leaf_of x.sizes.conditions k.table.nodes.now k.table.root s) 0) bs) is.leaves
      ∙ ap (λ ns. over_states x.sizes.conditions (λ s. get_or x.lists.chances.now (leaf_of x.sizes.conditions ns k.table.root s) 0) bs) is.nodes
      ∙ ap (λ z. over_states x.sizes.conditions (λ s. get_or x.lists.chances.now (leaf_of x.sizes.conditions x.lists.chance_nodes.now z s) 0) bs) is.root
