-- A lawful list of nodes is readable as one of the diagrams that are read together.
use Rattle.std.proofs.Common.{◌≡◌, ℕ, ◌+◌, ◌-◌, ◌<◌, Bool, true, length, sym, ◌∙◌, subst, ⊎_elim, arith}
use Rattle.std.proofs.lemmas.Bool.{cond-true, cond-false, cases_lt, and_parts, lt-ltb, le-ltb, ltb-true, false≢true}
use Rattle.diagram.specs.declared.conditions.Condition.{Condition}
use Rattle.diagram.specs.declared.conditions.Condition.TheVariants.{Before, After}
use Rattle.diagram.specs.declared.conditions.Domain.{Domain}
use Rattle.diagram.specs.Lawful.{node_at, named, branch_is_lawful, Lawful}
use Rattle.diagram.specs.Order.{level, exists, states}
use Rattle.reduction.proofs.Growth.{node_within}
use Rattle.sources.specs.declared.input.Input.{Input}
use Rattle.sources.specs.Inputs.{Branches, Readable}

-- the levels as the diagram is read: all below `levels`, and in the order of the domain
pub record Placed (d : Domain) (offset levels : ℕ) : Type 0 where
  pub inside : (c : Condition) → exists d c ≡ true → level offset c < levels
  pub order : (c c' : Condition) → exists d c ≡ true → exists d c' ≡ true → level d.conditions c < level d.conditions c' → level offset c < level offset c'

module _ {X : Type 0} (i : Input X) (d : Domain) (lawful : Lawful d (length i.table.leaves.now) i.table.nodes.now) where
  tested : (j : ℕ) → j < length i.table.nodes.now → exists d (node_at i.table.nodes.now j).condition ≡ true
  tested j l = (and_parts _ _ (lawful j l)).0

  abbrev is_branch : ℕ → ℕ → Bool
  is_branch j r = branch_is_lawful d (length i.table.leaves.now) i.table.nodes.now j r

  lawful_branches : (j : ℕ) → j < length i.table.nodes.now → (is_branch j (node_at i.table.nodes.now j).one ≡ true) × (is_branch j (node_at i.table.nodes.now j).zero ≡ true)
  lawful_branches j l = and_parts _ _ (and_parts (exists d (node_at i.table.nodes.now j).condition) _ (lawful j l)).1

  module _ (levels : ℕ) (placed : Placed d i.offset levels) where
    branches : (j r : ℕ) → j < length i.table.nodes.now → is_branch j r ≡ true → Branches i j r
    branches j r l h =
        let p = and_parts _ _ h in
        record {
          earlier = p.0;
          deeper =
              ⊎_elim (λ small. cond-true _ _ _ (lt-ltb _ _ small))
              (λ large.
              let w = node_within (length i.table.leaves.now) j r p.0 large in
              let deep = ltb-true _ _ (sym (cond-false _ _ _ (le-ltb _ _ large)) ∙ p.1) in
              cond-false _ _ _ (le-ltb _ _ large) ∙ lt-ltb _ _ (placed.order (node_at i.table.nodes.now j).condition (named i.table.nodes.now r).condition (tested j l) (tested (r - 65536) (omega arith)) deep))
              (cases_lt r 65536);
        }

    pub readable : Readable i levels
    readable =
        record {
          inside = λ j l. placed.inside (node_at i.table.nodes.now j).condition (tested j l);
          one = λ j l. branches j _ l (lawful_branches j l).0;
          zero = λ j l. branches j _ l (lawful_branches j l).1;
        }

-- read over the domain's own levels
placed_own : (d : Domain) → Placed d d.conditions (d.conditions + d.conditions)
placed_own d = record { inside = below; order = λ c c' e e' l. l }
  where
    below : (c : Condition) → exists d c ≡ true → level d.conditions c < d.conditions + d.conditions
    below (Before b) e = omega (arith, ltb-true _ _ e)
    below (After a) e = omega (arith, ltb-true _ _ (and_parts d.after _ e).1)

-- a table over states read over the levels of the conditions after a move
placed_after : (n : ℕ) → Placed (states n) 0 (n + n)
placed_after n = record { inside = below; order = before }
  where
    below : (c : Condition) → exists (states n) c ≡ true → level 0 c < n + n
    below (Before b) e = omega (arith, ltb-true _ _ e)
    below (After a) e = absurd (false≢true e)

    before : (c c' : Condition) → exists (states n) c ≡ true → exists (states n) c' ≡ true → level n c < level n c' → level 0 c < level 0 c'
    before (Before b) (Before b') e e' l = omega arith
    before (Before b) (After a') e e' l = absurd (false≢true e')
    before (After a) c' e e' l = absurd (false≢true e)

pub readable_own : {X : Type 0} (i : Input X) (d : Domain) → i.offset ≡ d.conditions → Lawful d (length i.table.leaves.now) i.table.nodes.now → Readable i (d.conditions + d.conditions)
readable_own i d at lawful = readable i d lawful (d.conditions + d.conditions) (subst (λ o. Placed d o (d.conditions + d.conditions)) (sym at) (placed_own d))

pub readable_after : {X : Type 0} (i : Input X) (n : ℕ) → i.offset ≡ 0 → Lawful (states n) (length i.table.leaves.now) i.table.nodes.now → Readable i (n + n)
readable_after i n at lawful = readable i (states n) lawful (n + n) (subst (λ o. Placed (states n) o (n + n)) (sym at) (placed_after n))
