-- Conditions by their level, and when two nodes are the same.
use Rattle.std.proofs.Common.{◌≡◌, ℕ, ◌+◌, ◌-◌, ◌<◌, true, ltb, List, refl, arith}
use Rattle.std.proofs.lemmas.Bool.{cond_both, and_parts, and_from, eqb-true, eq-eqb, ltb-true, ltb-false, lt-ltb, false≢true}
use Rattle.diagram.specs.declared.conditions.Condition.{Condition}
use Rattle.diagram.specs.declared.conditions.Condition.TheVariants.{Before, After}
use Rattle.diagram.specs.declared.nodes.Node.{Node}
use Rattle.diagram.specs.Lawful.{node_at, Lawful}
use Rattle.diagram.specs.Order.{level, exists, states}
use Rattle.reduction.specs.Listed.{Same}
use Rattle.reduction.specs.Walk.{condition_at, same_condition, same_node}
use Rattle.reduction.specs.Canonical.{both}

pub level_at : (n k : ℕ) → level n (condition_at n k) ≡ k
level_at n k = cond_both (ltb k n) (After (record { 0 = k })) (Before (record { 0 = k - n })) (λ c. level n c ≡ k) (λ _. refl) (λ no. omega (arith, ltb-false k n no))

pub exists_at : (n k : ℕ) → k < n + n → exists (both n) (condition_at n k) ≡ true
exists_at n k h =
    cond_both (ltb k n) (After (record { 0 = k })) (Before (record { 0 = k - n })) (λ c. exists (both n) c ≡ true) (λ yes. yes) (λ no. lt-ltb (k - n) n (omega (arith, ltb-false k n no)))

pub level_below : (n : ℕ) (c : Condition) → exists (both n) c ≡ true → level n c < n + n
level_below n (Before b) h = omega (arith, ltb-true b.0 n h)
level_below n (After a) h = omega (arith, ltb-true a.0 n h)

condition_means : (x y : Condition) → same_condition x y ≡ true → x ≡ y
condition_means (Before a) (Before b) h = let e = eqb-true a.0 b.0 h in λ i. Before (record { 0 = e i })
condition_means (Before a) (After b) h = absurd (false≢true h)
condition_means (After a) (Before b) h = absurd (false≢true h)
condition_means (After a) (After b) h = let e = eqb-true a.0 b.0 h in λ i. After (record { 0 = e i })

condition_self : (x : Condition) → same_condition x x ≡ true
condition_self (Before a) = eq-eqb a.0 a.0 refl
condition_self (After a) = eq-eqb a.0 a.0 refl

pub node_sameness : Same same_node
node_sameness =
    record {
      means = λ x y h.
          let p = and_parts _ _ h in
          let q = and_parts _ _ p.1 in
          let c = condition_means x.condition y.condition p.0 in
          let a = eqb-true x.one y.one q.0 in
          let b = eqb-true x.zero y.zero q.1 in
          λ i. record { condition = c i; one = a i; zero = b i };
      self = λ x. and_from _ _ (condition_self x.condition) (and_from _ _ (eq-eqb x.one x.one refl) (eq-eqb x.zero x.zero refl));
    }

exists_both : (n : ℕ) (c : Condition) → exists (states n) c ≡ true → exists (both n) c ≡ true
exists_both n (Before b) h = h
exists_both n (After a) h = absurd (false≢true h)

-- a list of nodes that is lawful over states is lawful over a move too
pub states_both : (n leaves : ℕ) (ns : List Node) → Lawful (states n) leaves ns → Lawful (both n) leaves ns
states_both n leaves ns lawful j less = let p = and_parts _ _ (lawful j less) in and_from _ _ (exists_both n (node_at ns j).condition p.0) p.1
