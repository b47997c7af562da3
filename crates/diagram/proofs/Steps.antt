-- How a table is read: a level that a reference does not test is passed over, a node leads where its branch leads, a leaf to itself.
use Rattle.std.proofs.Common.{◌≡◌, ℕ, suc, ◌+◌, ◌-◌, ◌<◌, ◌≤◌, Bool, true, false, List, [], ◌∷◌, ◌++◌, length, sym, refl, ap, ◌∙◌, subst, ⊎_elim, append_assoc, append-nil, add-zero, zero-add, arith}
use Rattle.std.proofs.lemmas.List.{length_push}
use Rattle.std.proofs.lemmas.Bool.Decides.{nat_tests}
use Rattle.std.proofs.lemmas.Bool.{false≢true, and_parts, and_from, cases_lt, cond-false, cond-true, ne_eqb, and_right, and_left, lt-leb, le-leb, eq-eqb, ltb-true, le-ltb}
use Rattle.diagram.specs.declared.conditions.Condition.{Condition}
use Rattle.diagram.specs.declared.conditions.Condition.TheVariants.{Before, After}
use Rattle.diagram.specs.declared.nodes.Node.{Node}
use Rattle.diagram.specs.Lawful.{node_at, named, names, later, branch_is_lawful, Lawful}
use Rattle.diagram.specs.Order.{level, exists, states}
use Rattle.diagram.specs.Reads.{branch, tests, descend, reach, leaf_of, value_in}
use Rattle.diagram.specs.States.{bit, bits_from}
use Rattle.diagram.proofs.Bits.{length_bits, bits_split}

module _ (n : ℕ) (nodes : List Node) where
  -- r tests no level from k up to, but not including, e
  abbrev pub Quiet : ℕ → ℕ → ℕ → Type 0
  Quiet k e r = (j : ℕ) → k ≤ j → j < e → tests n nodes j r ≡ false

  pub reach_skip : (bs cs : List Bool) (k r : ℕ) → Quiet k (k + length bs) r → reach n nodes k (bs ++ cs) r ≡ reach n nodes (k + length bs) cs r
  unfolding reach
  reach_skip [] cs k r q = rw add-zero
  reach_skip (b ∷ bs) cs k r q =
      let stays : descend n nodes k b r ≡ r = cond-false _ _ _ (q k (omega arith) (omega arith)) in
      ap (λ x. reach n nodes (suc k) (bs ++ cs) x) stays ∙ reach_skip bs cs (suc k) r (λ j l h. q j (omega arith) (omega arith)) ∙ ap (λ e. reach n nodes e cs r) (omega arith)

  -- a leaf tests nothing
  pub leaf_quiet : (k e r : ℕ) → r < 65536 → Quiet k e r
  leaf_quiet k e r leaf j l h = and_left _ _ (lt-leb _ _ leaf)

  -- a node tests its own level and no other
  pub node_quiet : (k e r : ℕ) → e ≤ level n (named nodes r).condition → Quiet k e r
  node_quiet k e r above j l h =
      and_right _ _ (ne_eqb _ _ (λ (same : level n (named nodes r).condition ≡ j). absurd (omega arith)))

  pub later_quiet : (c : Condition) (k r : ℕ) → later n nodes c r ≡ true → Quiet k (suc (level n c)) r
  later_quiet c k r lies =
      ⊎_elim (λ leaf. leaf_quiet k _ r leaf)
      (λ node. node_quiet k _ r (ltb-true _ _ (sym (cond-false _ _ _ (le-ltb _ _ node)) ∙ lies)))
      (cases_lt r 65536)

  -- in a state, a node that tests condition i leads where its branch for that bit leads
  pub reach_node : (i m s r : ℕ) (b : Condition) → n ≡ i + suc m → 65536 ≤ r → (named nodes r).condition ≡ b → level n b ≡ n + i →
      later n nodes b (branch (bit i s) (named nodes r)) ≡ true → leaf_of n nodes r s ≡ leaf_of n nodes (branch (bit i s) (named nodes r)) s
  unfolding reach
  reach_node i m s r b split node is stands lies =
      let next = branch (bit i s) (named nodes r) in
      let A = bits_from 0 i s in
      let C = bits_from (suc i) m s in
      let long : length A ≡ i = length_bits 0 i s in
      let cut : bits_from 0 n s ≡ A ++ (bit i s ∷ C) = ap (λ z. bits_from 0 z s) split ∙ bits_split 0 i (suc m) s ∙ ap (λ z. A ++ bits_from z (suc m) s) (zero-add i) in
      let own : level n (named nodes r).condition ≡ n + i = ap (level n) is ∙ stands in
      let down : descend n nodes (n + length A) (bit i s) r ≡ next = cond-true _ _ _ (and_from _ _ (le-leb _ _ node) (eq-eqb _ _ (omega arith))) in
      let lead : reach n nodes n (A ++ (bit i s ∷ C)) r ≡ reach n nodes (suc (n + length A)) C next =
      reach_skip A (bit i s ∷ C) n r (node_quiet n _ r (omega arith)) ∙ ap (reach n nodes (suc (n + length A)) C) down in
      let more : length (A ++ (bit i s ∷ [])) ≡ suc i = length_push A (bit i s) ∙ omega arith in
      let quiet : Quiet n (n + length (A ++ (bit i s ∷ []))) next = λ j l h. later_quiet b n next lies j l (omega (arith, more, stands)) in
      let back : reach n nodes n ((A ++ (bit i s ∷ [])) ++ C) next ≡ reach n nodes (n + length (A ++ (bit i s ∷ []))) C next = reach_skip (A ++ (bit i s ∷ [])) C n next quiet in
      let same : suc (n + length A) ≡ n + length (A ++ (bit i s ∷ [])) = omega (arith, more) in
      let whole : bits_from 0 n s ≡ (A ++ (bit i s ∷ [])) ++ C = cut ∙ sym (append_assoc A (bit i s ∷ []) C) in
      ap (λ bs. reach n nodes n bs r) cut ∙ lead ∙ ap (λ e. reach n nodes e C next) same ∙ sym back ∙ sym (ap (λ bs. reach n nodes n bs next) whole)

  pub reach_leaf : (s r : ℕ) → r < 65536 → leaf_of n nodes r s ≡ r
  unfolding reach
  reach_leaf s r leaf = ap (λ bs. reach n nodes n bs r) (sym (append-nil (bits_from 0 n s))) ∙ reach_skip (bits_from 0 n s) [] n r (leaf_quiet n _ r leaf)

-- in a table over states, where a node leads, and that it leads to an earlier node or to a leaf
pub record Follows (n leaves : ℕ) (nodes : List Node) (s r next : ℕ) : Type 0 where
  pub counted : names leaves (length nodes) next ≡ true
  pub earlier : next < r
  pub same : leaf_of n nodes next s ≡ leaf_of n nodes r s

pub earlier_names : (leaves j k r : ℕ) → j ≤ k → names leaves j r ≡ true → (names leaves k r ≡ true) × (65536 ≤ r → r < 65536 + j)
earlier_names leaves j k r le h = grind (arith, nat_tests)

-- what is lawful in a node that tests condition i of n
follow_before : (n leaves : ℕ) (nodes : List Node) (s r i : ℕ) (b : Condition) → (named nodes r).condition ≡ b → level n b ≡ n + i → i < n → 65536 ≤ r → r - 65536 < length nodes →
    ((v : Bool) → branch_is_lawful (states n) leaves nodes (r - 65536) (branch v (named nodes r)) ≡ true) → Follows n leaves nodes s r (branch (bit i s) (named nodes r))
follow_before n leaves nodes s r i b is stands inside node within lawful =
    let both = and_parts _ _ (lawful (bit i s)) in
    let lies : later n nodes b (branch (bit i s) (named nodes r)) ≡ true = subst (λ c. later n nodes c (branch (bit i s) (named nodes r)) ≡ true) is both.1 in
    let early = earlier_names leaves (r - 65536) (length nodes) (branch (bit i s) (named nodes r)) (omega arith) both.0 in
    record {
      counted = early.0;
      earlier = ⊎_elim (λ leaf. omega arith) (λ node'. omega (arith, early.1 node')) (cases_lt (branch (bit i s) (named nodes r)) 65536);
      same = sym (reach_node n nodes i (n - suc i) s r b (omega arith) node is stands lies);
    }

follow_case : (n leaves : ℕ) (nodes : List Node) (s r : ℕ) (c : Condition) → (named nodes r).condition ≡ c → exists (states n) c ≡ true → 65536 ≤ r → r - 65536 < length nodes →
    ((v : Bool) → branch_is_lawful (states n) leaves nodes (r - 65536) (branch v (named nodes r)) ≡ true) → Follows n leaves nodes s r (branch (value_in s c) (named nodes r))
follow_case n leaves nodes s r (Before b) is there node within lawful =
    follow_before n leaves nodes s r b.0 (Before b) is refl (ltb-true _ _ there) node within lawful
follow_case n leaves nodes s r (After a) is there node within lawful = absurd (false≢true there)

pub follow : (n leaves : ℕ) (nodes : List Node) (s r : ℕ) → Lawful (states n) leaves nodes → names leaves (length nodes) r ≡ true → 65536 ≤ r →
    Follows n leaves nodes s r (branch (value_in s (named nodes r).condition) (named nodes r))
follow n leaves nodes s r lawful counted node =
    let within : r - 65536 < length nodes = ltb-true _ _ (sym (cond-false _ _ _ (le-ltb _ _ node)) ∙ counted) in
    let parts = and_parts _ _ (lawful (r - 65536) within) in
    let both = and_parts _ _ parts.1 in
    follow_case n leaves nodes s r (named nodes r).condition refl parts.0 node within (λ v. elim v as (λ w. branch_is_lawful (states n) leaves nodes (r - 65536) (branch w (named nodes r)) ≡ true) [ true ↦ both.0 | false ↦ both.1 ])

-- the same from node j, which the reference r names
pub follow_at : (n leaves : ℕ) (nodes : List Node) (s r j next : ℕ) → Lawful (states n) leaves nodes → names leaves (length nodes) r ≡ true → r ≡ 65536 + j →
    next ≡ branch (value_in s (node_at nodes j).condition) (node_at nodes j) → Follows n leaves nodes s r next
follow_at n leaves nodes s r j next lawful named at is =
    let gap : r - 65536 ≡ j = omega arith in
    subst (Follows n leaves nodes s r) (ap (λ i. branch (value_in s (node_at nodes i).condition) (node_at nodes i)) gap ∙ sym is) (follow n leaves nodes s r lawful named (omega arith))
