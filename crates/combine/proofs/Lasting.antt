-- What a step of a combination leaves: the same lent lists, what they count still few, and the memo.
use Rattle.std.proofs.Common.{◌≡◌, ℕ, ◌≤◌, Bool, List, length, Option, sym, ap, subst, arith}
use Rattle.diagram.specs.declared.nodes.Node.{Node}
use Rattle.listing.specs.declared.listed.Listed.{Listed}
use Rattle.listing.specs.Listing.{counted, Stays}
use Rattle.reduction.specs.Walk.{Made}
use Rattle.listing.proofs.Counted.{counted_length}
use Rattle.sources.specs.declared.memo.Memo.{Memo}
use Rattle.sources.specs.declared.spot.Spot.{Spot}
use Rattle.sources.specs.declared.three.Sources.{Sources}
use Rattle.sources.specs.Carried.{Carried}
use Rattle.combine.specs.Remembered.{Remembers}
use Rattle.combine.specs.Tables.{Over}
use Rattle.combine.specs.Working.{Working, Visited, TooMany}

-- a visit that is done
pub record Done {A B C X : Type 0} {i j : _} (eq : X → X → Bool) (S : Sources A B C) (f : ℕ → Spot → List Bool → X) (from : ℕ) (at : Spot) (leaves leaves' : Listed X i) (nodes nodes' : Listed Node j) (memo : Memo) (r : Option ℕ) : Type 0 where
  pub visited : Visited eq S.conditions from (f from at) leaves leaves' nodes nodes' r
  pub working : Working eq S f leaves' nodes' memo

pub few : {X : Type 0} {i : _} (l : Listed X i) → length l.items.now ≤ 65535 → length (counted l) ≤ 65536
few l short = let e = counted_length l in let r = l.indexed.counted in omega arith

-- a table that is too large for the lists at a later step is too large for them at the earlier one
pub over_before : {X : Type 0} {i j : _} {l l' : Listed X i} {n n' : Listed Node j} (t : Made X) → Stays l l' → Stays n n' → TooMany l' n' t → TooMany l n t
over_before {l' = l'} {n = n} t p q o = subst (λ z. Over z (length n.items.now) t) p.items_length (subst (λ z. Over (length l'.items.now) z t) q.items_length o)

-- a memo with the same entries and the same stamp says the same
pub working_same : {A B C X : Type 0} {i j : _} {eq : X → X → Bool} {S : Sources A B C} {f : ℕ → Spot → List Bool → X} {l : Listed X i} {n : Listed Node j} {m m' : Memo} → m'.entries ≡ m.entries → Carried m m' → Working eq S f l n m → Working eq S f l n m'
working_same {eq = eq} {S = S} {f = f} {l = l} {n = n} {m = m} {m' = m'} same carried w =
    record {
      few_leaves = w.few_leaves;
      few_nodes = w.few_nodes;
      sound = w.sound;
      remembers =
          subst (λ z. Remembers eq S f z m'.stamp (counted l) (counted n)) (ap (λ e. e.now) (sym same))
          (subst (λ z. Remembers eq S f m.entries.now z (counted l) (counted n)) (sym carried.stamp) w.remembers);
    }
