-- A combination at its start: lists that count nothing, and a memo that remembers nothing.
use Rattle.std.proofs.Common.{◌≡◌, ℕ, ◌≤◌, Bool, List, length, ◌∙◌, arith}
use Rattle.std.proofs.lemmas.List.{length-take-le}
use Rattle.diagram.specs.declared.nodes.Node.{Node}
use Rattle.listing.specs.declared.listed.Listed.{Listed}
use Rattle.listing.specs.Listing.{counted}
use Rattle.sources.specs.declared.memo.Memo.{Memo}
use Rattle.sources.specs.declared.spot.Spot.{Spot}
use Rattle.sources.specs.declared.three.Sources.{Sources}
use Rattle.sources.specs.Memos.{Unused}
use Rattle.combine.specs.Tables.{Sound}
use Rattle.combine.specs.Working.{Working}
use Rattle.combine.proofs.Memos.{remembers_nothing}

-- lists that count nothing are sound
cleared_sound : {X : Type 0} {i j : _} (eq : X → X → Bool) (n : ℕ) (l : Listed X i) (ns : Listed Node j) → l.count ≡ 0 → ns.count ≡ 0 → Sound eq n (counted l) (counted ns)
cleared_sound eq n l ns e e' =
    let no_leaf : length (counted l) ≡ 0 = length-take-le l.count l.items.now (omega arith) ∙ e in
    let no_node : length (counted ns) ≡ 0 = length-take-le ns.count ns.items.now (omega arith) ∙ e' in
    record {
      lawful = λ j less. absurd (omega arith);
      leaves_once = λ i j d less h. absurd (omega arith);
      nodes_once = λ i j d less h. absurd (omega arith);
      parted = λ j less h. absurd (omega arith);
    }

pub working_from_nothing : {A B C X : Type 0} {i j : _} (eq : X → X → Bool) (S : Sources A B C) (f : ℕ → Spot → List Bool → X) (l : Listed X i) (ns : Listed Node j) (memo : Memo) →
    length l.items.now ≤ 65535 → length ns.items.now ≤ 65535 → l.count ≡ 0 → ns.count ≡ 0 → Unused memo.entries.now memo.stamp → Working eq S f l ns memo
working_from_nothing eq S f l ns memo few_leaves few_nodes e e' unused =
    record {
      few_leaves = few_leaves;
      few_nodes = few_nodes;
      sound = cleared_sound eq S.conditions l ns e e';
      remembers = remembers_nothing eq S f memo.entries.now memo.stamp (counted l) (counted ns) unused;
    }
