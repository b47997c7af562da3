-- A visit that goes no deeper: at three leaves, and at a triple that the memo knows.
use Rattle.std.proofs.Common.{◌≡◌, ℕ, ◌+◌, ◌≤◌, Bool, List, [], length, take, Some, None, Option, sym, ap, ◌∙◌, subst, arith}
use Rattle.diagram.specs.declared.nodes.Node.{Node}
use Rattle.listing.specs.declared.listed.Listed.{Listed}
use Rattle.listing.specs.Listing.{counted, Stays, Interning}
use Rattle.reduction.specs.Listed.{Same, listed}
use Rattle.reduction.specs.Walk.{walk}
use Rattle.reduction.proofs.Interning.{listed_grown, grown_none}
use Rattle.sources.specs.declared.memo.Memo.{Memo}
use Rattle.sources.specs.declared.spot.Spot.{Spot}
use Rattle.sources.specs.declared.three.Sources.{Sources}
use Rattle.sources.specs.Memos.{recalled}
use Rattle.sources.specs.Spots.{levels, top}
use Rattle.sources.proofs.Visits.{Visit}
use Rattle.combine.specs.Tables.{Sound}
use Rattle.combine.specs.Remembered.{Remembers}
use Rattle.combine.specs.Working.{Working}
use Rattle.combine.proofs.Lasting.{Done, few}
use Rattle.combine.proofs.Memos.{recalls_known, remembers_grown}
use Rattle.combine.proofs.Nodes.{leaf_over, leaf_made, known_made}
use Rattle.combine.proofs.Walks.{walk_sound}

module _ {A B C X : Type 0} {i j : _} {eq : X → X → Bool} {S : Sources A B C} {f : ℕ → Spot → List Bool → X} {from : ℕ} {at : Spot} {leaves : Listed X i} {nodes : Listed Node j} {memo : Memo} (same : Same eq) (v : Visit S f from at)
    (w : Working eq S f leaves nodes memo) where
  abbrev n : ℕ
  n = S.conditions

  pub known_done : (r : ℕ) → Some r ≡ recalled memo.entries.now memo.stamp at → Done eq S f from at leaves leaves nodes nodes memo (Some r)
  known_done r e =
      record {
        visited =
            known_made same v (counted leaves) (counted nodes) w.sound (few leaves w.few_leaves) r
            (recalls_known eq S f memo.entries.now memo.stamp (counted leaves) (counted nodes) at r w.remembers memo.some e);
        working = w;
      }

  module _ (end : levels S ≡ top S at) {leaves' : Listed X i} (stays : Stays leaves leaves') where
    short : length leaves'.items.now ≤ 65535
    short = let few_leaves = w.few_leaves in let long = stays.items_length in omega arith

    abbrev leaf : X
    leaf = f (levels S) at []

    sound_listed : length (listed eq (counted leaves) leaf) ≤ 65536 → Sound eq n (listed eq (counted leaves) leaf) (counted nodes)
    unfolding walk
    sound_listed small = walk_sound eq same n 0 (n + n) (λ _. leaf) (counted leaves) (counted nodes) (omega arith) w.sound small

    -- the lists with the leaf listed
    working_in : (ls : List X) → counted leaves' ≡ ls → Sound eq n ls (counted nodes) → Remembers eq S f memo.entries.now memo.stamp ls (counted nodes) → Working eq S f leaves' nodes memo
    working_in ls e s m =
        record {
          few_leaves = short;
          few_nodes = w.few_nodes;
          sound = subst (λ z. Sound eq n z (counted nodes)) (sym e) s;
          remembers = subst (λ z. Remembers eq S f memo.entries.now memo.stamp z (counted nodes)) (sym e) m;
        }

    listed_done : (r : Option ℕ) → Interning eq leaves leaves' leaf r → Done eq S f from at leaves leaves' nodes nodes memo r
    listed_done None full =
        record {
          visited = leaf_over same v (counted leaves) (counted nodes) end (length leaves.items.now) (length nodes.items.now) (omega (arith, full.full));
          working = working_in (counted leaves) (ap (λ z. take leaves'.count z) full.kept ∙ ap (λ z. take z leaves.items.now) full.counts) w.sound w.remembers;
        }
    listed_done (Some r) is =
        let small : length (listed eq (counted leaves) leaf) ≤ 65536 = subst (λ z. length z ≤ 65536) is.listing (few leaves' short) in
        let s = sound_listed small in
        let grown = listed_grown eq same (counted leaves) leaf in
        record {
          visited = leaf_made same v (counted leaves) (counted nodes) end w.sound r (counted leaves') is.place is.listing (few leaves' short);
          working =
              working_in (listed eq (counted leaves) leaf) is.listing s
              (remembers_grown eq S f same (counted leaves) (listed eq (counted leaves) leaf) (counted nodes) (counted nodes) w.sound s (few leaves w.few_leaves) grown (grown_none (counted nodes)) memo.entries.now memo.stamp w.remembers);
        }

    pub leaf_done : {x : X} → x ≡ leaf → (r : Option ℕ) → Interning eq leaves leaves' x r → Done eq S f from at leaves leaves' nodes nodes memo r
    leaf_done e r put = listed_done r (subst (λ l. Interning eq leaves leaves' l r) e put)
