-- A combination at work, and what it comes to. f k at is the combined function over the levels from k on, read from the three references `at`.
--     Working eq S f leaves nodes memo    the lists are short enough and so far sound, and the memo says right things of them
--     Lasts leaves leaves' nodes nodes' memo memo'     the same lent lists, and the same stamp
--     TooMany leaves nodes m    the table m has more leaves or more nodes than the lists have room for
--     Visited     the walk's table stands in the lists, at the root r; or it has more leaves or more nodes than may be counted
--     Combined    the reduced table of f stands in the lists, within their lengths; or it is larger than one of them
use Rattle.std.specs.Prelude.{◌≡◌, ℕ, ◌≤◌, Bool, List, length, Option, Result, MatchOption, MatchResult}
use Rattle.diagram.specs.declared.nodes.Node.{Node}
use Rattle.listing.specs.declared.listed.Listed.{Listed}
use Rattle.listing.specs.Listing.{counted, Stays}
use Rattle.reduction.specs.Walk.{Made, reduced}
use Rattle.sources.specs.declared.memo.Memo.{Memo}
use Rattle.sources.specs.declared.spot.Spot.{Spot}
use Rattle.sources.specs.declared.three.Sources.{Sources}
use Rattle.sources.specs.Carried.{Carried}
use Rattle.combine.specs.declared.combine.TooLarge.{TooLarge}
use Rattle.combine.specs.Tables.{made, walk_from, Over, Sound}
use Rattle.combine.specs.Remembered.{Remembers}

pub record Working {A B C X : Type 0} {i j : _} (eq : X → X → Bool) (S : Sources A B C) (f : ℕ → Spot → List Bool → X) (leaves : Listed X i) (nodes : Listed Node j) (memo : Memo) : Type 0 where
  pub few_leaves : length leaves.items.now ≤ 65535
  pub few_nodes : length nodes.items.now ≤ 65535
  pub sound : Sound eq S.conditions (counted leaves) (counted nodes)
  pub remembers : Remembers eq S f memo.entries.now memo.stamp (counted leaves) (counted nodes)

pub record Lasts {X : Type 0} {i j : _} (leaves leaves' : Listed X i) (nodes nodes' : Listed Node j) (memo memo' : Memo) : Type 0 where
  pub leaves_stay : Stays leaves leaves'
  pub nodes_stay : Stays nodes nodes'
  pub memo_stays : Carried memo memo'

-- the table m stands in the lists, at the root r
abbrev pub Standing : {X : Type 0} {i j : _} → Made X → Listed X i → Listed Node j → ℕ → Type 0
Standing m leaves nodes r = m ≡ made r (counted leaves) (counted nodes)

-- m has more leaves or more nodes than the lists have room for
abbrev pub TooMany : {X : Type 0} {i j : _} → Listed X i → Listed Node j → Made X → Type 0
TooMany leaves nodes m = Over (length leaves.items.now) (length nodes.items.now) m

abbrev pub Visited : {X : Type 0} {i j : _} → (X → X → Bool) → ℕ → ℕ → (List Bool → X) → Listed X i → Listed X i → Listed Node j → Listed Node j → Option ℕ → Type 0
Visited eq n k f leaves leaves' nodes nodes' r =
    let m = walk_from eq n k f (counted leaves) (counted nodes) in
    MatchOption r (TooMany leaves nodes m) (Standing m leaves' nodes')

pub record Fits {X : Type 0} {i j : _} (m : Made X) (leaves : Listed X i) (nodes : Listed Node j) (r : ℕ) : Type 0 where
  pub standing : Standing m leaves nodes r
  pub leaves_fit : leaves.count ≤ length leaves.items.now
  pub nodes_fit : nodes.count ≤ length nodes.items.now
  pub leaves_counted : length (counted leaves) ≡ leaves.count
  pub nodes_counted : length (counted nodes) ≡ nodes.count

abbrev pub Combined : {X : Type 0} {i j : _} → (X → X → Bool) → ℕ → (List Bool → X) → Listed X i → Listed Node j → Result ℕ TooLarge → Type 0
Combined eq n f leaves nodes r = MatchResult r (Fits (reduced eq n f) leaves nodes) (λ _. TooMany leaves nodes (reduced eq n f))
