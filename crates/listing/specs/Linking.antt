-- Two references linked in a lent list of nodes.
--     bare r ns                     a table of the nodes ns and the root r, with no leaves: linking looks at none
--     linked n k r₁ r₀ l            the nodes of l with r₁ and r₀ linked at level k, and the root that this comes to
--     Linking n k r₁ r₀ l l' r      l' has these nodes and r is that root; or there would be one node too many
use Rattle.std.specs.Prelude.{◌≡◌, ℕ, suc, ◌^◌, ◌<◌, List, [], length, Option, MatchOption}
use Rattle.diagram.specs.declared.nodes.Node.{Node}
use Rattle.listing.specs.declared.listed.Listed.{Listed}
use Rattle.reduction.specs.Walk.{Made, link}
use Rattle.listing.specs.Listing.{counted}

abbrev pub bare : ℕ → List Node → Made ℕ
bare r ns = record { root = r; leaves = []; nodes = ns }

abbrev pub linked : {i : _} → ℕ → ℕ → ℕ → ℕ → Listed Node i → Made ℕ
linked n k r₁ r₀ l = link n k r₁ (bare r₀ (counted l))

pub record Links {i : _} (n k r₁ r₀ : ℕ) (l l' : Listed Node i) (r : ℕ) : Type 0 where
  pub made : linked n k r₁ r₀ l ≡ bare r (counted l')
  pub counts : l'.count ≡ length (linked n k r₁ r₀ l).nodes
  pub small : r < 2 ^ 32

pub record Unlinked {i : _} (n k r₁ r₀ : ℕ) (l l' : Listed Node i) : Type 0 where
  pub full : length (linked n k r₁ r₀ l).nodes ≡ suc (length l.items.now)
  pub kept : l'.items.now ≡ l.items.now
  pub counts : l'.count ≡ l.count

abbrev pub Linking : {i : _} → ℕ → ℕ → ℕ → ℕ → Listed Node i → Listed Node i → Option ℕ → Type 0
Linking n k r₁ r₀ l l' r = MatchOption r (Unlinked n k r₁ r₀ l l') (Links n k r₁ r₀ l l')
