-- A lent list before and after a thing is looked for or listed.
--     counted l                   the things that the list l counts
--     Stays l l'                  l' is in the same lent lists as l
--     Found eq l x r              r is the place at which x stands in l, or none
--     Interning eq l l' x r       l' is l with x listed, at the place r; or x would be one too many
use Rattle.std.specs.Prelude.{◌≡◌, ℕ, suc, ◌<◌, Bool, List, length, take, Option, MatchOption}
use Rattle.listing.specs.declared.listed.Listed.{Listed}
use Rattle.listing.specs.Hashing.{FoundAmong}
use Rattle.reduction.specs.Listed.{index, listed}

abbrev pub counted : {X : Type 0} {i : _} → Listed X i → List X
counted l = take l.count l.items.now

pub record Stays {X : Type 0} {i : _} (l l' : Listed X i) : Type 0 where
  pub items : l'.items.ghost_name ≡ l.items.ghost_name
  pub heads : l'.heads.ghost_name ≡ l.heads.ghost_name
  pub next : l'.next.ghost_name ≡ l.next.ghost_name
  pub items_length : length l'.items.now ≡ length l.items.now
  pub heads_length : length l'.heads.now ≡ length l.heads.now
  pub next_length : length l'.next.now ≡ length l.next.now

abbrev pub Found : {X : Type 0} {i : _} → (X → X → Bool) → Listed X i → X → Option ℕ → Type 0
Found eq l x r = FoundAmong eq l.items.now l.count x r

-- what listing x comes to: its place and the longer list, or none where the list has no place left for it
pub record Interns {X : Type 0} {i : _} (eq : X → X → Bool) (l l' : Listed X i) (x : X) (at : ℕ) : Type 0 where
  pub within : at < l'.count
  pub place : at ≡ index eq (counted l) x
  pub listing : counted l' ≡ listed eq (counted l) x
  pub counts : l'.count ≡ length (listed eq (counted l) x)

pub record Overfull {X : Type 0} {i : _} (eq : X → X → Bool) (l l' : Listed X i) (x : X) : Type 0 where
  pub full : length (listed eq (counted l) x) ≡ suc (length l.items.now)
  pub kept : l'.items.now ≡ l.items.now
  pub counts : l'.count ≡ l.count

abbrev pub Interning : {X : Type 0} {i : _} → (X → X → Bool) → Listed X i → Listed X i → X → Option ℕ → Type 0
Interning eq l l' x r = MatchOption r (Overfull eq l l' x) (Interns eq l l' x)
