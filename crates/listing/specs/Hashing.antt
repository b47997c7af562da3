-- The hash index of a list in which each thing stands once. A number in the index is 0 for none, or one more than a place in the list.
--     bucket_of digest buckets xs blank i    the bucket of the thing at place i
--     last of b c                            one more than the last place below c whose bucket is b, or 0
--     current of b count h                   h names a counted place of the bucket b
--     cleaned of b count h                   h where it is current, else 0. So nothing need be cleared
--     FoundAmong eq xs count x r              r is the place at which x stands among the first `count` of xs, or none
--     Indexed                                heads lead to the last place of each bucket, links to the last before, and no two counted things are the same
use Rattle.std.specs.Prelude.{◌≡◌, ℕ, zero, suc, ◌-◌, ◌%◌, ◌^◌, ◌<◌, ◌≤◌, Bool, false, cond, ◌&&◌, List, length, take, Option, MatchOption, ◌==◌, nat_le, nat_lt, slice_index, slice_index_or}
use Rattle.reduction.specs.Listed.{index}

abbrev pub bucket_of : {X : Type 0} → (X → ℕ) → ℕ → List X → X → ℕ → ℕ
bucket_of digest buckets xs blank i = digest (slice_index_or xs i blank) % buckets

abbrev pub last : (ℕ → ℕ) → ℕ → ℕ → ℕ
last of b zero = 0
last of b (suc c) = cond (of c == b) (suc c) (last of b c)

abbrev pub current : (ℕ → ℕ) → ℕ → ℕ → ℕ → Bool
current of b count h = nat_lt 0 h && (nat_le h count && of (h - 1) == b)

abbrev pub cleaned : (ℕ → ℕ) → ℕ → ℕ → ℕ → ℕ
cleaned of b count h = cond (current of b count h) h 0

pub record Indexed {X : Type 0} (eq : X → X → Bool) (digest : X → ℕ) (blank : X) (xs : List X) (count : ℕ) (heads next : List ℕ) : Type 0 where
  pub counted : count ≤ length xs
  pub small : length xs < 2 ^ 32
  pub some : 0 < length heads
  pub long : length xs ≤ length next
  pub head : (b : ℕ) → b < length heads → cleaned (bucket_of digest (length heads) xs blank) b count (slice_index heads b) ≡ last (bucket_of digest (length heads) xs blank) b count
  pub link : (i : ℕ) → i < count → slice_index next i ≡ last (bucket_of digest (length heads) xs blank) (bucket_of digest (length heads) xs blank i) i
  pub apart : (i j : ℕ) → i < j → j < count → eq (slice_index_or xs i blank) (slice_index_or xs j blank) ≡ false

abbrev pub FoundAmong : {X : Type 0} → (X → X → Bool) → List X → ℕ → X → Option ℕ → Type 0
FoundAmong eq xs count x r = MatchOption r (index eq (take count xs) x ≡ count) (λ i. (i < count) × (index eq (take count xs) x ≡ i))
