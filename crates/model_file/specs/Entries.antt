-- What the bytes of an entry mean, and the entries of a body.
--     number k bs i          the number of k bytes from place i on, its highest byte first
--     reward_of, chance_of, node_of, root_of    one entry, by its bytes
--     first_entries w f body k    the first k entries of a body, each of w bytes with the meaning f
--     entries w f body        all whole entries of a body
--     written xs old         a list after the entries xs are written from its start
--     Extends ys at l l'     l' is l with ys written after the first `at` entries
--     Appended               the same of all entries of a body, which fit, and their count
use Rattle.std.specs.Prelude.{◌≡◌, ℕ, zero, suc, ◌+◌, ◌*◌, ◌/◌, ◌^◌, true, List, ◌++◌, map, length, take, drop, ℤ, nat_le, slice_index}
use Rattle.std.specs.Int.{w64}
use Rattle.std.proofs.Common.{to_z}
use Rattle.std.specs.List.{range_with_len}
use Rattle.diagram.specs.declared.conditions.Condition.TheVariants.{Before}
use Rattle.diagram.specs.declared.nodes.Node.{Node}

abbrev pub number : ℕ → List ℕ → ℕ → ℕ
number zero bs i = 0
number (suc k) bs i = slice_index bs i * 256 ^ k + number k bs (suc i)

-- two's complement
abbrev pub reward_of : List ℕ → ℤ
reward_of bs = to_z w64 (number 8 bs 0)

abbrev pub chance_of : List ℕ → ℕ
chance_of bs = number 2 bs 0

abbrev pub node_of : List ℕ → Node
node_of bs = record { condition = Before (record { 0 = slice_index bs 0 }); one = number 4 bs 1; zero = number 4 bs 5 }

abbrev pub root_of : List ℕ → ℕ
root_of bs = number 4 bs 0

abbrev pub bytes_of : ℕ → List ℕ → ℕ → List ℕ
bytes_of w body j = take w (drop (j * w) body)

abbrev pub first_entries : {X : Type 0} → ℕ → (List ℕ → X) → List ℕ → ℕ → List X
first_entries w f body k = map (λ j. f (bytes_of w body j)) (range_with_len 0 k)

abbrev pub entries : {X : Type 0} → ℕ → (List ℕ → X) → List ℕ → List X
entries w f body = first_entries w f body (length body / w)

abbrev pub written : {X : Type 0} → List X → List X → List X
written xs old = xs ++ drop (length xs) old

abbrev pub Extends : {X : Type 0} → List X → ℕ → List X → List X → Type 0
Extends ys at l l' = (xs old : List _) → length xs ≡ at → l ≡ written xs old → l' ≡ written (xs ++ ys) old

pub record Appended {X : Type 0} (w : ℕ) (f : List ℕ → X) (body : List ℕ) (at : ℕ) (l l' : List X) (count : ℕ) : Type 0 where
  pub fits : nat_le (at + length body / w) (length l) ≡ true
  pub extends : Extends (entries w f body) at l l'
  pub counted : count ≡ at + length body / w
