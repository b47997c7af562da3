-- A field of the file: a tag, the length of its body in two bytes, and the body. `rest` is the file from the field on.
--     tag, body_length, body       the parts of the field
--     whole rest                   the file goes on to the end of the field
--     known t                      t is one of the six tags
--     Numbered n r                 r is the tag with the number n, or says that n is no tag's
--     in_turn last t               t may follow the tag `last`, which is 0 before the first field: tags never fall, 1 comes first, 1 and 6 come once
--     right_length n m t k         k is a length that a body under t may have: some whole entries, or for the tags 1 and 6 just those there must be
--     shape_tests p last n m rest  what is tested of the field at place p before any entry is looked at
--     FieldAt p rest f             f is that field
use Rattle.std.specs.Prelude.{◌≡◌, ℕ, ◌+◌, ◌*◌, ◌%◌, Bool, true, false, cond, ◌&&◌, ◌||◌, List, [], ◌∷◌, length, take, drop, Result, MatchResult, ◌==◌, nat_le, nat_lt, slice_index}
use Rattle.faults.specs.declared.FileFault.{FileFault}
use Rattle.faults.specs.declared.FileFault.TheVariants.{CutShort, UnknownTag, OutOfTurn, BadLength}
use Rattle.faults.specs.Tests.{Test, test}
use Rattle.model_file.specs.declared.field.Field.{Field}
use Rattle.model_file.specs.declared.field.Field.TheVariants.{Sizes, Rewards, Chances, RewardNodes, ChanceNodes, Roots}
use Rattle.model_file.specs.declared.tag.Tag.{Tag}
use Rattle.model_file.specs.declared.tag.NoSuchTag.{NoSuchTag}
use Rattle.model_file.specs.Entries.{number}
use Rattle.model_file.specs.Tags.{code}

abbrev pub tag : List ℕ → ℕ
tag rest = slice_index rest 0

abbrev pub body_length : List ℕ → ℕ
body_length rest = number 2 rest 1

abbrev pub body : List ℕ → List ℕ
body rest = take (body_length rest) (drop 3 rest)

abbrev pub whole : List ℕ → Bool
whole rest = nat_le 3 (length rest) && nat_le (3 + body_length rest) (length rest)

abbrev pub known : ℕ → Bool
known t = nat_le 1 t && nat_le t 6

abbrev pub in_turn : ℕ → ℕ → Bool
in_turn last t = cond (last == 0) (t == 1) (nat_lt last t || (last == t && (nat_le 2 t && nat_le t 5)))

abbrev pub entry_width : ℕ → ℕ
entry_width t = cond (t == 2) 8 (cond (t == 3) 2 9)

abbrev pub right_length : ℕ → ℕ → ℕ → ℕ → Bool
right_length n m t k = cond (t == 1) (k == 4) (cond (t == 6) (k == 4 * (1 + m * n)) (nat_lt 0 k && k % entry_width t == 0))

-- r is the tag with the number n, or says that n is no tag's
abbrev pub Numbered : ℕ → Result Tag NoSuchTag → Type 0
Numbered n r = MatchResult r (λ t. (known n ≡ true) × (n ≡ code t)) (λ u. (known n ≡ false) × (n ≡ u.0))

abbrev pub tag_of : Field → ℕ
tag_of (Sizes b p) = 1
tag_of (Rewards b p) = 2
tag_of (Chances b p) = 3
tag_of (RewardNodes b p) = 4
tag_of (ChanceNodes b p) = 5
tag_of (Roots b p) = 6

abbrev pub body_of : Field → List ℕ
body_of (Sizes b p) = b.now
body_of (Rewards b p) = b.now
body_of (Chances b p) = b.now
body_of (RewardNodes b p) = b.now
body_of (ChanceNodes b p) = b.now
body_of (Roots b p) = b.now

abbrev pub place_of : Field → ℕ
place_of (Sizes b p) = p
place_of (Rewards b p) = p
place_of (Chances b p) = p
place_of (RewardNodes b p) = p
place_of (ChanceNodes b p) = p
place_of (Roots b p) = p

abbrev pub shape_tests : ℕ → ℕ → ℕ → ℕ → List ℕ → List (Test FileFault)
shape_tests p last n m rest =
    test (whole rest) (CutShort (tag rest) p)
    ∷ test (known (tag rest)) (UnknownTag (tag rest) p)
    ∷ test (in_turn last (tag rest)) (OutOfTurn (tag rest) p)
    ∷ test (right_length n m (tag rest) (body_length rest)) (BadLength (tag rest) p)
    ∷ []

pub record FieldAt (p : ℕ) (rest : List ℕ) (f : Field) : Type 0 where
  pub tagged : tag_of f ≡ tag rest
  pub holding : body_of f ≡ body rest
  pub placed : place_of f ≡ p
