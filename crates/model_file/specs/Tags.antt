-- Tags and their numbers in the file.
--     code t          the number of the tag t
--     last_code o     the number of the last tag, or 0 before the first field
use Rattle.std.specs.Prelude.{ℕ, Some, None, Option}
use Rattle.model_file.specs.declared.tag.Tag.{Tag}
use Rattle.model_file.specs.declared.tag.Tag.TheVariants.{Sizes, Rewards, Chances, RewardNodes, ChanceNodes, Roots}

abbrev pub code : Tag → ℕ
code Sizes = 1
code Rewards = 2
code Chances = 3
code RewardNodes = 4
code ChanceNodes = 5
code Roots = 6

abbrev pub last_code : Option Tag → ℕ
last_code None = 0
last_code (Some t) = code t
