-- Whole-number arithmetic: a multiple, and a quotient rounded down or up, right below zero too.
--     k · z          k times z
--     floor d z      z ÷ d rounded down
--     ceiling d z    z ÷ d rounded up
--     divided a d    a ÷ d rounded up, where neither is negative
use Rattle.std.specs.Prelude.{ℕ, ◌+◌, ◌-◌, ◌/◌, ℤ, pos, negsuc, ◌*ℤ◌, neg_ℤ}

infixl 7 ◌·◌
unfoldable pub ◌·◌ : ℕ → ℤ → ℤ
k · z = pos k *ℤ z

abbrev pub floor : ℕ → ℤ → ℤ
floor d (pos a) = pos (a / d)
floor d (negsuc a) = negsuc (a / d)

abbrev pub ceiling : ℕ → ℤ → ℤ
ceiling d z = neg_ℤ (floor d (neg_ℤ z))

abbrev pub divided : ℕ → ℕ → ℕ
divided a d = (a + (d - 1)) / d
