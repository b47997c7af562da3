-- Which leaves of a list are within their limits.
--     leaf_is_within within blank leaves k    leaf k is within its limits; blank stands past the end of a list of leaves
use Rattle.std.specs.Prelude.{ℕ, Bool, List, slice_index_or}

abbrev pub leaf_is_within : {X : Type 0} → (X → Bool) → X → List X → ℕ → Bool
leaf_is_within within blank leaves k = within (slice_index_or leaves k blank)
