-- Mapping the leaves of a function makes its reduced table no larger.
--     NoLarger m' m               the table m' has no more leaves and no more nodes than m
--     MappingNeverGrows eq eq'    of a function whose table has at most 65,536 leaves, the table after any map of its leaves is no larger
use Rattle.std.specs.Prelude.{ℕ, ◌≤◌, Bool, List, length}
use Rattle.reduction.specs.Walk.{Made, reduced}

pub record NoLarger {X Y : Type 0} (m' : Made Y) (m : Made X) : Type 0 where
  pub leaves : length m'.leaves ≤ length m.leaves
  pub nodes : length m'.nodes ≤ length m.nodes

abbrev pub MappingNeverGrows : {X Y : Type 0} → (X → X → Bool) → (Y → Y → Bool) → Type 0
MappingNeverGrows {X} {Y} eq eq' = (n : ℕ) (f : List Bool → X) (g : X → Y) → length (reduced eq n f).leaves ≤ 65536 → NoLarger (reduced eq' n (λ bs. g (f bs))) (reduced eq n f)
