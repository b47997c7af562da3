-- The sizes of a model, as they are printed: each after its name.
use Rattle.std.specs.Prelude.{ℕ, List, ◌++◌, codes, decimal}
use Rattle.model_file.specs.declared.sizes.Sizes.{Sizes}

abbrev pub shown : Sizes → List ℕ
shown s = codes "conditions " ++ (decimal s.conditions ++ (codes " moves " ++ (decimal s.moves ++ (codes " discount " ++ decimal s.discount))))
