-- How far the input is read.
--     Advances old new r    where r names a file to load, fewer lines may still be read than before
use Rattle.std.specs.Prelude.{ℕ, ◌<◌, IfOk, IfSome, Option, Result}

abbrev pub Advances : {P E : Type 0} → ℕ → ℕ → Result (Option P) E → Type 0
Advances old new r = IfOk r (λ path. IfSome path (λ _. new < old))
