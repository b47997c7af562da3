-- A walk over the whole chunks of a body: the next chunk, and where the walk ends.
use Rattle.std.proofs.Common.{◌≡◌, ℕ, ◌+◌, ◌-◌, ◌*◌, ◌/◌, ◌<◌, ◌≤◌, List, ◌++◌, length, take, drop, sym, ap, ◌∙◌, add-mul, arith, length-append, length-drop}
use Rattle.std.proofs.Math.Seq.{take-append_seam, drop-append_seam}
use Rattle.std.proofs.lemmas.List.{drop-drop}
use Rattle.std.proofs.lemmas.Nat.{le-div, div-mul-add}
use Rattle.model_file.specs.Entries.{bytes_of}

-- j chunks of w bytes are gone by, and `rest` is left
pub record AtChunk (w j size : ℕ) (body rest : List ℕ) : Type 0 where
  pub sized : size ≡ w
  pub left : rest ≡ drop (j * w) body
  pub within : j * w ≤ length body

module _ (w j size : ℕ) (body rest : List ℕ) (at : AtChunk w j size body rest) where
  pub chunk_next : (chunk more : List ℕ) (j' size' : ℕ) → 0 < w → rest ≡ chunk ++ more → length chunk ≡ size → j' ≡ j + 1 → size' ≡ size →
      (chunk ≡ bytes_of w body j) × (j < length body / w) × AtChunk w j' size' body more
  chunk_next chunk more j' size' some cut long next same =
      let is : length chunk ≡ w = long ∙ at.sized in
      let front : drop (j * w) body ≡ chunk ++ more = sym at.left ∙ cut in
      let both : length body - j * w ≡ w + length more = sym (length-drop (j * w) body) ∙ ap length front ∙ length-append chunk more ∙ ap (λ n. n + length more) is in
      let up : j * w + w ≡ j' * w = sym (ap (λ k. k * w) next ∙ omega (arith, add-mul j 1 w)) in
      let within : j' * w ≤ length body = omega (arith, at.within, both, up) in
      let taken : bytes_of w body j ≡ chunk = ap (take w) front ∙ ap (λ k. take k (chunk ++ more)) (sym is) ∙ take-append_seam chunk more in
      let onto : drop (j * w + w) body ≡ more = sym (drop-drop w (j * w) body) ∙ ap (drop w) front ∙ ap (λ k. drop k (chunk ++ more)) (sym is) ∙ drop-append_seam chunk more in
      (sym taken, omega (arith, next, le-div j' (length body) w some within), record { sized = same ∙ at.sized; left = sym onto ∙ ap (λ k. drop k body) up; within = within })

  pub chunk_last : length rest < size → length body / w ≡ j
  chunk_last short =
      let long : length rest ≡ length body - j * w = ap length at.left ∙ length-drop (j * w) body in
      let whole : length body ≡ j * w + (length body - j * w) = omega (arith, at.within) in
      ap (λ n. n / w) whole ∙ div-mul-add j w (length body - j * w) (omega (arith, at.sized, short, long))
