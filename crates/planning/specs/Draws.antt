-- The figures of a draw, all at least 0.
--     over z                     z where it is above 0, else 0
--     most M f                   the greatest of f over all states, or 0
--     spread, rise, fall, tail   with [l, u] a state's range and [l', u'] its range in the advice: the most that u' - l', that u' - u, that l - l' comes to; and R - u and l - R, added
--     Draw                       a table of moves with its figures
--     IsDraw M V d               d is the draw from the ranges V
use Rattle.std.specs.Prelude.{◌≡◌, ℕ, zero, suc, ◌+◌, ◌^◌, max, ℤ, pos, negsuc, ◌-ℤ◌}
use Rattle.ranges.specs.declared.ends.Ends.{Ends}
use Rattle.ranges.specs.Ranges.{loss}
use Rattle.planning.specs.Models.{Model, IsState}
use Rattle.planning.specs.Passes.{closed, drawn}

abbrev pub over : ℤ → ℕ
over (pos n) = n
over (negsuc n) = 0

abbrev pub most_below : ℕ → (ℕ → ℕ) → ℕ
most_below zero f = 0
most_below (suc k) f = max (most_below k f) (f k)

unfoldable pub most : Model → (ℕ → ℕ) → ℕ
most M f = most_below (2 ^ M.conditions) f

abbrev pub spread : Model → (ℕ → Ends) → ℕ
spread M V = most M (λ s. over ((closed M V s).high -ℤ (closed M V s).low))

abbrev pub rise : Model → (ℕ → Ends) → ℕ
rise M V = most M (λ s. over ((closed M V s).high -ℤ (V s).high))

abbrev pub fall : Model → (ℕ → Ends) → ℕ
fall M V = most M (λ s. over ((V s).low -ℤ (closed M V s).low))

abbrev pub tail : Model → (ℕ → Ends) → ℕ
tail M V = most M (λ s. over (M.reward s -ℤ (V s).high)) + most M (λ s. over ((V s).low -ℤ M.reward s))

pub record Draw : Type 0 where
  pub moves : ℕ → ℕ
  pub spread_is : ℕ
  pub rise_is : ℕ
  pub fall_is : ℕ
  pub loss_is : ℕ
  pub tail_is : ℕ

pub record IsDraw (M : Model) (V : ℕ → Ends) (d : Draw) : Type 0 where
  pub names : (s : ℕ) → IsState M s → d.moves s ≡ (drawn M V s).chosen
  pub spreads : d.spread_is ≡ spread M V
  pub rises : d.rise_is ≡ rise M V
  pub falls : d.fall_is ≡ fall M V
  pub loses : d.loss_is ≡ loss M.discount (spread M V) (rise M V) (fall M V)
  pub tails : d.tail_is ≡ tail M V
