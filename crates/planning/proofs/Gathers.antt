-- What gathering keeps: the greatest high of all moves, and the greatest low with a move that has it.
use Rattle.std.proofs.Common.{◌≡◌, ℕ, zero, suc, ◌≤◌, ℤ, ◌≤ℤ◌, refl, ◌∙◌, ⊎_elim, arith}
use borrow.Author.Differences.{ints}
use lib.Signed.{lt_z}
use Rattle.std.specs.Int.{int_max}
use Rattle.std.proofs.lemmas.Int.{clamps}
use Rattle.std.proofs.lemmas.Bool.{cond_both, cases_lt}
use Rattle.ranges.specs.declared.ends.Advice.{Advice}
use Rattle.ranges.specs.declared.ends.Ends.{Ends}
use Rattle.planning.specs.Models.{Model}
use Rattle.planning.specs.Values.{greatest}
use Rattle.planning.specs.Passes.{ranged, gather, gathered}

pub greatest_least : (a : ℕ) (f : ℕ → ℤ) (z : ℤ) → ((j : ℕ) → j ≤ a → f j ≤ℤ z) → greatest a f ≤ℤ z
greatest_least zero f z h = h 0 (omega arith)
greatest_least (suc a) f z h = omega (arith, ints, clamps, greatest_least a f z (λ j l. h j (omega arith)), h (suc a) (omega arith))

pub greatest_member : (a j : ℕ) (f : ℕ → ℤ) → j ≤ a → f j ≤ℤ greatest a f
greatest_member zero j f l = let e : j ≡ 0 = omega arith in rw e (omega (arith, ints))
greatest_member (suc a) j f l =
    ⊎_elim (λ less. omega (arith, ints, clamps, greatest_member a j f (omega arith))) (λ last. let e : j ≡ suc a = omega arith in rw e (omega (arith, ints, clamps))) (cases_lt j (suc a))

module _ (M : Model) (V : ℕ → Ends) (s : ℕ) where
  pub gathered_high : (a j : ℕ) → j ≤ a → (ranged M j V s).high ≤ℤ (gathered M V a s).ends.high
  gathered_high zero j l = let e : j ≡ 0 = omega arith in rw e (omega (arith, ints))
  gathered_high (suc a) j l =
      ⊎_elim (λ less. omega (arith, ints, clamps, gathered_high a j (omega arith))) (λ last. let e : j ≡ suc a = omega arith in rw e (omega (arith, ints, clamps))) (cases_lt j (suc a))

  -- the move that is held has the low that is held
  pub record Held (a chosen : ℕ) (low : ℤ) : Type 0 where
    pub within : chosen ≤ a
    pub has : (ranged M chosen V s).low ≡ low

  held_step : (a : ℕ) (h : Advice) → Held a h.chosen h.ends.low → Held (suc a) (gather h (suc a) (ranged M (suc a) V s)).chosen (gather h (suc a) (ranged M (suc a) V s)).ends.low
  held_step a h k =
      let e = ranged M (suc a) V s in
      cond_both (lt_z h.ends.low e.low) (suc a) h.chosen (λ c. Held (suc a) c (int_max h.ends.low e.low))
      (λ yes. record { within = omega arith; has = omega (arith, ints, clamps) })
      (λ no. record { within = omega (arith, k.within); has = k.has ∙ omega (arith, ints, clamps) })

  pub gathered_held : (a : ℕ) → Held a (gathered M V a s).chosen (gathered M V a s).ends.low
  gathered_held zero = record { within = omega arith; has = refl }
  gathered_held (suc a) = held_step a (gathered M V a s) (gathered_held a)
