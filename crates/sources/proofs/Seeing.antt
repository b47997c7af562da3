-- The bits that a diagram sees: all as they are where no level is fixed, and the fixed bit at a fixed level.
use Rattle.std.proofs.Common.{◌≡◌, ℕ, zero, suc, ◌+◌, ◌<◌, Bool, List, [], ◌∷◌, length, get_or, set, Some, None, Option, sym, refl, ap, ◌∙◌, subst, arith, length-set}
use Rattle.std.proofs.lemmas.Bool.{cond-true, cond-false, eq-eqb, ne_eqb}
use Rattle.diagram.specs.Reads.{reach}
use Rattle.sources.specs.declared.input.Fixed.{Fixed}
use Rattle.sources.specs.Inputs.{seen, Unfixed}
use Rattle.sources.specs.Views.{FixedLevelsAreSet}

-- before the fixed level
pub seen_before : (f : Option Fixed) (k : ℕ) (bs : List Bool) → Unfixed f (k + length bs) → seen f k bs ≡ bs
seen_before None k [] free = refl
seen_before None k (b ∷ bs) free = ap (λ cs. b ∷ cs) (seen_before None (suc k) bs tt)
seen_before (Some f) k [] le = refl
seen_before (Some f) k (b ∷ bs) le =
    ap (λ c. c ∷ seen (Some f) (suc k) bs) (cond-false _ _ _ (ne_eqb k f.level (λ e. omega arith))) ∙ ap (λ cs. b ∷ cs) (seen_before (Some f) (suc k) bs (omega arith))

module _ (f : Fixed) where
  -- past it
  seen_past : (k : ℕ) (bs : List Bool) → f.level < k → seen (Some f) k bs ≡ bs
  seen_past k [] less = refl
  seen_past k (b ∷ bs) less =
      ap (λ c. c ∷ seen (Some f) (suc k) bs) (cond-false _ _ _ (ne_eqb k f.level (λ e. omega arith))) ∙ ap (λ cs. b ∷ cs) (seen_past (suc k) bs (omega arith))

  -- at it
  pub seen_at : (k j : ℕ) (bs : List Bool) → k + j ≡ f.level → j < length bs → seen (Some f) k bs ≡ set bs j f.bit
  seen_at k j [] at less = absurd (omega arith)
  seen_at k zero (b ∷ bs) at less =
      ap (λ c. c ∷ seen (Some f) (suc k) bs) (cond-true _ _ _ (eq-eqb k f.level (omega arith))) ∙ ap (λ ds. f.bit ∷ ds) (seen_past (suc k) bs (omega arith))
  seen_at k (suc j) (b ∷ bs) at less =
      ap (λ d. d ∷ seen (Some f) (suc k) bs) (cond-false _ _ _ (ne_eqb k f.level (λ e. omega arith))) ∙ ap (λ ds. b ∷ ds) (seen_at (suc k) j bs (omega arith) (omega arith))

pub fixed_levels_are_set : {X : Type 0} (blank : X) → FixedLevelsAreSet blank
fixed_levels_are_set blank i k x bs r less free =
    let long = length-set bs k x in
    let fixed = seen_at (record { level = k; bit = x }) 0 k bs (omega arith) less in
    let free' = seen_before i.fixed 0 (set bs k x) (subst (Unfixed i.fixed) (omega arith) free) in
    ap (λ ds. get_or i.table.leaves.now (reach i.offset i.table.nodes.now 0 ds r) blank) (fixed ∙ sym free')
