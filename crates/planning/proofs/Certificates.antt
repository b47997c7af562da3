-- In every history no plan beats the moves of a draw by more than its loss and what is left of its tail.
use Rattle.std.proofs.Common.{◌≡◌, ℕ, zero, suc, ◌+◌, ◌-◌, ◌*◌, ◌^◌, ◌<◌, ◌≤◌, ◌∷◌, ℤ, pos, negsuc, ◌+ℤ◌, ◌-ℤ◌, ◌≤ℤ◌, sym, ap, ◌∙◌, subst, ⊎_elim, mul_assoc, mul_comm, add-mul, mul-le-mul_left, pow-suc, mul-zero, mul-one, mul-suc, mul-add, arith, pow-add}
use native.Mathlib.Nat.{pow-zero, lt-mul-div-succ, mul-mul-mul_comm}
use borrow.Author.Differences.{ints}
use Rattle.std.proofs.lemmas.Bool.{cases_lt}
use Rattle.ranges.specs.declared.ends.Ends.{Ends}
use Rattle.ranges.specs.Ranges.{loss}
use Rattle.ranges.specs.Whole.{◌·◌, divided}
use Rattle.ranges.proofs.Multiples.{multiple_mono}
use Rattle.planning.specs.Models.{Model, IsState, Sound}
use Rattle.planning.specs.Values.{scale, worth, steady}
use Rattle.planning.specs.Passes.{gathered, closed}
use Rattle.planning.specs.Draws.{over, most_below, most, spread, rise, fall, Draw, IsDraw}
use Rattle.planning.specs.Histories.{Plan, Certified, AdviceIsCertified}
use Rattle.planning.specs.Histories.History.{started, passed, pruned, drew}
use Rattle.planning.proofs.Scaled.{times_sum, sum_times, times_times, times_pos, times_cancel}
use Rattle.planning.proofs.Contained.{scale_zero}
use Rattle.planning.proofs.Steps.{scale_suc, onward, step_high, step_low}

-- the greatest over all states bounds each
below_most : (k : ℕ) (f : ℕ → ℕ) (s : ℕ) → s < k → f s ≤ most_below k f
below_most zero f s l = absurd (omega arith)
below_most (suc k) f s l = ⊎_elim (λ less. omega (arith, below_most k f s less)) (λ last. let e : s ≡ k = omega arith in rw e (omega arith)) (cases_lt s k)

over_bounds : (z : ℤ) → z ≤ℤ pos (over z)
over_bounds (pos n) = omega (arith, ints)
over_bounds (negsuc n) = omega (arith, ints)

bounded : (M : Model) (f : ℕ → ℤ) (s : ℕ) → IsState M s → f s ≤ℤ pos (most M (λ t. over (f t)))
unfolding most
bounded M f s state = omega (arith, ints, over_bounds (f s), below_most (2 ^ M.conditions) (λ t. over (f t)) s state)

-- what is left of the tail after N stages
abbrev left : Model → ℕ → ℕ
left M N = M.discount ^ N * 10000 ^ (M.conditions * N)

left_suc : (M : Model) (N : ℕ) → left M (suc N) ≡ left M N * (M.discount * 10000 ^ M.conditions)
left_suc M N =
    ap (λ z. z * 10000 ^ (M.conditions * suc N)) (pow-suc M.discount N)
    ∙ ap (λ z. (M.discount ^ N * M.discount) * z) (ap (λ e. 10000 ^ e) (mul-suc M.conditions N) ∙ pow-add 10000 (M.conditions * N) M.conditions)
    ∙ mul-mul-mul_comm (M.discount ^ N) M.discount (10000 ^ (M.conditions * N)) (10000 ^ M.conditions)

-- the margin of a bound that grows by x a stage and began with T
module _ (M : Model) (x T : ℕ) where
  abbrev D : ℕ
  D = 10000 - M.discount

  abbrev pub held : ℕ → ℤ
  held N = ((10000 * scale M N) · pos x) +ℤ ((D * left M N) · pos T)

  abbrev pub fresh : ℕ → ℤ
  fresh N = ((M.discount * scale M N) · pos x) +ℤ ((D * left M N) · pos T)

  grows : (N : ℕ) → M.discount * (10000 ^ M.conditions * (10000 * scale M N)) ≡ M.discount * scale M (suc N)
  grows N =
      let p = 10000 ^ M.conditions in
      ap (λ z. M.discount * z) (ap (λ z. p * z) (mul_comm 10000 (scale M N)) ∙ sym (mul_assoc p (scale M N) 10000) ∙ ap (λ z. z * 10000) (mul_comm p (scale M N)) ∙ sym (scale_suc M N))

  fades : (N : ℕ) → M.discount * (10000 ^ M.conditions * (D * left M N)) ≡ D * left M (suc N)
  fades N =
      let p = 10000 ^ M.conditions in
      sym (mul_assoc M.discount p (D * left M N)) ∙ mul_comm (M.discount * p) (D * left M N) ∙ mul_assoc D (left M N) (M.discount * p) ∙ ap (λ z. D * z) (sym (left_suc M N))

  deep : (b p k n : ℕ) → b · (p · (k · pos n)) ≡ (b * (p * k)) · pos n
  deep b p k n = ap (λ z. b · z) (times_times p k (pos n)) ∙ times_times b (p * k) (pos n)

  pub carry : (N : ℕ) → M.discount · ((10000 ^ M.conditions) · held N) ≡ fresh (suc N)
  carry N =
      let b = M.discount in
      let p = 10000 ^ M.conditions in
      let u = (10000 * scale M N) · pos x in
      let v = (D * left M N) · pos T in
      let apart : b · (p · (u +ℤ v)) ≡ (b · (p · u)) +ℤ (b · (p · v)) = ap (λ z. b · z) (times_sum p u v) ∙ times_sum b (p · u) (p · v) in
      let first : b · (p · u) ≡ (b * scale M (suc N)) · pos x = deep b p (10000 * scale M N) x ∙ ap (λ k. k · pos x) (grows N) in
      let second : b · (p · v) ≡ (D * left M (suc N)) · pos T = deep b p (D * left M N) T ∙ ap (λ k. k · pos T) (fades N) in
      apart ∙ ap (λ z. z +ℤ (b · (p · v))) first ∙ ap (λ z. ((b * scale M (suc N)) · pos x) +ℤ z) second

  pub settle : (N : ℕ) → M.discount < 10000 → held N ≡ fresh N +ℤ ((D * scale M N) · pos x)
  settle N less =
      let whole : 10000 * scale M N ≡ D * scale M N + M.discount * scale M N = ap (λ k. k * scale M N) {x = 10000} {y = D + M.discount} (omega arith) ∙ add-mul D M.discount (scale M N) in
      omega (arith, ints, ap (λ k. k · pos x) whole, sum_times (D * scale M N) (M.discount * scale M N) (pos x))

left_zero : (M : Model) → left M 0 ≡ 1
left_zero M = ap (λ z. z * 10000 ^ (M.conditions * 0)) (pow-zero M.discount) ∙ ap (λ e. 1 * 10000 ^ e) (mul-zero M.conditions)

-- before any stage the tail alone is the margin
begins : (M : Model) (x T : ℕ) (p q : ℤ) → p ≤ℤ (q +ℤ pos T) → ((10000 - M.discount) · p) ≤ℤ (((10000 - M.discount) · q) +ℤ held M x T 0)
begins M x T p q h =
    let D = 10000 - M.discount in
    let m = multiple_mono D p (q +ℤ pos T) h in
    let e : D * left M 0 ≡ D = ap (λ z. D * z) (left_zero M) ∙ mul-one D in
    omega (arith, ints, times_sum D q (pos T), ap (λ k. k · pos T) e, times_pos (10000 * scale M 0) x)

once : (M : Model) (z : ℤ) → ((10000 - M.discount) * scale M 0) · z ≡ (10000 - M.discount) · z
once M z = ap (λ k. k · z) (ap (λ c. (10000 - M.discount) * c) (scale_zero M) ∙ mul-one (10000 - M.discount))

module _ (M : Model) (sound : Sound M) (V : ℕ → Ends) where
  abbrev R : ℕ
  R = 10000 - M.discount

  abbrev T₁ : ℕ
  T₁ = most M (λ s. over (M.reward s -ℤ (V s).high))

  abbrev T₂ : ℕ
  T₂ = most M (λ s. over ((V s).low -ℤ M.reward s))

  rises_by : (s : ℕ) → IsState M s → (closed M V s).high ≤ℤ ((V s).high +ℤ pos (rise M V))
  rises_by s state = omega (arith, ints, bounded M (λ t. (closed M V t).high -ℤ (V t).high) s state)

  falls_by : (s : ℕ) → IsState M s → (V s).low ≤ℤ ((closed M V s).low +ℤ pos (fall M V))
  falls_by s state = omega (arith, ints, bounded M (λ t. (V t).low -ℤ (closed M V t).low) s state)

  spreads_by : (s : ℕ) → IsState M s → (closed M V s).high ≤ℤ ((closed M V s).low +ℤ pos (spread M V))
  spreads_by s state = omega (arith, ints, bounded M (λ t. (closed M V t).high -ℤ (closed M V t).low) s state)

  module _ (π : ℕ → ℕ → ℕ) (plan : Plan M π) where
    abbrev High : ℕ → Type 0
    High N = (s : ℕ) → IsState M s → (R · worth M π N s) ≤ℤ (((R * scale M N) · (V s).high) +ℤ held M (rise M V) T₁ N)

    -- one stage more, with the ends that closing gives
    closes_high : (N : ℕ) → High N → (s : ℕ) → IsState M s → (R · worth M π (suc N) s) ≤ℤ (((R * scale M (suc N)) · (closed M V s).high) +ℤ fresh M (rise M V) T₁ (suc N))
    closes_high N h s state =
        subst (λ z. (R · worth M π (suc N) s) ≤ℤ (((R * scale M (suc N)) · (closed M V s).high) +ℤ z)) (carry M (rise M V) T₁ N)
        (step_high M sound s state R N (worth M π N) V (held M (rise M V) T₁ N) (π (suc N) s) (plan (suc N) s state) h)

    plan_high : (N : ℕ) → High N
    plan_high zero s state =
        omega (arith, ints, once M (V s).high, begins M (rise M V) T₁ (M.reward s) (V s).high (omega (arith, ints, bounded M (λ t. M.reward t -ℤ (V t).high) s state)))
    plan_high (suc N) s state =
        let c = R * scale M (suc N) in
        let m = multiple_mono c (closed M V s).high ((V s).high +ℤ pos (rise M V)) (rises_by s state) in
        omega (arith, ints, closes_high N (plan_high N) s state, times_sum c (V s).high (pos (rise M V)), settle M (rise M V) T₁ (suc N) sound.less_than_whole)

  module _ (moves : ℕ → ℕ) (names : (s : ℕ) → IsState M s → moves s ≡ (gathered M V (M.moves - 1) s).chosen) where
    abbrev Low : ℕ → Type 0
    Low N = (s : ℕ) → IsState M s → ((R * scale M N) · (V s).low) ≤ℤ ((R · worth M (steady moves) N s) +ℤ held M (fall M V) T₂ N)

    closes_low : (N : ℕ) → Low N → (s : ℕ) → IsState M s → ((R * scale M (suc N)) · (closed M V s).low) ≤ℤ ((R · worth M (steady moves) (suc N) s) +ℤ fresh M (fall M V) T₂ (suc N))
    closes_low N h s state =
        subst (λ a. ((R * scale M (suc N)) · (closed M V s).low) ≤ℤ ((R · onward M N a (worth M (steady moves) N) s) +ℤ fresh M (fall M V) T₂ (suc N))) (sym (names s state))
        (subst (λ z. ((R * scale M (suc N)) · (closed M V s).low) ≤ℤ ((R · onward M N (gathered M V (M.moves - 1) s).chosen (worth M (steady moves) N) s) +ℤ z)) (carry M (fall M V) T₂ N)
        (step_low M sound s state R N (worth M (steady moves) N) V (held M (fall M V) T₂ N) h))

    advice_low : (N : ℕ) → Low N
    advice_low zero s state =
        omega (arith, ints, once M (V s).low, begins M (fall M V) T₂ (V s).low (M.reward s) (omega (arith, ints, bounded M (λ t. (V t).low -ℤ M.reward t) s state)))
    advice_low (suc N) s state =
        let c = R * scale M (suc N) in
        let m = multiple_mono c (V s).low ((closed M V s).low +ℤ pos (fall M V)) (falls_by s state) in
        omega (arith, ints, closes_low N (advice_low N) s state, times_sum c (closed M V s).low (pos (fall M V)), settle M (fall M V) T₂ (suc N) sound.less_than_whole)

-- rounding up covers what is divided
covers : (a d : ℕ) → 0 < d → a ≤ d * divided a d
covers a d some = omega (arith, lt-mul-div-succ (a + (d - 1)) some, mul-add d (divided a d) 1)

-- the loss covers the spread and, for ever after, the rise and the fall
loss_covers : (b s x y z : ℕ) → b < 10000 → (((10000 - b) * s) * x + (b * s) * y) + (b * s) * z ≤ ((10000 - b) * s) * loss b x y z
loss_covers b s x y z less =
    let D = 10000 - b in
    let q = divided (b * (y + z)) D in
    let up : s * (b * (y + z)) ≤ s * (D * q) = mul-le-mul_left s (covers (b * (y + z)) D (omega arith)) in
    let l : s * (b * (y + z)) ≡ (b * s) * (y + z) = sym (mul_assoc s b (y + z)) ∙ ap (λ k. k * (y + z)) (mul_comm s b) in
    let r : s * (D * q) ≡ (D * s) * q = sym (mul_assoc s D q) ∙ ap (λ k. k * q) (mul_comm s D) in
    omega (arith, mul-add (D * s) x q, mul-add (b * s) y z)

tally : (A B U L : ℤ) (X Y Z P Q G : ℕ) → A ≤ℤ (U +ℤ (pos Y +ℤ pos P)) → L ≤ℤ (B +ℤ (pos Z +ℤ pos Q)) → U ≤ℤ (L +ℤ pos X) → X + Y + Z ≤ G → A ≤ℤ (B +ℤ pos (G + (P + Q)))
tally A B U L X Y Z P Q G h l m c = omega (arith, ints)

-- the two bounds joined
join : (M : Model) (c e x y z t₁ t₂ : ℕ) (w a u l : ℤ) → M.discount < 10000 →
    ((10000 - M.discount) · w) ≤ℤ ((((10000 - M.discount) * c) · u) +ℤ (((M.discount * c) · pos y) +ℤ (((10000 - M.discount) * e) · pos t₁))) →
    (((10000 - M.discount) * c) · l) ≤ℤ (((10000 - M.discount) · a) +ℤ (((M.discount * c) · pos z) +ℤ (((10000 - M.discount) * e) · pos t₂))) →
    u ≤ℤ (l +ℤ pos x) → w ≤ℤ (a +ℤ pos (c * loss M.discount x y z + e * (t₁ + t₂)))
join M c e x y z t₁ t₂ w a u l less high low between =
    let b = M.discount in
    let D = 10000 - b in
    let L = loss b x y z in
    let m = multiple_mono (D * c) u (l +ℤ pos x) between in
    let whole : D * (c * L + e * (t₁ + t₂)) ≡ (D * c) * L + ((D * e) * t₁ + (D * e) * t₂) =
    mul-add D (c * L) (e * (t₁ + t₂)) ∙ ap (λ k. k + D * (e * (t₁ + t₂))) (sym (mul_assoc D c L)) ∙ ap (λ k. (D * c) * L + k) (sym (mul_assoc D e (t₁ + t₂)) ∙ mul-add (D * e) t₁ t₂) in
    let right : (D · a) +ℤ pos ((D * c) * L + ((D * e) * t₁ + (D * e) * t₂)) ≡ D · (a +ℤ pos (c * L + e * (t₁ + t₂))) =
    ap (λ k. (D · a) +ℤ pos k) (sym whole) ∙ ap (λ k. (D · a) +ℤ k) (sym (times_pos D (c * L + e * (t₁ + t₂)))) ∙ sym (times_sum D a (pos (c * L + e * (t₁ + t₂)))) in
    let wide : ((D * c) · u) ≤ℤ (((D * c) · l) +ℤ pos ((D * c) * x)) = subst (λ k. ((D * c) · u) ≤ℤ k) (times_sum (D * c) l (pos x) ∙ ap (λ k. ((D * c) · l) +ℤ k) (times_pos (D * c) x)) m in
    times_cancel D w (a +ℤ pos (c * L + e * (t₁ + t₂))) (omega arith)
    (subst (λ k. (D · w) ≤ℤ k) right
    (tally (D · w) (D · a) ((D * c) · u) ((D * c) · l) ((D * c) * x) ((b * c) * y) ((b * c) * z) ((D * e) * t₁) ((D * e) * t₂) ((D * c) * L)
    (simp times_pos at high) (simp times_pos at low) wide (loss_covers b c x y z less)))

certified : (M : Model) → Sound M → (V : ℕ → Ends) (d : Draw) → IsDraw M V d → Certified M d
certified M sound V d is π plan zero s state = omega (arith, ints)
certified M sound V d is π plan (suc N) s state =
    let bounds = join M (scale M (suc N)) (left M (suc N)) (spread M V) (rise M V) (fall M V) (T₁ M sound V) (T₂ M sound V) (worth M π (suc N) s) (worth M (steady d.moves) (suc N) s) (closed M V s).high (closed M V s).low
    sound.less_than_whole (closes_high M sound V π plan N (plan_high M sound V π plan N) s state) (closes_low M sound V d.moves is.names N (advice_low M sound V d.moves is.names N) s state) (spreads_by M sound V s state) in
    rw (is.loses, is.tails) bounds

pub advice_is_certified : AdviceIsCertified
advice_is_certified M sound V k S ds (started agree) = tt
advice_is_certified M sound V k S ds (passed {V = W} {k = j} h agree) = advice_is_certified M sound W j S ds h
advice_is_certified M sound V k S ds (pruned {V = W} {S = T} strength rule h laws agree) = advice_is_certified M sound W k T ds h
advice_is_certified M sound V k S (d ∷ ds) (drew d' h is) = (certified M sound V d is, advice_is_certified M sound V k S ds h)
