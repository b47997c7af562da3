-- A state is the number of its bits, and any bits are those of their number.
use Rattle.std.proofs.Common.{◌≡◌, ℕ, zero, suc, ◌+◌, ◌*◌, ◌/◌, ◌%◌, ◌^◌, ◌<◌, Bool, true, false, cond, eqb, List, [], ◌∷◌, length, sym, refl, ap, ◌∙◌, subst, ⊎_elim, arith}
use native.Mathlib.Nat.{pow-succ', div-div-eq-div-mul}
use Rattle.std.proofs.lemmas.Bool.{cond-true, cond-false, cases_Bool, eq-eqb, eqb-true, eqb-false, ne_eqb}
use Rattle.diagram.specs.States.{bit, bits_from, number_of, StatesAreBits}

bit_shift : (i s : ℕ) → bit (suc i) s ≡ bit i (s / 2)
bit_shift i s = ap (λ q. eqb (q % 2) 1) (ap (λ d. s / d) (pow-succ' 2 i) ∙ sym (div-div-eq-div-mul s 2 (2 ^ i)))

bits_shift : (i n s : ℕ) → bits_from (suc i) n s ≡ bits_from i n (s / 2)
bits_shift i zero s = refl
bits_shift i (suc n) s = ap (λ b. b ∷ bits_from (suc (suc i)) n s) (bit_shift i s) ∙ ap (λ bs. bit i (s / 2) ∷ bs) (bits_shift (suc i) n s)

lowest : (s : ℕ) → bit 0 s ≡ eqb (s % 2) 1
lowest s = let e : s / 2 ^ 0 ≡ s = omega arith in ap (λ q. eqb (q % 2) 1) e

weight : (b : Bool) (m : ℕ) → (bit 0 (cond b 1 0 + 2 * m) ≡ b) × ((cond b 1 0 + 2 * m) / 2 ≡ m)
weight true m = (lowest (1 + 2 * m) ∙ eq-eqb ((1 + 2 * m) % 2) 1 (omega arith), omega arith)
weight false m = (lowest (0 + 2 * m) ∙ ne_eqb ((0 + 2 * m) % 2) 1 (λ e. omega arith), omega arith)

bits_back : (bs : List Bool) → bits_from 0 (length bs) (number_of bs) ≡ bs
bits_back [] = refl
bits_back (b ∷ bs) =
    let w = weight b (number_of bs) in
    let rest : bits_from 1 (length bs) (number_of (b ∷ bs)) ≡ bs = bits_shift 0 (length bs) (number_of (b ∷ bs)) ∙ ap (bits_from 0 (length bs)) w.1 ∙ bits_back bs in
    ap (λ c. c ∷ bits_from 1 (length bs) (number_of (b ∷ bs))) w.0 ∙ ap (λ cs. b ∷ cs) rest

number_below : (bs : List Bool) → number_of bs < 2 ^ length bs
number_below [] = omega arith
number_below (b ∷ bs) =
    let h = number_below bs in
    let e = pow-succ' 2 (length bs) in
    elim b as (λ c. cond c 1 0 + 2 * number_of bs < 2 ^ suc (length bs)) [ true ↦ omega arith | false ↦ omega arith ]

half : (s : ℕ) → cond (eqb (s % 2) 1) 1 0 ≡ s % 2
half s = ⊎_elim (λ yes. cond-true _ _ _ yes ∙ sym (eqb-true (s % 2) 1 yes)) (λ none. cond-false _ _ _ none ∙ (let ne = eqb-false (s % 2) 1 none in omega arith)) (cases_Bool (eqb (s % 2) 1))

state_back : (n s : ℕ) → s < 2 ^ n → number_of (bits_from 0 n s) ≡ s
state_back zero s h = omega arith
state_back (suc n) s h =
    let e = pow-succ' 2 n in
    let below : s / 2 < 2 ^ n = omega arith in
    let rest : number_of (bits_from 1 n s) ≡ s / 2 = ap number_of (bits_shift 0 n s) ∙ state_back n (s / 2) below in
    let low : cond (bit 0 s) 1 0 ≡ s % 2 = ap (λ c. cond c 1 0) (lowest s) ∙ half s in
    omega arith

pub states_are_bits : StatesAreBits
states_are_bits n =
    record {
      state_back = state_back n;
      bits_back = λ bs long. subst (λ k. bits_from 0 k (number_of bs) ≡ bs) long (bits_back bs);
      inside = λ bs long. subst (λ k. number_of bs < 2 ^ k) long (number_below bs);
    }
