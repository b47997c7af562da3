-- A stage is the average of the one before it, and the stages come to the range of a move.
use Rattle.std.proofs.Common.{◌≡◌, ℕ, zero, suc, ◌+◌, ◌-◌, ◌^◌, ◌<◌, Bool, true, false, List, [], ◌∷◌, ◌++◌, length, get_or, take, drop, set, sym, ap, ◌∙◌, arith, take-append-drop, drop-cons}
use lib.Seq.{set-append_seam}
use Rattle.std.proofs.lemmas.List.{length-take-le}
use Rattle.diagram.specs.States.{number_of}
use Rattle.ranges.specs.declared.ends.Ends.{Ends}
use Rattle.ranges.specs.Ranges.{average}
use Rattle.planning.specs.Models.{Model}
use Rattle.planning.specs.Passes.{averaged, ranged}
use Rattle.stages.specs.Parts.{over_states, part, parts, PartsAreAveraged, PartsComeToRanges}
use Rattle.stages.proofs.Snoc.{number_one, number_zero, take_front, take_through, drop_past}

-- the same, the bits cut around the condition
around : (M : Model) (V : ℕ → Ends) (a d : ℕ) → d < M.conditions → (bs cs : List Bool) (b : Bool) → length bs ≡ M.conditions - suc d →
    parts M V a (suc d) (bs ++ b ∷ cs)
    ≡ average (over_states M.conditions (M.chance a (M.conditions - suc d)) (bs ++ b ∷ cs)) (parts M V a d (bs ++ true ∷ cs)) (parts M V a d (bs ++ false ∷ cs))
around M V a d less bs cs b long =
    let n = M.conditions in
    let i = n - suc d in
    let s = number_of (drop n (bs ++ b ∷ cs)) in
    let P : ℕ → ℕ → Ends = λ s t. part (λ j. M.chance a j s) n V d t in
    let here : number_of (take i (bs ++ b ∷ cs)) ≡ number_of bs = ap number_of (take_front bs (b ∷ cs) i long) in
    let same : (x : Bool) → number_of (drop n (bs ++ x ∷ cs)) ≡ s = λ x. ap number_of (drop_past bs cs x b n (omega arith)) in
    let through : (x : Bool) → number_of (take (n - d) (bs ++ x ∷ cs)) ≡ number_of (bs ++ x ∷ []) = λ x. ap number_of (take_through bs cs x (n - d) (omega arith)) in
    let up : number_of (take i (bs ++ b ∷ cs)) + 2 ^ i ≡ number_of (take (n - d) (bs ++ true ∷ cs)) = ap (λ z. z + 2 ^ i) here ∙ ap (λ k. number_of bs + 2 ^ k) (sym long) ∙ sym (number_one bs) ∙ sym (through true) in
    let down : number_of (take i (bs ++ b ∷ cs)) ≡ number_of (take (n - d) (bs ++ false ∷ cs)) = here ∙ sym (number_zero bs) ∙ sym (through false) in
    let one : P s (number_of (take i (bs ++ b ∷ cs)) + 2 ^ i) ≡ parts M V a d (bs ++ true ∷ cs) = ap (P s) up ∙ ap (λ z. P z (number_of (take (n - d) (bs ++ true ∷ cs)))) (sym (same true)) in
    let nil : P s (number_of (take i (bs ++ b ∷ cs))) ≡ parts M V a d (bs ++ false ∷ cs) = ap (P s) down ∙ ap (λ z. P z (number_of (take (n - d) (bs ++ false ∷ cs)))) (sym (same false)) in
    λ j. average (M.chance a i s) (one j) (nil j)

pub parts_are_averaged : PartsAreAveraged
parts_are_averaged M V a d less bs long =
    let n = M.conditions in
    let i = n - suc d in
    let front = take i bs in
    let b = get_or bs i false in
    let cs = drop (suc i) bs in
    let at : length front ≡ i = length-take-le i bs (omega arith) in
    let within : i < length bs = omega arith in
    let cut : bs ≡ front ++ b ∷ cs = sym (take-append-drop i bs) ∙ ap (λ ds. front ++ ds) (drop-cons bs i false within) in
    let put : (x : Bool) → set bs i x ≡ front ++ x ∷ cs = λ x. ap (λ ds. set ds i x) cut ∙ ap (λ k. set (front ++ b ∷ cs) k x) (sym at) ∙ set-append_seam front b cs x in
    let chance = ap (over_states n (M.chance a i)) (sym cut) in
    let one = ap (parts M V a d) (sym (put true)) in
    let nil = ap (parts M V a d) (sym (put false)) in
    ap (parts M V a (suc d)) cut ∙ around M V a d less front cs b at ∙ (λ j. average (chance j) (one j) (nil j))

-- with d conditions averaged out first, the rest come to the same
outer : (c : ℕ → ℕ) (n : ℕ) (V : ℕ → Ends) (d i : ℕ) → i + d ≡ n → averaged c i (part c n V d) ≡ averaged c n V
outer c n V zero i e = ap (λ k. averaged c k V) {x = i} {y = n} (omega arith)
outer c n V (suc d) i e =
    let at : n - suc d ≡ i = omega arith in
    ap (λ k. averaged c i (λ t. average (c k) (part c n V d (t + 2 ^ k)) (part c n V d t))) at ∙ outer c n V d (suc i) (omega arith)

pub parts_come_to_ranges : PartsComeToRanges
unfolding ranged
parts_come_to_ranges =
    record {
      first = λ M V a bs. ap (λ k. V (number_of (take k bs))) {x = M.conditions - 0} {y = M.conditions} (omega arith);
      last =
          λ M V a bs.
          let n = M.conditions in
          let c : ℕ → ℕ = λ i. M.chance a i (number_of (drop n bs)) in
          ap (λ k. part c n V n (number_of (take k bs))) {x = n - n} {y = 0} (omega arith) ∙ outer c n V n 0 (omega arith);
    }
