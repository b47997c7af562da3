-- The greatest over all bits is the greatest over all states, where the bits after a move are no matter.
use Rattle.std.proofs.Common.{◌≡◌, ◌+◌, ◌≤◌, ◌++◌, length, take, drop, sym, ap, ◌∙◌, subst, arith, length-append, length-drop, take-append-drop}
use Rattle.std.proofs.lemmas.List.{length-take-le}
use Rattle.diagram.specs.States.{bits_from, number_of}
use Rattle.diagram.proofs.Bits.{length_bits}
use Rattle.diagram.proofs.Numbers.{states_are_bits}
use Rattle.survey.specs.Greatest.{greatest}
use Rattle.survey.specs.OverStates.{SurveysCoverStates}
use Rattle.survey.proofs.Greatests.{greatest_is_greatest}

pub surveys_cover_states : SurveysCoverStates
surveys_cover_states n f g same =
    let top = greatest_is_greatest (n + n) f in
    let bs = top.where_it_is in
    let all = top.as_long in
    let low : length (take n bs) ≡ n = length-take-le n bs (omega arith) in
    let high : length (drop n bs) ≡ n = length-drop n bs ∙ omega arith in
    let s = number_of (drop n bs) in
    let inside = (states_are_bits n).inside (drop n bs) high in
    let back : take n bs ++ bits_from 0 n s ≡ bs = ap (λ cs. take n bs ++ cs) ((states_are_bits n).bits_back (drop n bs) high) ∙ take-append-drop n bs in
    record {
      most =
          λ t less.
          let none = bits_from 0 n 0 in
          let long : length (none ++ bits_from 0 n t) ≡ n + n = omega (arith, length-append none (bits_from 0 n t), length_bits 0 n 0, length_bits 0 n t) in
          subst (λ z. z ≤ greatest (n + n) f) (same none t (length_bits 0 n 0) less) (top.most (none ++ bits_from 0 n t) long);
      state = s;
      inside = inside;
      met = sym (same (take n bs) s low inside) ∙ ap f back ∙ top.met;
    }
