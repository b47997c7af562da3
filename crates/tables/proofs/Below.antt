-- The test that something holds at each number below another.
use Rattle.std.proofs.Common.{◌≡◌, ℕ, zero, suc, ◌<◌, ◌≤◌, Bool, true, false, not, ◌&&◌, List, length, take, is_some, Some, None, Decides, Option, sym, refl, ap, ◌∙◌, ⊎_elim, arith}
use Rattle.std.proofs.lemmas.List.{length-take-le, get_or-take}
use Rattle.std.proofs.lemmas.Bool.{both_ways, cases_Bool, not-true, not-false}
use Rattle.std.proofs.lemmas.Bool.Decides.{Decides-below_and}
use Rattle.diagram.specs.First.{HoldsBelow, FirstFailing}
use Rattle.tables.specs.Within.{leaf_is_within}
use Rattle.tables.specs.Tables.{all_below}

pub decides_below : (p : ℕ → Bool) (n : ℕ) → Decides (all_below p n) (HoldsBelow p n)
decides_below p n = Decides-below_and p (λ k. p k ≡ true) (all_below p) (λ k. (λ e. e, λ e. e)) refl (λ _. refl) n

pub fails_below : (p : ℕ → Bool) (n k : ℕ) → k < n → p k ≡ false → all_below p n ≡ false
fails_below p n k lt fails = ⊎_elim (λ yes. absurd (both_ways (p k) fails ((decides_below p n).0 yes k lt))) (λ e. e) (cases_Bool (all_below p n))

-- that none fails is that all hold
pub none_fails : (p : ℕ → Bool) (n : ℕ) (r : Option ℕ) (t : Bool) → is_some r ≡ not t → FirstFailing p n r → t ≡ all_below p n
none_fails p n None t is h = not-false t (sym is) ∙ sym ((decides_below p n).1 h)
none_fails p n (Some k) t is h = not-true t (sym is) ∙ sym (fails_below p n k h.0 h.1)

all_below_same : (p q : ℕ → Bool) (n : ℕ) → ((k : ℕ) → k < n → p k ≡ q k) → all_below p n ≡ all_below q n
all_below_same p q zero same = refl
all_below_same p q (suc n) same = ap (λ b. b && all_below p n) (same n (omega arith)) ∙ ap (λ b. q n && b) (all_below_same p q n (λ k low. same k (omega arith)))

-- that no counted leaf is outside is that all are within
pub none_outside : {X : Type 0} (within : X → Bool) (blank : X) (leaves : List X) (count : ℕ) (r : Option ℕ) (t : Bool) → count ≤ length leaves → is_some r ≡ not t →
    FirstFailing (leaf_is_within within blank (take count leaves)) (length (take count leaves)) r → t ≡ all_below (leaf_is_within within blank leaves) count
none_outside within blank leaves count r t fits is h =
    none_fails (leaf_is_within within blank (take count leaves)) (length (take count leaves)) r t is h
    ∙ ap (all_below (leaf_is_within within blank (take count leaves))) (length-take-le count leaves fits)
    ∙ all_below_same (leaf_is_within within blank (take count leaves)) (leaf_is_within within blank leaves) count (λ k low. ap within (get_or-take count leaves k blank low))
