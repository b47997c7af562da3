-- A search along the links of a bucket: what it passes by is not what it looks for.
use Rattle.std.proofs.Common.{◌≡◌, ℕ, zero, suc, ◌-◌, ◌%◌, ◌<◌, ◌≤◌, Bool, true, false, eqb, List, [], ◌∷◌, length, take, get_or, sym, refl, ap, ◌∙◌, subst, ⊎_elim, arith}
use Rattle.std.proofs.lemmas.Nat.{mod_below}
use Rattle.std.proofs.lemmas.List.{get_or-take, get_or_default, get_or_read, length-take-le}
use Rattle.std.proofs.lemmas.Bool.{cond_both, cond-false, cases_lt, cases_Bool, eqb-true, eqb-false}
use Rattle.reduction.proofs.Interning.{index_unique}
use Rattle.reduction.specs.Canonical.{Distinct}
use Rattle.reduction.specs.Listed.{Same, index}
use Rattle.listing.specs.Hashing.{bucket_of, last, cleaned, Indexed}

last_le : (of : ℕ → ℕ) (b c : ℕ) → last of b c ≤ c
last_le of b zero = omega arith
last_le of b (suc c) = cond_both (eqb (of c) b) (suc c) (last of b c) (λ z. z ≤ suc c) (λ _. omega arith) (λ _. omega (arith, last_le of b c))

-- from the last place on, no place is of the bucket
last_none : (of : ℕ → ℕ) (b c i : ℕ) → last of b c ≤ i → i < c → of i ≡ b → ⊥
last_none of b zero i l h e = omega arith
last_none of b (suc c) i l h e =
    cond_both (eqb (of c) b) (suc c) (last of b c) (λ z. z ≤ i → ⊥) (λ _ le. omega arith)
    (λ off le. ⊎_elim (λ less. last_none of b c i le less e) (λ end. let same : i ≡ c = omega arith in eqb-false (of c) b off (subst (λ j. of j ≡ b) same e)) (cases_lt i c)) l

last_is : (of : ℕ → ℕ) (b c : ℕ) → 0 < last of b c → of (last of b c - 1) ≡ b
last_is of b zero h = absurd (omega arith)
last_is of b (suc c) h =
    cond_both (eqb (of c) b) (suc c) (last of b c) (λ z. 0 < z → of (z - 1) ≡ b) (λ hit _. ap of {x = suc c - 1} {y = c} (omega arith) ∙ eqb-true (of c) b hit) (λ _ more. last_is of b c more) h

module _ {X : Type 0} (eq : X → X → Bool) (digest : X → ℕ) (blank : X) (xs : List X) (count : ℕ) (heads next : List ℕ) (x : X) where
  abbrev of : ℕ → ℕ
  of = bucket_of digest (length heads) xs blank

  abbrev home : ℕ
  home = digest x % length heads

  abbrev thing : ℕ → X
  thing i = get_or xs i blank

  -- x stands at no counted place from `at` on, and the search goes on in its bucket
  pub record Sought (at : ℕ) : Type 0 where
    pub within : at ≤ count
    pub bucketed : 0 < at → of (at - 1) ≡ home
    pub passed : (i : ℕ) → at ≤ i → i < count → eq (thing i) x ≡ false

  module _ (ix : Indexed eq digest blank xs count heads next) (same : Same eq) where
    unlike : (i : ℕ) → (of i ≡ home → ⊥) → eq (thing i) x ≡ false
    unlike i off = ⊎_elim (λ hit. absurd (off (ap (λ z. digest z % length heads) (same.means (thing i) x hit)))) (λ miss. miss) (cases_Bool (eq (thing i) x))

    index_none : (ys : List X) → ((i : ℕ) → i < length ys → eq (get_or ys i blank) x ≡ false) → index eq ys x ≡ length ys
    index_none [] h = refl
    index_none (y ∷ ys) h = cond-false _ _ _ (h 0 (omega arith)) ∙ ap suc (index_none ys (λ i le. h (suc i) (omega arith)))

    all : length (take count xs) ≡ count
    all = length-take-le count xs ix.counted

    counted_apart : Distinct eq (take count xs)
    counted_apart i j d less h =
        let at : (k : ℕ) → k < count → get_or (take count xs) k d ≡ thing k = λ k h. get_or-take count xs k d h ∙ get_or_default xs k d blank (omega (arith, ix.counted)) in
        ap (λ z. eq z (get_or (take count xs) j d)) (at i (omega (arith, all))) ∙ ap (eq (thing i)) (at j (omega (arith, all))) ∙ ix.apart i j less (omega (arith, all))

    pub begins : (b at : ℕ) → b ≡ home → at ≡ cleaned of b count (get_or heads b 0) → Sought at
    begins b at bucket is =
        let inside : b < length heads = subst (λ z. z < length heads) (sym bucket) (mod_below (digest x) (length heads) ix.some) in
        let e : at ≡ last of b count = is ∙ ix.head b inside in
        record {
          within = omega (arith, last_le of b count);
          bucketed = λ some. subst (λ z. of (z - 1) ≡ home) (sym e) (last_is of b count (subst (λ z. 0 < z) e some) ∙ bucket);
          passed = λ i le h. unlike i (λ hit. last_none of b count i (subst (λ z. z ≤ i) e le) h (hit ∙ sym bucket));
        }

    -- a number of the index that names the place i, at which y was read
    module _ {at i : ℕ} {y : X} (s : Sought at) (is : at ≡ suc i) (read : y ≡ get_or xs i y) where
      counts : i < count
      counts = omega (arith, s.within)

      stands : (v : Bool) → v ≡ eq y x → eq (thing i) x ≡ v
      stands v e = ap (λ z. eq z x) (sym (get_or_read xs i y (omega (arith, counts, ix.counted)) read blank)) ∙ sym e

      here : of i ≡ home
      here = subst (λ z. of z ≡ home) {x = at - 1} {y = i} (omega arith) (s.bucketed (omega arith))

      before : get_or next i 0 ≡ last of (home) i
      before = ix.link i counts ∙ ap (λ z. last of z i) here

      pub sinks : get_or next i 0 < at
      sinks = omega (arith, before, last_le of (home) i)

      pub passes : false ≡ eq y x → Sought (get_or next i 0)
      passes miss =
          let b = home in
          let less = sinks in
          record {
            within = omega (arith, s.within);
            bucketed = λ more. subst (λ z. of (z - 1) ≡ b) (sym before) (last_is of b i (subst (λ z. 0 < z) before more));
            passed = λ j le h.
                ⊎_elim (λ under. unlike j (last_none of b i j (subst (λ z. z ≤ j) before le) under))
                (λ from. ⊎_elim (λ end. let e : i ≡ j = omega arith in subst (λ z. eq (thing z) x ≡ false) e (stands false miss)) (λ past. s.passed j past h) (cases_lt j at))
                (cases_lt j i);
          }

      pub present : true ≡ eq y x → (i < count) × (index eq (take count xs) x ≡ i)
      present hit =
          (counts, index_unique eq same (take count xs) x blank i counted_apart (omega (arith, all, counts)) (get_or-take count xs i blank counts ∙ same.means (thing i) x (stands true hit)))

    pub absent : (at : ℕ) → Sought at → at ≡ 0 → index eq (take count xs) x ≡ count
    absent at s none = index_none (take count xs) (λ i le. ap (λ z. eq z x) (get_or-take count xs i blank (omega (arith, all))) ∙ s.passed i (omega arith) (omega (arith, all))) ∙ all
