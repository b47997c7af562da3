-- One thing more in a hash index.
use Rattle.std.proofs.Common.{◌≡◌, ℕ, zero, suc, ◌+◌, ◌-◌, ◌%◌, ◌<◌, ◌≤◌, Bool, false, cond, ◌&&◌, eqb, ltb, leb, ◌≢◌, List, length, get_or, take, set, sym, refl, ap, ◌∙◌, subst, ⊎_elim, add-one, arith, length-set}
use Rattle.std.proofs.lemmas.Nat.{mod_below}
use Rattle.std.proofs.lemmas.List.{get_or-take, length-take-le, get_or-set_same, get_or-set_other}
use Rattle.std.proofs.lemmas.Bool.{cond_both, cond-true, cond-false, cases_lt, cases_eq, eq-eqb, ne_eqb, lt-ltb, le-leb, lt-leb, and_from, and_left, and_right}
use Rattle.reduction.specs.Listed.{Same, index}
use Rattle.reduction.proofs.Interning.{missed}
use Rattle.listing.specs.Hashing.{bucket_of, last, current, cleaned, Indexed}

last_same : (of of' : ℕ → ℕ) (b c : ℕ) → ((i : ℕ) → i < c → of i ≡ of' i) → last of b c ≡ last of' b c
last_same of of' b zero h = refl
last_same of of' b (suc c) h =
    ap (λ z. cond (eqb z b) (suc c) (last of b c)) (h c (omega arith)) ∙ ap (λ z. cond (eqb (of' c) b) (suc c) z) (last_same of of' b c (λ i l. h i (omega arith)))

none : (b : Bool) → cond {A = ℕ} b 0 0 ≡ 0
none b = cond_both b 0 0 (λ z. z ≡ 0) (λ _. refl) (λ _. refl)

-- a head of another bucket is as current as it was
still : (of of' : ℕ → ℕ) (c count h : ℕ) → ((i : ℕ) → i < count → of' i ≡ of i) → (of' count ≡ c → ⊥) → cleaned of' c (suc count) h ≡ cleaned of c count h
still of of' c count h same off =
    ⊎_elim
    (λ past.
    let was : cleaned of c count h ≡ 0 = cond-false _ _ _ (and_right (ltb 0 h) (leb h count && eqb (of (h - 1)) c) (and_left (leb h count) (eqb (of (h - 1)) c) (lt-leb h count past))) in
    let now : cleaned of' c (suc count) h ≡ 0 =
    ⊎_elim
    (λ beyond. cond-false _ _ _ (and_right (ltb 0 h) (leb h (suc count) && eqb (of' (h - 1)) c) (and_left (leb h (suc count)) (eqb (of' (h - 1)) c) (lt-leb h (suc count) beyond))))
    (λ at.
    let e : h - 1 ≡ count = omega arith in
    cond-false _ _ _ (and_right (ltb 0 h) (leb h (suc count) && eqb (of' (h - 1)) c) (and_right (leb h (suc count)) (eqb (of' (h - 1)) c) (ne_eqb (of' (h - 1)) c (λ hit. off (ap of' (sym e) ∙ hit))))))
    (cases_lt (suc count) h) in
    now ∙ sym was)
    (λ counted.
    ⊎_elim
    (λ some.
    ap (λ v. cond (ltb 0 h && (v && eqb (of' (h - 1)) c)) h 0) (le-leb h (suc count) (omega arith) ∙ sym (le-leb h count counted))
    ∙ ap (λ z. cond (ltb 0 h && (leb h count && eqb z c)) h 0) (same (h - 1) (omega arith)))
    (λ zero-head. let e : h ≡ 0 = omega arith in rw e (none (current of' c (suc count) 0) ∙ sym (none (current of c count 0)))) (cases_lt 0 h))
    (cases_lt count h)

module _ {X : Type 0} {eq : X → X → Bool} {digest : X → ℕ} {blank : X} {xs : List X} {count : ℕ} {heads next : List ℕ} (same : Same eq) (ix : Indexed eq digest blank xs count heads next) (x : X) (room : count < length xs)
    (new : index eq (take count xs) x ≡ count) {b h : ℕ} (bucket : b ≡ digest x % length heads) (is : h ≡ cleaned (bucket_of digest (length heads) xs blank) b count (get_or heads b 0)) where
  inside : b < length heads
  inside = subst (λ z. z < length heads) (sym bucket) (mod_below (digest x) (length heads) ix.some)

  abbrev of : ℕ → ℕ
  of = bucket_of digest (length heads) xs blank

  abbrev of' : ℕ → ℕ
  of' = bucket_of digest (length heads) (set xs count x) blank

  other : (i : ℕ) → i < count → get_or (set xs count x) i blank ≡ get_or xs i blank
  other i l = let ne : i ≢ count = omega arith in get_or-set_other xs count i x blank ne

  same_of : (i : ℕ) → i < count → of' i ≡ of i
  same_of i l = ap (λ z. digest z % length heads) (other i l)

  here_of : of' count ≡ b
  here_of = ap (λ z. digest z % length heads) (get_or-set_same xs count x blank room) ∙ sym bucket

  lasts : (c k : ℕ) → k ≤ count → last of c k ≡ last of' c k
  lasts c k le = last_same of of' c k (λ i l. sym (same_of i (omega arith)))

  abbrev heads' : List ℕ
  heads' = set heads b (count + 1)

  head' : (c : ℕ) → c < length heads → cleaned of' c (suc count) (get_or heads' c 0) ≡ last of' c (suc count)
  head' c l =
      ⊎_elim
      (λ e.
      let now : get_or heads' c 0 ≡ count + 1 = ap (λ z. get_or heads' z 0) e ∙ get_or-set_same heads b (count + 1) 0 inside in
      let at : of' (count + 1 - 1) ≡ c = ap of' {x = count + 1 - 1} {y = count} (omega arith) ∙ here_of ∙ sym e in
      let kept : cleaned of' c (suc count) (count + 1) ≡ count + 1 =
      cond-true _ _ _ (and_from _ _ (lt-ltb 0 (count + 1) (omega arith)) (and_from _ _ (le-leb (count + 1) (suc count) (omega arith)) (eq-eqb (of' (count + 1 - 1)) c at))) in
      let newest : last of' c (suc count) ≡ suc count = cond-true _ _ _ (eq-eqb (of' count) c (here_of ∙ sym e)) in
      ap (cleaned of' c (suc count)) now ∙ kept ∙ omega arith ∙ sym newest)
      (λ ne.
      let now : get_or heads' c 0 ≡ get_or heads c 0 = get_or-set_other heads b c (count + 1) 0 ne in
      let off : of' count ≡ c → ⊥ = λ hit. ne (sym hit ∙ here_of) in
      ap (cleaned of' c (suc count)) now ∙ still of of' c count (get_or heads c 0) same_of off ∙ ix.head c l ∙ lasts c count (omega arith) ∙ sym (cond-false _ _ _ (ne_eqb (of' count) c off)))
      (cases_eq c b)

  link' : (i : ℕ) → i < suc count → get_or (set next count h) i 0 ≡ last of' (of' i) i
  link' i l =
      ⊎_elim
      (λ less.
      let ne : i ≢ count = omega arith in
      get_or-set_other next count i h 0 ne ∙ ix.link i less ∙ lasts (of i) i (omega arith) ∙ ap (λ z. last of' z i) (sym (same_of i less)))
      (λ end.
      let e : i ≡ count = omega arith in
      rw e (get_or-set_same next count h 0 (omega (arith, ix.long)) ∙ is ∙ ix.head b inside ∙ lasts b count (omega arith) ∙ ap (λ z. last of' z count) (sym here_of)))
      (cases_lt i count)

  apart' : (i j : ℕ) → i < j → j < suc count → eq (get_or (set xs count x) i blank) (get_or (set xs count x) j blank) ≡ false
  apart' i j l m =
      ⊎_elim (λ less. ap (λ z. eq z (get_or (set xs count x) j blank)) (other i (omega arith)) ∙ ap (eq (get_or xs i blank)) (other j less) ∙ ix.apart i j l less)
      (λ end.
      let e : j ≡ count = omega arith in
      let long : length (take count xs) ≡ count = length-take-le count xs ix.counted in
      rw e
      (ap (λ z. eq z (get_or (set xs count x) count blank)) (other i (omega arith)) ∙ ap (eq (get_or xs i blank)) (get_or-set_same xs count x blank room)
      ∙ ap (λ z. eq z x) (sym (get_or-take count xs i blank (omega arith))) ∙ missed eq same (take count xs) x blank i (omega arith)))
      (cases_lt j count)

  pub pushed : Indexed eq digest blank (set xs count x) (count + 1) heads' (set next count h)
  pushed =
      let many : length heads' ≡ length heads = length-set heads b (count + 1) in
      subst (λ k. Indexed eq digest blank (set xs count x) k heads' (set next count h)) (sym (add-one count))
      (record {
        counted = omega (arith, length-set xs count x);
        small = omega (arith, length-set xs count x, ix.small);
        some = omega (arith, ix.some);
        long = omega (arith, length-set xs count x, length-set next count h, ix.long);
        head = λ c l. subst (λ n. cleaned (bucket_of digest n (set xs count x) blank) c (suc count) (get_or heads' c 0) ≡ last (bucket_of digest n (set xs count x) blank) c (suc count)) (sym many) (head' c (omega arith));
        link = λ i l. subst (λ n. get_or (set next count h) i 0 ≡ last (bucket_of digest n (set xs count x) blank) (bucket_of digest n (set xs count x) blank i) i) (sym many) (link' i l);
        apart = apart';
      })
