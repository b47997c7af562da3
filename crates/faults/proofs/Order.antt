-- The first fault of tests that stand one after another.
use Rattle.std.proofs.Common.{◌≡◌, ℕ, zero, suc, ◌+◌, ◌-◌, ◌<◌, Bool, true, false, cond, List, [], ◌∷◌, ◌++◌, Some, None, Option, sym, refl, ap, ◌∙◌, subst, ⊎_elim, zero-add, add-one, arith}
use Rattle.std.proofs.lemmas.Bool.{and_parts, and_from, cases_lt}
use Rattle.std.proofs.lemmas.List.FromFn.{map-range_with_len_more}
use Rattle.faults.specs.Tests.{Test, first_fault, each, passes}

never : {F : Type 0} {f : F} (A : Type 0) → ◌≡◌ {A = Option F} (Some f) None → A
never A e = let z : ◌≡◌ {A = ℕ} 0 1 = cc in absurd (omega arith)

-- where no test fails the first holds, and none of the others fails
pub first_holds : {F : Type 0} (b : Bool) (f : F) (o : Option F) → cond b o (Some f) ≡ None → (b ≡ true) × (o ≡ None)
first_holds true f o e = (refl, e)
first_holds false f o e = never _ e

pub then_none : {F : Type 0} (ts us : List (Test F)) → first_fault ts ≡ None → first_fault (ts ++ us) ≡ first_fault us
then_none [] us e = refl
then_none (t ∷ ts) us e =
    let h = first_holds t.holds t.fault (first_fault ts) e in
    ap (λ b. cond b (first_fault (ts ++ us)) (Some t.fault)) h.0 ∙ then_none ts us h.1

some_case : {F : Type 0} (b : Bool) (f g : F) (o p : Option F) → (o ≡ Some f → p ≡ Some f) → cond b o (Some g) ≡ Some f → cond b p (Some g) ≡ Some f
some_case true f g o p more e = more e
some_case false f g o p more e = e

pub then_some : {F : Type 0} (ts us : List (Test F)) (f : F) → first_fault ts ≡ Some f → first_fault (ts ++ us) ≡ Some f
then_some [] us f e = never _ (sym e)
then_some (t ∷ ts) us f e = some_case t.holds f t.fault (first_fault ts) (first_fault (ts ++ us)) (then_some ts us f) e

-- tests one for each number below n
each_more : {F : Type 0} (f : ℕ → Test F) (n : ℕ) → each (n + 1) f ≡ each n f ++ (f n ∷ [])
each_more f n = map-range_with_len_more f 0 n n (omega arith)

each_none_suc : {F : Type 0} (f : ℕ → Test F) (n : ℕ) → first_fault (each n f) ≡ None → (f n).holds ≡ true → first_fault (each (n + 1) f) ≡ None
each_none_suc f n below here =
    ap first_fault (each_more f n) ∙ then_none (each n f) (f n ∷ []) below ∙ ap (λ b. cond b None (Some (f n).fault)) here

pub each_none : {F : Type 0} (f : ℕ → Test F) (n : ℕ) → ((k : ℕ) → k < n → (f k).holds ≡ true) → first_fault (each n f) ≡ None
each_none f zero below = refl
each_none f (suc n) below = subst (λ k. first_fault (each k f) ≡ None) (add-one n) (each_none_suc f n (each_none f n (λ k h. below k (omega arith))) (below n (omega arith)))

each_stays : {F : Type 0} (f : ℕ → Test F) (n m : ℕ) (g : F) → first_fault (each n f) ≡ Some g → first_fault (each (m + n) f) ≡ Some g
each_stays f n zero g e = rw zero-add e
each_stays f n (suc m) g e =
    let step : suc m + n ≡ m + n + 1 = omega arith in
    ap (λ k. first_fault (each k f)) step ∙ ap first_fault (each_more f (m + n)) ∙ then_some (each (m + n) f) (f (m + n) ∷ []) g (each_stays f n m g e)

pub each_some : {F : Type 0} (f : ℕ → Test F) (n j : ℕ) → j < n → (f j).holds ≡ false → ((k : ℕ) → k < j → (f k).holds ≡ true) → first_fault (each n f) ≡ Some (f j).fault
each_some f n j inside fails below =
    let here : first_fault (each (j + 1) f) ≡ Some (f j).fault =
    ap first_fault (each_more f j) ∙ then_none (each j f) (f j ∷ []) (each_none f j below) ∙ ap (λ b. cond b None (Some (f j).fault)) fails in
    let reach : n ≡ n - (j + 1) + (j + 1) = omega arith in
    ap (λ k. first_fault (each k f)) reach ∙ each_stays f (j + 1) (n - (j + 1)) (f j).fault here

-- what passing tells of the parts
pub passes_none : {F : Type 0} (ts : List (Test F)) → passes ts ≡ true → first_fault ts ≡ None
passes_none [] e = refl
passes_none (t ∷ ts) e = let h = and_parts t.holds (passes ts) e in ap (λ b. cond b (first_fault ts) (Some t.fault)) h.0 ∙ passes_none ts h.1

pub none_passes : {F : Type 0} (ts : List (Test F)) → first_fault ts ≡ None → passes ts ≡ true
none_passes [] e = refl
none_passes (t ∷ ts) e = let h = first_holds t.holds t.fault (first_fault ts) e in and_from t.holds (passes ts) h.0 (none_passes ts h.1)

pub passes_left : {F : Type 0} (ts us : List (Test F)) → passes (ts ++ us) ≡ true → passes ts ≡ true
passes_left [] us e = refl
passes_left (t ∷ ts) us e = let h = and_parts t.holds (passes (ts ++ us)) e in and_from t.holds (passes ts) h.0 (passes_left ts us h.1)

pub passes_right : {F : Type 0} (ts us : List (Test F)) → passes (ts ++ us) ≡ true → passes us ≡ true
passes_right [] us e = e
passes_right (t ∷ ts) us e = passes_right ts us (and_parts t.holds (passes (ts ++ us)) e).1

pub each_holds : {F : Type 0} (f : ℕ → Test F) (n k : ℕ) → k < n → passes (each n f) ≡ true → (f k).holds ≡ true
each_holds f zero k h e = absurd (omega arith)
each_holds f (suc n) k h e =
    let all : passes (each n f ++ (f n ∷ [])) ≡ true = subst (λ ts. passes ts ≡ true) (ap (λ m. each m f) (sym (add-one n)) ∙ each_more f n) e in
    ⊎_elim
    (λ less. each_holds f n k less (passes_left (each n f) (f n ∷ []) all))
    (λ last. let same : n ≡ k = omega arith in subst (λ m. (f m).holds ≡ true) same (and_parts _ _ (passes_right (each n f) (f n ∷ []) all)).0)
    (cases_lt k n)
