-- What a memo recalls is an entry of its stamp for the same three references.
use Rattle.std.proofs.Common.{◌≡◌, ℕ, ◌<◌, true, List, length, Some, None, ◌∙◌, ⊎_elim, arith}
use Rattle.std.proofs.lemmas.Nat.{mod_below}
use Rattle.std.proofs.lemmas.Bool.{cond-true, cond-false, cases_Bool, and_parts, eqb-true}
use Rattle.sources.specs.declared.entry.Entry.{Entry}
use Rattle.sources.specs.declared.spot.Spot.{Spot}
use Rattle.sources.specs.Memos.{slot, same_spot, entry_at, remembered, recalled}

pub slot_below : (at : Spot) (places : ℕ) → 0 < places → slot at places < places
slot_below at places some = mod_below _ places some

spot_means : (x y : Spot) → same_spot x y ≡ true → x ≡ y
spot_means x y h =
    let p = and_parts _ _ h in
    let q = and_parts _ _ p.1 in
    let a = eqb-true x.first y.first p.0 in
    let b = eqb-true x.second y.second q.0 in
    let c = eqb-true x.third y.third q.1 in
    λ i. record { first = a i; second = b i; third = c i }

pub record Remembered (es : List Entry) (stamp : ℕ) (at : Spot) (j : ℕ) : Type 0 where
  pub within : j < length es
  pub stamped : (entry_at es j).stamp ≡ stamp
  pub placed : (entry_at es j).spot ≡ at

pub remembered_means : (es : List Entry) (stamp : ℕ) (at : Spot) → 0 < length es → remembered es stamp at ≡ true → Remembered es stamp at (slot at (length es))
remembered_means es stamp at some hit = let p = and_parts _ _ hit in record { within = slot_below at (length es) some; stamped = eqb-true _ _ p.0; placed = spot_means _ _ p.1 }

-- what is recalled is remembered, and is the result that was kept
pub recall_means : (es : List Entry) (stamp : ℕ) (at : Spot) (r : ℕ) → Some r ≡ recalled es stamp at → (remembered es stamp at ≡ true) × ((entry_at es (slot at (length es))).result ≡ r)
recall_means es stamp at r e =
    ⊎_elim
    (λ hit.
    let got : Some r ≡ Some (entry_at es (slot at (length es))).result = e ∙ cond-true _ _ _ hit in
    let same : (entry_at es (slot at (length es))).result ≡ r = cc in
    (hit, same))
    (λ miss.
    let got : Some r ≡ None = e ∙ cond-false _ _ _ miss in
    let z : ◌≡◌ {A = ℕ} 0 1 = cc in
    absurd (omega arith))
    (cases_Bool (remembered es stamp at))
