-- What a visit comes to: at three leaves, at what was surveyed before, and at a level that is tested; and what the memo says after it.
use Rattle.std.proofs.Common.{◌≡◌, ℕ, ◌+◌, ◌<◌, ◌≤◌, max, Bool, true, false, List, [], length, set, suc, sym, ap, ◌∙◌, subst, ⊎_elim, arith, length-set, get_or-set_other, get_or-set_same}
use Rattle.std.proofs.lemmas.Bool.{cases_eq}
use Rattle.sources.specs.declared.entry.Entry.{Entry}
use Rattle.sources.specs.declared.memo.Memo.{Memo}
use Rattle.sources.specs.declared.spot.Branches.{Branches}
use Rattle.sources.specs.declared.spot.Spot.{Spot}
use Rattle.sources.specs.declared.three.Sources.{Sources}
use Rattle.sources.specs.Carried.{Carried}
use Rattle.sources.specs.Memos.{none, slot, kept, entry_at, remembered}
use Rattle.sources.specs.Spots.{levels, top, down}
use Rattle.sources.proofs.Recalls.{slot_below, remembered_means}
use Rattle.sources.proofs.Visits.{Visit, Parts, inside}
use Rattle.survey.specs.Surveyed.{greatest_from, Passed, Surveyed}
use Rattle.survey.proofs.Levels.{at_leaves, at_node, to_top}

module _ {A B C : Type 0} {S : Sources A B C} {f : ℕ → Spot → List Bool → ℕ} {from : ℕ} {at : Spot} (v : Visit S f from at) where
  pub better_surveyed : (m : Memo) {best best' : ℕ} → best ≤ best' → Surveyed S f m.entries.now m.stamp best → Surveyed S f m.entries.now m.stamp best'
  better_surveyed m le s j l e = let h = s j l e in omega arith

  pub surveyed_same : {m m' : Memo} (best : ℕ) → m'.entries ≡ m.entries → Carried m m' → Surveyed S f m.entries.now m.stamp best → Surveyed S f m'.entries.now m'.stamp best
  surveyed_same {m} {m'} best same carried s = subst (λ z. Surveyed S f z m'.stamp best) (ap (λ e. e.now) (sym same)) (subst (λ z. Surveyed S f m.entries.now z best) (sym carried.stamp) s)

  pub remembered_passed : (m : Memo) (best : ℕ) → Surveyed S f m.entries.now m.stamp best → {t : Bool} → t ≡ remembered m.entries.now m.stamp at → t ≡ true → Passed S f best at
  remembered_passed m best s is hit =
      let c = remembered_means m.entries.now m.stamp at m.some (sym is ∙ hit) in
      subst (Passed S f best) c.placed (s (slot at (length m.entries.now)) c.within c.stamped)

  kept_surveyed : (es : List Entry) (stamp best r i : ℕ) → Surveyed S f es stamp best → Passed S f best at → i < length es → Surveyed S f (set es i (kept stamp at r)) stamp best
  kept_surveyed es stamp best r i s passed within j l st =
      ⊎_elim
      (λ same_place.
      let here : entry_at (set es i (kept stamp at r)) j ≡ kept stamp at r = ap (entry_at (set es i (kept stamp at r))) same_place ∙ get_or-set_same es i (kept stamp at r) none within in
      subst (λ e. Passed S f best e.spot) (sym here) passed)
      (λ other.
      let there : entry_at (set es i (kept stamp at r)) j ≡ entry_at es j = get_or-set_other es i j (kept stamp at r) none other in
      subst (λ e. Passed S f best e.spot) (sym there) (s j (omega (arith, length-set es i (kept stamp at r))) (ap (λ e. e.stamp) (sym there) ∙ st)))
      (cases_eq j i)

  -- the memo after a triple is remembered
  pub remembers_surveyed : {m m' : Memo} {best : ℕ} (r : ℕ) → Surveyed S f m.entries.now m.stamp best → Passed S f best at → Carried m m' → m'.entries.now ≡ set m.entries.now (slot at (length m.entries.now)) (kept m.stamp at r) →
      Surveyed S f m'.entries.now m'.stamp best
  remembers_surveyed {m} {m'} {best} r s passed carried written =
      let es = m.entries.now in
      subst (λ z. Surveyed S f z m'.stamp best) (sym written)
      (subst (λ z. Surveyed S f (set es (slot at (length es)) (kept m.stamp at r)) z best) (sym carried.stamp) (kept_surveyed es m.stamp best r (slot at (length es)) s passed (slot_below at (length es) m.some)))

module _ {A B C : Type 0} {S : Sources A B C} {f : ℕ → Spot → List Bool → ℕ} {from : ℕ} {at : Spot} (v : Visit S f from at) where
  abbrev all : ℕ
  all = greatest_from S from (f from at)

  whole : all ≡ greatest_from S (top S at) (f (top S at) at)
  whole = to_top v.descends from at v.above (inside v)

  pub leaf_visit : (best : ℕ) {x most : ℕ} → top S at ≡ levels S → x ≡ f (levels S) at [] → most ≡ max best x → most ≡ max best all
  leaf_visit best end is greatest = greatest ∙ ap (max best) (is ∙ sym (at_leaves S f at) ∙ sym (whole ∙ ap (λ k. greatest_from S k (f k at)) end))

  pub passed_visit : (best : ℕ) → Passed S f best at → best ≡ max best all
  passed_visit best passed = let w = whole in omega arith

module _ {A B C : Type 0} {S : Sources A B C} {f : ℕ → Spot → List Bool → ℕ} {from level : ℕ} {at : Spot} {ahead : Branches} (d : Parts S f from at level ahead) where
  abbrev half : Spot → ℕ
  half s = greatest_from S (level + 1) (f (level + 1) s)

  parted : greatest_from S (top S at) (f (top S at) at) ≡ max (half ahead.one) (half ahead.zero)
  parted =
      ap (λ k. greatest_from S k (f k at)) (sym d.is) ∙ at_node d.visit.descends level at d.less
      ∙ ap (λ k. max (greatest_from S k (f k (down S level true at))) (greatest_from S k (f k (down S level false at)))) {x = suc level} {y = level + 1} (omega arith)
      ∙ ap (λ s. max (half s) (half (down S level false at))) (sym d.one) ∙ ap (λ s. max (half ahead.one) (half s)) (sym d.zero)

  module _ (best : ℕ) {better most : ℕ} (p : better ≡ max best (half ahead.one)) (q : most ≡ max better (half ahead.zero)) where
    pub node_visit : most ≡ max best (greatest_from S from (f from at))
    node_visit = let w = whole d.visit in let h = parted in omega arith

    pub node_passed : Passed S f most at
    node_passed = let h = parted in omega arith
