-- Three references from which a function is read on, and the level that one of them tests.
use Rattle.std.proofs.Common.{◌≡◌, ℕ, ◌+◌, ◌<◌, ◌≤◌, Bool, true, false, List, sym, subst, arith}
use Rattle.sources.specs.declared.reading.Reading.{Reading}
use Rattle.sources.specs.declared.spot.Branches.{Branches}
use Rattle.sources.specs.declared.spot.Spot.{Spot}
use Rattle.sources.specs.declared.three.Sources.{Sources}
use Rattle.sources.specs.Spots.{levels, top, down, AllNamed, AllReadable, values}
use Rattle.sources.proofs.Descents.{Descends, values_descend, top_le, down_named, down_later}

-- f is read from the references `at` over the levels from `from` on
pub record Visit {A B C X : Type 0} (S : Sources A B C) (f : ℕ → Spot → List Bool → X) (from : ℕ) (at : Spot) : Type 0 where
  pub descends : Descends S f
  pub readable : AllReadable S
  pub named : AllNamed S at
  pub above : from ≤ top S at

pub visit_of : {A B C X : Type 0} (r : Reading A B C) (give : A → B → C → X) (a : A) (b : B) (c : C) {from : ℕ} {at : Spot} → AllNamed r.sources at → from ≤ top r.sources at → Visit r.sources (values give a b c r.sources) from at
visit_of r give a b c named above = record { descends = values_descend r.sources give a b c; readable = r.readable; named = named; above = above }

module _ {A B C X : Type 0} {S : Sources A B C} {f : ℕ → Spot → List Bool → X} {from : ℕ} {at : Spot} (v : Visit S f from at) where
  pub inside : top S at ≤ levels S
  inside = top_le S v.readable at v.named

  -- what the test of a visit says of the level
  pub tested : {level last : ℕ} → level ≡ top S at → last ≡ levels S → (level ≡ last → ⊥) → level < levels S
  tested is end deep = let le = inside in omega arith

-- the level that is tested, and where the references lead over it
pub record Parts {A B C X : Type 0} (S : Sources A B C) (f : ℕ → Spot → List Bool → X) (from : ℕ) (at : Spot) (level : ℕ) (ahead : Branches) : Type 0 where
  pub visit : Visit S f from at
  pub is : level ≡ top S at
  pub less : level < levels S
  pub one : ahead.one ≡ down S level true at
  pub zero : ahead.zero ≡ down S level false at

pub parts : {A B C X : Type 0} {S : Sources A B C} {f : ℕ → Spot → List Bool → X} {from level last : ℕ} {at : Spot} {ahead : Branches} → Visit S f from at → level ≡ top S at → last ≡ levels S → (level ≡ last → ⊥) →
    ahead.one ≡ down S level true at → ahead.zero ≡ down S level false at → Parts S f from at level ahead
parts v is end deep one zero = record { visit = v; is = is; less = tested v is end deep; one = one; zero = zero }

module _ {A B C X : Type 0} {S : Sources A B C} {f : ℕ → Spot → List Bool → X} {from level : ℕ} {at : Spot} {ahead : Branches} (p : Parts S f from at level ahead) where
  beyond : (x : Bool) (s : Spot) → s ≡ down S level x at → Visit S f (level + 1) s
  beyond x s e =
      let v = p.visit in
      let is = p.is in
      let later = down_later S v.readable level x at v.named (omega arith) p.less in
      subst (Visit S f (level + 1)) (sym e) (record { descends = v.descends; readable = v.readable; named = down_named S v.readable level x at v.named; above = omega arith })

  -- the visits of the two halves
  pub visit_one : Visit S f (level + 1) ahead.one
  visit_one = beyond true ahead.one p.one

  pub visit_zero : Visit S f (level + 1) ahead.zero
  visit_zero = beyond false ahead.zero p.zero
