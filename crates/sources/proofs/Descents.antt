-- Three references over a level: where they lead, and that a level none of them tests leaves them as they are.
use Rattle.std.proofs.Common.{◌≡◌, ℕ, suc, ◌<◌, ◌≤◌, Bool, List, ◌∷◌, refl, arith}
use Rattle.diagram.specs.Reads.{reach}
use Rattle.sources.specs.declared.spot.Spot.{Spot}
use Rattle.sources.specs.declared.three.Sources.{Sources}
use Rattle.sources.specs.Spots.{levels, top, down, AllNamed, AllReadable, values}
use Rattle.sources.proofs.Stepping.{step_quiet, place_le, step_named, step_later}

-- f is read from three references: its first bit leads over a level
pub record Descends {A B C X : Type 0} (S : Sources A B C) (f : ℕ → Spot → List Bool → X) : Type 0 where
  pub step : (k : ℕ) (x : Bool) (at : Spot) (bs : List Bool) → f k at (x ∷ bs) ≡ f (suc k) (down S k x at) bs

module _ {A B C : Type 0} (S : Sources A B C) where
  pub values_descend : {X : Type 0} (give : A → B → C → X) (a : A) (b : B) (c : C) → Descends S (values give a b c S)
  unfolding reach
  values_descend give a b c = record { step = λ k x at bs. refl }

  pub down_quiet : (k : ℕ) (x : Bool) (at : Spot) → k < top S at → down S k x at ≡ at
  down_quiet k x at less =
      let p = step_quiet S.first (levels S) k x at.first (omega arith) in
      let q = step_quiet S.second (levels S) k x at.second (omega arith) in
      let r = step_quiet S.third (levels S) k x at.third (omega arith) in
      λ j. record { first = p j; second = q j; third = r j }

  module _ (ok : AllReadable S) where
    pub top_le : (at : Spot) → AllNamed S at → top S at ≤ levels S
    top_le at h = omega (arith, place_le S.first (levels S) ok.first at.first h.first)

    pub down_named : (k : ℕ) (x : Bool) (at : Spot) → AllNamed S at → AllNamed S (down S k x at)
    down_named k x at h =
        record {
          first = step_named S.first (levels S) ok.first k x at.first h.first;
          second = step_named S.second (levels S) ok.second k x at.second h.second;
          third = step_named S.third (levels S) ok.third k x at.third h.third;
        }

    pub down_later : (k : ℕ) (x : Bool) (at : Spot) → AllNamed S at → k ≤ top S at → k < levels S → suc k ≤ top S (down S k x at)
    down_later k x at h le less =
        let p = step_later S.first (levels S) ok.first k x at.first h.first (omega arith) less in
        let q = step_later S.second (levels S) ok.second k x at.second h.second (omega arith) less in
        let r = step_later S.third (levels S) ok.third k x at.third h.third (omega arith) less in
        omega arith
