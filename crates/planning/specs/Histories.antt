-- Histories: a start, and then passes, prunings and draws in any order.
--     Given strength e e'        what the two laws ask of a rule that is shown e and gives e': it contains e, and is no wider than the strength or e is
--     History M V k S ds         some history came to the ranges V, with k passes closed, the greatest strength S of a pruning, and the draws ds
--     Contains M V k             the exact value with k stages to go lies within each state's range
--     Narrow M V S               no range is wider than S, or than (2 + d·n) ÷ (1 - d), multiplied out
--     Certified M d              no plan beats the moves of the draw d by more than loss + tail·d^N over N stages, for every N, multiplied out
--     Holds P ds                 P of each draw
use Rattle.std.specs.Prelude.{◌≡◌, ℕ, suc, ◌+◌, ◌-◌, ◌*◌, ◌^◌, ◌<◌, max, List, [], ◌∷◌, ℤ, pos, ◌+ℤ◌, ◌-ℤ◌, ◌≤ℤ◌}
use Rattle.std.specs.Int.{int_max}
use Rattle.ranges.specs.declared.ends.Ends.{Ends}
use Rattle.ranges.specs.Ranges.{ends}
use Rattle.ranges.specs.Whole.{◌·◌}
use Rattle.planning.specs.Models.{Model, IsState, Sound}
use Rattle.planning.specs.Values.{scale, exact, worth, steady}
use Rattle.planning.specs.Passes.{closed}
use Rattle.planning.specs.Draws.{Draw, IsDraw}

abbrev pub span : Ends → ℤ
span e = e.high -ℤ e.low

pub record Given (strength : ℕ) (e e' : Ends) : Type 0 where
  pub below : e'.low ≤ℤ e.low
  pub above : e.high ≤ℤ e'.high
  pub width : span e' ≤ℤ int_max (pos strength) (span e)

-- V and V' agree on all states
abbrev pub Agrees : Model → (ℕ → Ends) → (ℕ → Ends) → Type 0
Agrees M V V' = (s : ℕ) → IsState M s → V s ≡ V' s

pub data History (M : Model) : (ℕ → Ends) → ℕ → ℕ → List Draw → Type 0 where
  started : {V : ℕ → Ends} → Agrees M V (λ s. ends (M.reward s) (M.reward s)) → History M V 0 0 []
  passed : {V V' : ℕ → Ends} {k S : ℕ} {ds : List Draw} → History M V k S ds → Agrees M V' (closed M V) → History M V' (suc k) S ds
  pruned : {V V' : ℕ → Ends} {k S : ℕ} {ds : List Draw} (strength : ℕ) (rule : Ends → Ends) → History M V k S ds → ((s : ℕ) → IsState M s → Given strength (V s) (rule (V s))) →
      Agrees M V' (λ s. rule (V s)) → History M V' k (max S strength) ds
  drew : {V : ℕ → Ends} {k S : ℕ} {ds : List Draw} (d : Draw) → History M V k S ds → IsDraw M V d → History M V k S (d ∷ ds)

abbrev pub Contains : Model → (ℕ → Ends) → ℕ → Type 0
Contains M V k = (s : ℕ) → IsState M s → ((scale M k · (V s).low) ≤ℤ exact M k s) × (exact M k s ≤ℤ (scale M k · (V s).high))

-- 10,000·(1 - d) times the larger of the two widths
abbrev pub bound : Model → ℕ → ℕ
bound M S = max (S * (10000 - M.discount)) (20000 + M.discount * M.conditions)

abbrev pub Narrow : Model → (ℕ → Ends) → ℕ → Type 0
Narrow M V S = (s : ℕ) → IsState M s → ((10000 - M.discount) · span (V s)) ≤ℤ pos (bound M S)

abbrev pub Plan : Model → (ℕ → ℕ → ℕ) → Type 0
Plan M π = (k s : ℕ) → IsState M s → π k s < M.moves

abbrev pub margin : Model → Draw → ℕ → ℕ
margin M d N = scale M N * d.loss_is + (M.discount ^ N * 10000 ^ (M.conditions * N)) * d.tail_is

abbrev pub Certified : Model → Draw → Type 0
Certified M d = (π : ℕ → ℕ → ℕ) → Plan M π → (N s : ℕ) → IsState M s → worth M π N s ≤ℤ (worth M (steady d.moves) N s +ℤ pos (margin M d N))

abbrev pub Holds : (Draw → Type 0) → List Draw → Type 0
Holds P [] = Unit {0}
Holds P (d ∷ ds) = P d × Holds P ds

-- the three theorems
abbrev pub ValuesLieWithin : Type 0
ValuesLieWithin = (M : Model) → Sound M → (V : ℕ → Ends) (k S : ℕ) (ds : List Draw) → History M V k S ds → Contains M V k

abbrev pub RangesStayNarrow : Type 0
RangesStayNarrow = (M : Model) → Sound M → (V : ℕ → Ends) (k S : ℕ) (ds : List Draw) → History M V k S ds → Narrow M V S

abbrev pub AdviceIsCertified : Type 0
AdviceIsCertified = (M : Model) → Sound M → (V : ℕ → Ends) (k S : ℕ) (ds : List Draw) → History M V k S ds → Holds (Certified M) ds
