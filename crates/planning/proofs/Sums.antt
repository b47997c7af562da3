-- The sum over all states after a move is its conditions averaged one by one, the highest first.
use Rattle.std.proofs.Common.{◌≡◌, ℕ, zero, suc, ◌+◌, ◌-◌, ◌*◌, ◌^◌, ◌<◌, cond, ℤ, ◌+ℤ◌, sym, refl, ap, ◌∙◌, add-zero, add-suc, add_comm, arith}
use native.Mathlib.Nat.{two-pow-succ}
use borrow.Author.Differences.{ints}
use lib.IntN.{+ℤ_idl, +ℤ_idr, +ℤ_assoc, +ℤ_comm}
use Rattle.ranges.specs.Ranges.{mixed}
use Rattle.ranges.specs.Whole.{◌·◌}
use Rattle.planning.specs.Values.{weight, sum, expected, nested, SumsAreNested}
use Rattle.diagram.proofs.Bits.{bit_clear}
use Rattle.planning.proofs.Bits.{top_set, weight_same}
use Rattle.planning.proofs.Scaled.{times_sum, times_times, one_times}

sum_add : (p q : ℕ) (f : ℕ → ℤ) → sum (p + q) f ≡ sum p f +ℤ sum q (λ t. f (t + p))
sum_add p zero f = ap (λ n. sum n f) (add-zero p) ∙ sym (+ℤ_idr (sum p f))
sum_add p (suc q) f =
    ap (λ n. sum n f) (add-suc p q) ∙ ap (λ z. z +ℤ f (p + q)) (sum_add p q f) ∙ ap (λ n. (sum p f +ℤ sum q (λ t. f (t + p))) +ℤ f n) (add_comm p q) ∙ +ℤ_assoc (sum p f) (sum q (λ t. f (t + p))) (f (q + p))

sum_both : (k : ℕ) (f g : ℕ → ℤ) → sum k f +ℤ sum k g ≡ sum k (λ t. f t +ℤ g t)
sum_both zero f g = refl
sum_both (suc k) f g =
    let e : (sum k f +ℤ f k) +ℤ (sum k g +ℤ g k) ≡ (sum k f +ℤ sum k g) +ℤ (f k +ℤ g k) = omega (arith, ints) in
    e ∙ ap (λ z. z +ℤ (f k +ℤ g k)) (sum_both k f g)

pub sum_same : (k : ℕ) (f g : ℕ → ℤ) → ((t : ℕ) → t < k → f t ≡ g t) → sum k f ≡ sum k g
sum_same zero f g h = refl
sum_same (suc k) f g h = ap (λ z. z +ℤ f k) (sum_same k f g (λ t l. h t (omega arith))) ∙ ap (λ z. sum k g +ℤ z) (h k (omega arith))

-- the two states that differ in the top bit
pair : (w c : ℕ) (x y : ℤ) → ((w * (10000 - c)) · y) +ℤ ((w * c) · x) ≡ w · mixed c x y
pair w c x y =
    ap (λ z. z +ℤ ((w * c) · x)) (sym (times_times w (10000 - c) y)) ∙ ap (λ z. (w · ((10000 - c) · y)) +ℤ z) (sym (times_times w c x))
    ∙ +ℤ_comm (w · ((10000 - c) · y)) (w · (c · x)) ∙ sym (times_sum w (c · x) ((10000 - c) · y))

top_out : (c : ℕ → ℕ) (i : ℕ) (X : ℕ → ℤ) → sum (2 ^ suc i) (λ t. weight c (suc i) t · X t) ≡ sum (2 ^ i) (λ t. weight c i t · mixed (c i) (X (t + 2 ^ i)) (X t))
top_out c i X =
    let f : ℕ → ℤ = λ t. weight c (suc i) t · X t in
    let halves : sum (2 ^ suc i) f ≡ sum (2 ^ i) f +ℤ sum (2 ^ i) (λ t. f (t + 2 ^ i)) = ap (λ n. sum n f) (two-pow-succ i) ∙ sum_add (2 ^ i) (2 ^ i) f in
    halves ∙ sum_both (2 ^ i) f (λ t. f (t + 2 ^ i)) ∙ sum_same (2 ^ i) (λ t. f t +ℤ f (t + 2 ^ i)) (λ t. weight c i t · mixed (c i) (X (t + 2 ^ i)) (X t))
    (λ t low.
    let a : f t ≡ (weight c i t * (10000 - c i)) · X t = ap (λ b. (weight c i t * cond b (c i) (10000 - c i)) · X t) (bit_clear i t low) in
    let b : f (t + 2 ^ i) ≡ (weight c i t * c i) · X (t + 2 ^ i) =
    ap (λ v. (weight c i (t + 2 ^ i) * cond v (c i) (10000 - c i)) · X (t + 2 ^ i)) (top_set i t low) ∙ ap (λ w. (w * c i) · X (t + 2 ^ i)) (weight_same c i i t (omega arith)) in
    ap (λ z. z +ℤ f (t + 2 ^ i)) a ∙ ap (λ z. ((weight c i t * (10000 - c i)) · X t) +ℤ z) b ∙ pair (weight c i t) (c i) (X (t + 2 ^ i)) (X t))

all_out : (c : ℕ → ℕ) (i : ℕ) (X : ℕ → ℤ) → sum (2 ^ i) (λ t. weight c i t · X t) ≡ nested c i X
all_out c zero X = +ℤ_idl (1 · X 0) ∙ one_times (X 0)
all_out c (suc i) X = top_out c i X ∙ all_out c i (λ t. mixed (c i) (X (t + 2 ^ i)) (X t))

pub sums_nested : SumsAreNested
unfolding expected
sums_nested M a s X = all_out (λ i. M.chance a i s) M.conditions X
