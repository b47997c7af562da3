-- The arithmetic of ranges.
--     ends l h            the ends l and h
--     Ordered e           the low end is not above the high one
--     Inside limit e      both ends lie within ±limit
--     mixed c x y         c parts of x and 10,000 - c parts of y, not yet divided
--     average c one zero  the range of a condition's two branches, `one` with the chance c in ten-thousandths: the low end rounded down, the high end up
--     discounted b e      the range e times b ten-thousandths, rounded outwards likewise
--     plus r e            the range e moved by the reward r
--     loss b spread rise fall    the figure that a draw gives
use Rattle.std.specs.Prelude.{ℕ, ◌+◌, ◌-◌, ◌*◌, ℤ, pos, ◌+ℤ◌, neg_ℤ, ◌≤ℤ◌}
use Rattle.ranges.specs.declared.ends.Ends.{Ends}
use Rattle.ranges.specs.Whole.{◌·◌, floor, ceiling, divided}

abbrev pub ends : ℤ → ℤ → Ends
ends l h = record { low = l; high = h }

abbrev pub Ordered : Ends → Type 0
Ordered e = e.low ≤ℤ e.high

abbrev pub Inside : ℕ → Ends → Type 0
Inside limit e = (neg_ℤ (pos limit) ≤ℤ e.low) × (e.high ≤ℤ pos limit)

abbrev pub mixed : ℕ → ℤ → ℤ → ℤ
mixed c x y = (c · x) +ℤ ((10000 - c) · y)

abbrev pub average : ℕ → Ends → Ends → Ends
average c one zero = ends (floor 10000 (mixed c one.low zero.low)) (ceiling 10000 (mixed c one.high zero.high))

abbrev pub discounted : ℕ → Ends → Ends
discounted b e = ends (floor 10000 (b · e.low)) (ceiling 10000 (b · e.high))

abbrev pub plus : ℤ → Ends → Ends
plus r e = ends (e.low +ℤ r) (e.high +ℤ r)

abbrev pub loss : ℕ → ℕ → ℕ → ℕ → ℕ
loss b spread rise fall = spread + divided (b * (rise + fall)) (10000 - b)
