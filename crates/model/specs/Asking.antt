-- What a model says of its states.
--     reward_at n l s          the reward of the state s, from the lists l of a model of n conditions
--     chance_at n l a i s      how many times in 10,000 the move a from the state s leaves condition i at 1
--     Told b x r               r is x where b holds, and else the refusal of a number that is out of range
use Rattle.std.specs.Prelude.{◌≡◌, ℕ, ◌+◌, ◌*◌, ◌^◌, Bool, true, false, ℤ, pos, Ok, Err, Result, nat_lt, slice_index, slice_index_or}
use Rattle.diagram.specs.Reads.{leaf_of}
use Rattle.faults.specs.declared.Fault.{Fault}
use Rattle.faults.specs.declared.Fault.TheVariants.{Call}
use Rattle.faults.specs.declared.CallFault.TheVariants.{OutOfRange}
use Rattle.model_file.specs.Reading.{Lists}

abbrev pub reward_at : ℕ → Lists → ℕ → ℤ
reward_at n l s = slice_index_or l.rewards (leaf_of n l.reward_nodes (slice_index l.roots 0) s) (pos 0)

-- the roots are the reward's, then those of move 0 by condition, then those of move 1
abbrev pub chance_root : ℕ → ℕ → ℕ → ℕ
chance_root n a i = 1 + (a * n + i)

abbrev pub chance_at : ℕ → Lists → ℕ → ℕ → ℕ → ℕ
chance_at n l a i s = slice_index l.chances (leaf_of n l.chance_nodes (slice_index l.roots (chance_root n a i)) s)

abbrev pub is_state : ℕ → ℕ → Bool
is_state n s = nat_lt s (2 ^ n)

abbrev pub Told : {X : Type 0} → Bool → X → Result X Fault → Type 0
Told b x (Ok v) = (b ≡ true) × (v ≡ x)
Told b x (Err f) = (b ≡ false) × (f ≡ Call OutOfRange)
