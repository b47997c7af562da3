use Rattle.std.proofs.Common.{ℕ, ◌<◌, ◌≤◌}
use Rattle.sources.specs.Memos.{entry_at}
use Rattle.sources.proofs.entry.wipe.Given as goal

abbrev pub invariant-loop-j : goal.invariant-loop-j
invariant-loop-j l = (k : ℕ) → k < l.j → (entry_at l.entries k).stamp ≤ 0
