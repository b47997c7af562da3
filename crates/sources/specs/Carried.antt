-- What stays of a memo while it is used.
--     Carried m m'    m' is the memo m with other entries: the same stamp and the same lent list
use Rattle.std.specs.Prelude.{◌≡◌, length}
use Rattle.sources.specs.declared.memo.Memo.{Memo}

pub record Carried (m m' : Memo) : Type 0 where
  pub stamp : m'.stamp ≡ m.stamp
  pub long : length m'.entries.now ≡ length m.entries.now
  pub lent : m'.entries.ghost_name ≡ m.entries.ghost_name
