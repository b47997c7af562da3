-- The five lists that a caller lends for a reading.
--     held l          what they hold
--     Stays l l'      l' is the same five lists as l, and as long
use Rattle.std.specs.Prelude.{◌≡◌}
use Rattle.model_file.specs.declared.lists.Lists.{Lists as Lent}
use Rattle.model_file.specs.Reading.{Lists, five, room_of}

abbrev pub held : Lent → Lists
held l = five l.rewards.now l.chances.now l.reward_nodes.now l.chance_nodes.now l.roots.now

pub record Stays (l l' : Lent) : Type 0 where
  pub rewards : l'.rewards.ghost_name ≡ l.rewards.ghost_name
  pub chances : l'.chances.ghost_name ≡ l.chances.ghost_name
  pub reward_nodes : l'.reward_nodes.ghost_name ≡ l.reward_nodes.ghost_name
  pub chance_nodes : l'.chance_nodes.ghost_name ≡ l.chance_nodes.ghost_name
  pub roots : l'.roots.ghost_name ≡ l.roots.ghost_name
  pub room : room_of (held l') ≡ room_of (held l)
