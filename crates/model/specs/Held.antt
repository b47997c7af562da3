-- What the lists of a model hold.
use Rattle.model.specs.declared.model.held.Held.{Held}
use Rattle.model_file.specs.Reading.{Lists, five}

abbrev pub lists_in : Held → Lists
lists_in h = five h.rewards.now h.chances.now h.reward_nodes.now h.chance_nodes.now h.roots.now
