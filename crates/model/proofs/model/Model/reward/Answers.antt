use Rattle.std.proofs.Common.{arith}
use Rattle.model.specs.Models.{lists_of}
use Rattle.model.proofs.Lawful.{reward_table, reward_root_named}
use Rattle.model.proofs.model.Model.reward.Goals as goal

pub look-requires : goal.look-requires
look-requires c =
    let x = c.args.self.now in
    record {
      lawful = reward_table x.sizes.conditions x.sizes.moves x.sizes.discount (lists_of x) x.lawful;
      named = reward_root_named x.sizes.conditions x.sizes.moves x.sizes.discount (lists_of x) x.lawful (omega (arith, x.rooted));
    }
