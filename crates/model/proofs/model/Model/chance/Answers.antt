use Rattle.std.proofs.Common.{arith}
use Rattle.model.specs.Asking.{chance_root}
use Rattle.model.specs.Models.{lists_of}
use Rattle.model.proofs.Lawful.{chance_table, chance_root_named, chance_root_within}
use Rattle.model.proofs.model.Model.chance.Goals as goal

pub bounds-self-root : goal.bounds-self-root
bounds-self-root c =
    let x = c.args.self.now in
    chance_root_within x.sizes.conditions x.sizes.moves c.args.chosen c.args.condition.0 _ x.rooted c.if-chosen-moves.false c.if-condition-conditions.false

pub look-requires : goal.look-requires
look-requires c =
    let x = c.args.self.now in
    record {
      lawful = chance_table x.sizes.conditions x.sizes.moves x.sizes.discount (lists_of x) x.lawful;
      named = chance_root_named x.sizes.conditions x.sizes.moves x.sizes.discount (lists_of x) x.lawful (chance_root x.sizes.conditions c.args.chosen c.args.condition.0) (omega arith)
          (chance_root_within x.sizes.conditions x.sizes.moves c.args.chosen c.args.condition.0 _ x.rooted c.if-chosen-moves.false c.if-condition-conditions.false);
    }
