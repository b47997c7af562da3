use Rattle.std.proofs.Common.{◌+◌, ◌-◌, ◌*◌, ◌^◌, div-le_self, arith}
use Rattle.std.proofs.lemmas.Nat.{mul-le}
use Rattle.ranges.proofs.loss.loss_of.Goals as goal

pub overflow_add-result-2 : goal.overflow_add-result-2
overflow_add-result-2 c =
    let b = c.from.result in
    let changes = c.args.rise + c.args.fall in
    let rest = c.from-rest.result in
    omega (arith, mul-le b changes 9999 (2 ^ 43) (omega arith) (omega arith), div-le_self (b * changes + (rest - 1)) rest)
