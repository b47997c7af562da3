use Rattle.std.proofs.Common.{◌<◌, arith, rules}
use Rattle.std.proofs.lemmas.List.{take_rest}
use Rattle.std.proofs.lemmas.Result.{err_from_is_err_and}
use Rattle.model_file.specs.Lists.{held}
use Rattle.model_file.proofs.Progress.{begun, misshapen, unroomed, advanced, finished, unfinished, Progress}
use Rattle.model_file.proofs.read.read.Goals as goal
use Rattle.model_file.proofs.read.read.Goals.{In_ok-mark}

pub loop-mark-init : goal.loop-mark-init
loop-mark-init c = (begun _ _ _ (search rules), search rules)

pub returns-in_err-field-clause-read : goal.returns-in_err-field-clause-read
returns-in_err-field-clause-read c =
    let q = err_from_is_err_and c.from_residual.result c.from_residual.ensures.1 in
    rw (q.1, q.2) (misshapen c.loop-mark.invariant.0 (take_rest c.args.file.now c.loop-mark.mark.place) c.loop-mark-test.true c.in_err-field.ensures)

pub returns-in_err-mark-clause-read : goal.returns-in_err-mark-clause-read
returns-in_err-mark-clause-read c =
    let q = err_from_is_err_and c.from_residual-in_err-mark.result c.from_residual-in_err-mark.ensures.1 in
    let f = c.in_ok-field.ensures in
    let i = c.loop-mark.invariant.0 in
    rw (q.1, q.2) (unroomed i (take_rest c.args.file.now c.loop-mark.mark.place) c.loop-mark-test.true f.0.tagged f.0.holding f.1 (search rules) (c.in_err-mark.ensures.stored i.taken _ i.marked i.held))

after : (c : In_ok-mark) → Progress c.args.file.now (held c.args.lists.now) (held c.store.new.lists) c.in_ok-mark.mark × (c.loop-mark.mark.place < c.in_ok-mark.mark.place)
after c =
    let f = c.in_ok-field.ensures in
    let i = c.loop-mark.invariant.0 in
    advanced i (take_rest c.args.file.now c.loop-mark.mark.place) c.loop-mark-test.true f.0.tagged f.0.holding f.1 (search rules) (c.in_ok-mark.ensures.stored i.taken _ i.marked i.held)

pub loop-mark-smaller : goal.loop-mark-smaller
loop-mark-smaller c = let a = after c in omega (arith, a.0.within, a.0.marked.place, a.1)

pub loop-mark-preserved : goal.loop-mark-preserved
loop-mark-preserved c = ((after c).0, search rules)

pub returns-then-not-is_complete-clause-read : goal.returns-then-not-is_complete-clause-read
returns-then-not-is_complete-clause-read c =
    rw c.into.ensures (unfinished c.loop-mark.invariant.0 c.loop-mark-test.false (search rules))

pub returns-clause-read : goal.returns-clause-read
returns-clause-read c = finished c.loop-mark.invariant.0 c.loop-mark-test.false (search rules)
