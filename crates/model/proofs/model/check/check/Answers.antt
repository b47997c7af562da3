use Rattle.std.proofs.Common.{Some, None, sym, subst}
use Rattle.std.proofs.lemmas.Result.{err_from_is_err_and}
use Rattle.model.specs.Held.{lists_in}
use Rattle.model.specs.Models.{IsModel}
use Rattle.model.proofs.Checked.{decided}
use Rattle.model.proofs.model.check.check.Goals as goal

pub returns-in_err-fill : goal.returns-in_err-fill
returns-in_err-fill c =
    let q = err_from_is_err_and c.from_residual.result c.from_residual.ensures.1 in
    let told = c.in_err-fill.ensures in
    rw (q.1, q.2) (record { answer = decided c.args.draft (lists_in c.args.lists) _ (Some _) c.counted.ensures (sym c.if-not-are_long_enough.ensures) told.answer; leaves = told.leaves })

pub returns : goal.returns
returns c =
    let told = c.in_ok-fill.ensures in
    record {
      answer = decided c.args.draft (lists_in c.args.lists) _ None c.counted.ensures (sym c.if-not-are_long_enough.ensures) told.answer;
      leaves = subst (λ l. IsModel c.args.draft.sizes l c.fill.new.model) c.counted.ensures told.leaves;
    }
