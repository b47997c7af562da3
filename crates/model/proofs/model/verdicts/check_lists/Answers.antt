use Rattle.std.proofs.lemmas.Result.{err_from_is_err_and}
use Rattle.model.specs.Held.{lists_in}
use Rattle.model.proofs.Chain.{rewards_fail, chances_fail, reward_nodes_fail, chance_nodes_fail, roots_verdict}
use Rattle.model.proofs.model.verdicts.check_lists.Goals as goal

pub returns-in_err-check_limits : goal.returns-in_err-check_limits
returns-in_err-check_limits c =
    let q = err_from_is_err_and c.from_residual-in_err-check_limits.result c.from_residual-in_err-check_limits.ensures.1 in
    rw (q.1, q.2) (rewards_fail c.args.sizes.conditions c.args.sizes.moves c.args.sizes.discount (lists_in c.args.lists) _ c.in_ok-check_sizes.ensures c.in_err-check_limits.ensures)

pub returns-in_err-check_limits-2 : goal.returns-in_err-check_limits-2
returns-in_err-check_limits-2 c =
    let q = err_from_is_err_and c.from_residual-in_err-check_limits-2.result c.from_residual-in_err-check_limits-2.ensures.1 in
    rw (q.1, q.2) (chances_fail c.args.sizes.conditions c.args.sizes.moves c.args.sizes.discount (lists_in c.args.lists) _ c.in_ok-check_sizes.ensures c.in_ok-check_limits.ensures c.in_err-check_limits-2.ensures)

pub returns-in_err-check_nodes : goal.returns-in_err-check_nodes
returns-in_err-check_nodes c =
    let q = err_from_is_err_and c.from_residual-in_err-check_nodes.result c.from_residual-in_err-check_nodes.ensures.1 in
    rw (q.1, q.2) (reward_nodes_fail c.args.sizes.conditions c.args.sizes.moves c.args.sizes.discount (lists_in c.args.lists) c.in_ok-check_sizes.ensures c.in_ok-check_limits.ensures c.in_ok-check_limits-2.ensures _ c.in_err-check_nodes.ensures)

pub returns-in_err-check_nodes-2 : goal.returns-in_err-check_nodes-2
returns-in_err-check_nodes-2 c =
    let q = err_from_is_err_and c.from_residual-in_err-check_nodes-2.result c.from_residual-in_err-check_nodes-2.ensures.1 in
    rw (q.1, q.2) (chance_nodes_fail c.args.sizes.conditions c.args.sizes.moves c.args.sizes.discount (lists_in c.args.lists) c.in_ok-check_sizes.ensures c.in_ok-check_limits.ensures c.in_ok-check_limits-2.ensures _ c.in_ok-check_nodes.ensures c.in_err-check_nodes-2.ensures)

pub returns : goal.returns
returns c =
    roots_verdict c.args.sizes.conditions c.args.sizes.moves c.args.sizes.discount (lists_in c.args.lists) c.in_ok-check_sizes.ensures c.in_ok-check_limits.ensures c.in_ok-check_limits-2.ensures c.check_roots.result c.in_ok-check_nodes.ensures c.in_ok-check_nodes-2.ensures
    c.check_roots.ensures
