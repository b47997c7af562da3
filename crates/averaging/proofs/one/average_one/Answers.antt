use Rattle.averaging.proofs.Laying.{all_readable, allowed, all_named, averaged}
use Rattle.averaging.proofs.Repeating.{again}
use Rattle.averaging.proofs.one.average_one.Goals as goal

pub build-requires-clause-allowed : goal.build-requires-clause-allowed
build-requires-clause-allowed c = allowed c.args.model.now c.root_of-root.result c.args.condition c.args.table c.requires.averageable c.sources_of-sources.result c.sources_of-sources.ensures

pub returns-clause-built : goal.returns-clause-built
returns-clause-built c = averaged c.args.model.now c.root_of-root.result c.args.condition c.args.table c.requires.averageable c.sources_of-sources.result c.sources_of-sources.ensures c.args.chosen c.root_of-root.ensures c.requires.chosen_exists c.requires.condition_exists _ _ _ _ c.build.ensures.built

pub returns-clause-again : goal.returns-clause-again
returns-clause-again c =
    again c.args.model.now c.args.chosen c.args.condition.0 c.args.table.leaves.now c.args.table.nodes.now c.args.table.root c.requires.averageable c.args.capacity c.requires.roomy.small _ _ _
    (returns-clause-built c)

pub invariant_of-reading : goal.invariant_of-reading
invariant_of-reading c =
    let S = c.sources_of-sources.result in
    let laid = c.sources_of-sources.ensures in
    record {
      readable = all_readable c.args.model.now c.root_of-root.result c.args.condition c.args.table c.requires.averageable S laid;
      rooted = all_named c.args.model.now c.root_of-root.result c.args.condition c.args.table c.requires.averageable S laid c.args.chosen c.root_of-root.ensures c.requires.chosen_exists c.requires.condition_exists;
    }
