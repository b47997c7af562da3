use Rattle.std.proofs.Common.{length, subst, ⊎_elim, arith}
use Rattle.std.proofs.lemmas.Bool.{ne_eqb}
use Rattle.diagram.specs.Lawful.{Lawful}
use Rattle.sources.proofs.Readables.{readable_own, readable_after}
use Rattle.sources.proofs.input.Input.is_readable.Goals as goal

pub returns-clause-readable : goal.returns-clause-readable
returns-clause-readable g c =
    let i = c.args.self in
    let n = c.args.conditions in
    λ yes.
    ⊎_elim
    (λ past. readable_after i n (omega arith) (subst (λ b. Lawful (record { conditions = n; after = b }) (length i.table.leaves.now) i.table.nodes.now) (ne_eqb _ _ past.0) (c.is_lawful.ensures.0 yes)))
    (λ own. readable_own i _ own (c.is_lawful.ensures.0 yes))
    c.else-not-after.either
