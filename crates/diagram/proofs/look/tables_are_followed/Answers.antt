use Rattle.std.proofs.Common.{sym}
use Rattle.diagram.proofs.Steps.{follow, reach_leaf}
use Rattle.diagram.proofs.look.tables_are_followed.Goals as goal

pub returns : goal.returns
returns c n leaves nodes lawful r s named =
    record { leaf = λ small. reach_leaf n nodes s r small; node = λ large. sym (follow n leaves nodes s r lawful named large).same }
