use Rattle.std.proofs.Common.{◌≡◌, true, false, arith, rules, tests}
use Rattle.std.proofs.lemmas.Iterator.{first_from_Range}
use Rattle.diagram.specs.Lawful.{node_is_lawful}
use Rattle.diagram.proofs.Firsts.{first_found}
use Rattle.diagram.proofs.lawful.NodeList.first_unlawful.Goals as goal

pub returns : goal.returns
returns c =
    let p = node_is_lawful c.args.self.domain c.args.self.leaves c.args.self.nodes.now in
    first_found p _ _ _ _ c.numbers.ensures.start c.numbers.ensures.end
    (first_from_Range _ _ _ _ (λ j. p j ≡ false) (λ j. p j ≡ true) c.find.ensures.ran
    (λ x q k. grind (arith, tests))
    (λ x q k. (search rules, grind (arith, tests))))
