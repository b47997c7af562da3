use Rattle.std.proofs.Common.{◌≡◌, ℕ, ◌≤◌, arith, rules}
use Rattle.sources.specs.declared.reading.Reading.{Reading}
use Rattle.sources.specs.declared.spot.Spot.{Spot}
use Rattle.sources.specs.Spots.{levels, top, values, AllNamed}
use Rattle.sources.proofs.Visits.{Visit, visit_of, tested, parts, visit_one, visit_zero}
use Rattle.survey.proofs.Visits.{leaf_visit, passed_visit, node_visit, node_passed, remembered_passed, better_surveyed, surveyed_same, remembers_surveyed}
use Rattle.survey.proofs.survey.+visit.Given as given
use Rattle.survey.proofs.survey.+visit.Goals as goal

visit : (g : given.Over) (figure : g.row.F.Denot) (r : Reading g.row.F-First.Denot g.row.F-Second.Denot g.row.F-Third.Denot) {from : ℕ} {at : Spot} → AllNamed r.sources at → from ≤ top r.sources at →
    Visit r.sources (values (g.F.Combining.meaning figure) g.F.First.Interned.blank g.F.Second.Interned.blank g.F.Third.Interned.blank r.sources) from at
visit g figure r = visit_of r (g.F.Combining.meaning figure) g.F.First.Interned.blank g.F.Second.Interned.blank g.F.Third.Interned.blank

pub returns-then-level-levels : goal.returns-then-level-levels
returns-then-level-levels g t c =
    let v = visit g c.args.figure c.args.reading c.requires.named c.requires.above in
    let end : top c.args.reading.sources c.args.at ≡ levels c.args.reading.sources = omega (arith, c.top_of-level.ensures, c.levels.ensures, c.if-level-levels.true) in
    let surveyed = surveyed_same v c.args.best c.count_visit.ensures.same c.count_visit.ensures.carried c.requires.surveyed in
    record {
      greatest = leaf_visit v c.args.best end c.combined_at.ensures c.better_of.ensures;
      surveyed = better_surveyed v c.count_visit.new.self (omega (arith, c.better_of.ensures)) surveyed;
      carried = search rules;
    }

pub returns-then-is_remembered : goal.returns-then-is_remembered
returns-then-is_remembered g t c =
    let v = visit g c.args.figure c.args.reading c.requires.named c.requires.above in
    let surveyed = surveyed_same v c.args.best c.count_visit.ensures.same c.count_visit.ensures.carried c.requires.surveyed in
    record {
      greatest = passed_visit v c.args.best (remembered_passed v c.count_visit.new.self c.args.best surveyed c.is_remembered.ensures c.if-is_remembered.true);
      surveyed = surveyed;
      carried = search rules;
    }

pub overflow_add-next : goal.overflow_add-next
overflow_add-next g t c =
    let v = visit g c.args.figure c.args.reading c.requires.named c.requires.above in
    let less = tested v c.top_of-level.ensures c.levels.ensures c.if-level-levels.false in
    search rules

pub visit-better-requires : goal.visit-better-requires
visit-better-requires g t c =
    let v = visit g c.args.figure c.args.reading c.requires.named c.requires.above in
    let d = parts v c.top_of-level.ensures c.levels.ensures c.if-level-levels.false c.branches_from-ahead.ensures.one c.branches_from-ahead.ensures.zero in
    let less = d.less in
    let next = visit_one d in
    let surveyed = surveyed_same v c.args.best c.count_visit.ensures.same c.count_visit.ensures.carried c.requires.surveyed in
    search rules

pub visit-most-requires : goal.visit-most-requires
visit-most-requires g t c =
    let v = visit g c.args.figure c.args.reading c.requires.named c.requires.above in
    let d = parts v c.top_of-level.ensures c.levels.ensures c.if-level-levels.false c.branches_from-ahead.ensures.one c.branches_from-ahead.ensures.zero in
    let less = d.less in
    let next = visit_zero d in
    let surveyed = c.visit-better.ensures.surveyed in
    search rules

pub returns : goal.returns
returns g t c =
    let v = visit g c.args.figure c.args.reading c.requires.named c.requires.above in
    let d = parts v c.top_of-level.ensures c.levels.ensures c.if-level-levels.false c.branches_from-ahead.ensures.one c.branches_from-ahead.ensures.zero in
    let better = c.visit-better.ensures in
    let most = c.visit-most.ensures in
    record {
      greatest = node_visit d c.args.best better.greatest most.greatest;
      surveyed = remembers_surveyed v 0 most.surveyed (node_passed d c.args.best better.greatest most.greatest) c.remember.ensures.carried c.remember.ensures.written;
      carried = search rules;
    }
