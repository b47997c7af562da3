use Rattle.std.proofs.Common.{◌≡◌, ℕ, ◌≤◌, arith, rules}
use Rattle.reduction.specs.Listed.{Same}
use Rattle.sources.specs.declared.reading.Reading.{Reading}
use Rattle.sources.specs.declared.spot.Spot.{Spot}
use Rattle.sources.specs.Spots.{levels, top, values, AllNamed}
use Rattle.sources.proofs.Visits.{Visit, visit_of, tested, parts, visit_one, visit_zero}
use Rattle.combine.proofs.Ends.{known_done, leaf_done}
use Rattle.combine.proofs.Halves.{one_none, zero_none, unlinked_done, linked_done}
use Rattle.combine.proofs.Lasting.{working_same}
use Rattle.combine.proofs.combine.+visit.Given as given
use Rattle.combine.proofs.combine.+visit.Goals as goal

sameness : (g : given.Over) → Same g.C.Out.Interned.equal
sameness g = record { means = g.met.C.Out.Interned.means; self = g.met.C.Out.Interned.reflexive }

visit : (g : given.Over) (combining : g.row.C.Denot) (r : Reading g.row.C-First.Denot g.row.C-Second.Denot g.row.C-Third.Denot) {from : ℕ} {at : Spot} → AllNamed r.sources at → from ≤ top r.sources at →
    Visit r.sources (values (g.C.Combining.meaning combining) g.C.First.Interned.blank g.C.Second.Interned.blank g.C.Third.Interned.blank r.sources) from at
visit g combining r = visit_of r (g.C.Combining.meaning combining) g.C.First.Interned.blank g.C.Second.Interned.blank g.C.Third.Interned.blank

pub returns-then-level-levels : goal.returns-then-level-levels
returns-then-level-levels g t c =
    let v = visit g c.args.combining c.args.reading c.requires.named c.requires.above in
    let w = working_same c.count_visit.ensures.same c.count_visit.ensures.carried c.requires.working in
    let end : levels c.args.reading.sources ≡ top c.args.reading.sources c.args.at = omega (arith, c.top_of-level.ensures, c.levels.ensures, c.if-level-levels.true) in
    let done = leaf_done (sameness g) v w end c.list_leaf.ensures.stays c.combined_at-leaf.ensures c.list_leaf.result c.list_leaf.ensures.listed in
    record { visited = done.visited; working = done.working; lasts = search rules }

pub returns-in-Some : goal.returns-in-Some
returns-in-Some g t c =
    let v = visit g c.args.combining c.args.reading c.requires.named c.requires.above in
    let w = working_same c.count_visit.ensures.same c.count_visit.ensures.carried c.requires.working in
    let done = known_done (sameness g) v w c.in-Some.known c.in-Some.ensures in
    record { visited = done.visited; working = done.working; lasts = search rules }

pub overflow_add-next : goal.overflow_add-next
overflow_add-next g t c =
    let v = visit g c.args.combining c.args.reading c.requires.named c.requires.above in
    let less = tested v c.top_of-level.ensures c.levels.ensures c.if-level-levels.false in
    search rules

pub visit-requires : goal.visit-requires
visit-requires g t c κs within =
    let v = visit g c.args.combining c.args.reading c.requires.named c.requires.above in
    let d = parts v c.top_of-level.ensures c.levels.ensures c.if-level-levels.false c.branches_from-ahead.ensures.one c.branches_from-ahead.ensures.zero in
    let less = d.less in
    let next = visit_one d in
    let working = working_same c.count_visit.ensures.same c.count_visit.ensures.carried c.requires.working in
    search rules

pub returns-in_err-one-clause-visited : goal.returns-in_err-one-clause-visited
returns-in_err-one-clause-visited g t c =
    let v = visit g c.args.combining c.args.reading c.requires.named c.requires.above in
    let d = parts v c.top_of-level.ensures c.levels.ensures c.if-level-levels.false c.branches_from-ahead.ensures.one c.branches_from-ahead.ensures.zero in
    let p = c.in_err-one.ensures in
    one_none (sameness g) d p.lasts c.from_residual.ensures p.visited

pub visit-requires-2 : goal.visit-requires-2
visit-requires-2 g t c κs within =
    let v = visit g c.args.combining c.args.reading c.requires.named c.requires.above in
    let d = parts v c.top_of-level.ensures c.levels.ensures c.if-level-levels.false c.branches_from-ahead.ensures.one c.branches_from-ahead.ensures.zero in
    let less = d.less in
    let next = visit_zero d in
    let working = c.visit.ensures.working in
    search rules

pub returns-in_err-zero-clause-visited : goal.returns-in_err-zero-clause-visited
returns-in_err-zero-clause-visited g t c =
    let v = visit g c.args.combining c.args.reading c.requires.named c.requires.above in
    let d = parts v c.top_of-level.ensures c.levels.ensures c.if-level-levels.false c.branches_from-ahead.ensures.one c.branches_from-ahead.ensures.zero in
    let p = c.in_ok-one.ensures in
    let q = c.in_err-zero.ensures in
    zero_none (sameness g) d p.lasts c.in_ok-one.one p.visited q.lasts c.from_residual-in_err-zero.ensures q.visited

pub link-requires-clause-leveled : goal.link-requires-clause-leveled
link-requires-clause-leveled g t c =
    let v = visit g c.args.combining c.args.reading c.requires.named c.requires.above in
    tested v c.top_of-level.ensures c.levels.ensures c.if-level-levels.false

pub returns-in_err-root : goal.returns-in_err-root
returns-in_err-root g t c =
    let v = visit g c.args.combining c.args.reading c.requires.named c.requires.above in
    let d = parts v c.top_of-level.ensures c.levels.ensures c.if-level-levels.false c.branches_from-ahead.ensures.one c.branches_from-ahead.ensures.zero in
    let p = c.in_ok-one.ensures in
    let q = c.in_ok-zero.ensures in
    let l = c.in_err-root.ensures in
    let done = unlinked_done (sameness g) d p.lasts c.in_ok-one.one p.visited q.lasts c.in_ok-zero.zero q.visited c.requires.working.sound q.working l.stays c.from_residual-in_err-root.ensures l.linked in
    record { visited = done.visited; working = done.working; lasts = search rules }

pub returns : goal.returns
returns g t c =
    let v = visit g c.args.combining c.args.reading c.requires.named c.requires.above in
    let d = parts v c.top_of-level.ensures c.levels.ensures c.if-level-levels.false c.branches_from-ahead.ensures.one c.branches_from-ahead.ensures.zero in
    let p = c.in_ok-one.ensures in
    let q = c.in_ok-zero.ensures in
    let l = c.in_ok-root.ensures in
    let done = linked_done (sameness g) d p.lasts c.in_ok-one.one p.visited q.lasts c.in_ok-zero.zero q.visited c.requires.working.sound q.working l.stays l.linked c.remember.ensures.carried c.remember.ensures.written in
    record { visited = done.visited; working = done.working; lasts = search rules }
