use Rattle.std.proofs.Common.{◌≡◌, ◌+◌, ◌<◌, ◌/◌, ◌++◌, length, set, sym, ap, ◌∙◌, arith, rules}
use Rattle.std.specs.Slice.Iter.{chunks_exact_rest, chunks_exact_size}
use Rattle.std.specs.Iterator.Adapters.{enumerate_source, enumerate_count}
use Rattle.model_file.specs.Entries.{first_entries, written, bytes_of}
use Rattle.model_file.proofs.Chunks.{AtChunk, chunk_next, chunk_last}
use Rattle.model_file.proofs.Written.{entry_more}
use Rattle.model_file.proofs.append.write_entries.Given as given
use Rattle.model_file.proofs.append.write_entries.Goals as goal

turn : (g : given.Over) (c : goal.After-decode g) → (c.in-Some.bytes.now ≡ bytes_of g.E.Entry.SIZE c.args.body.now (enumerate_count c.loop-j.j-iterator))
    × (enumerate_count c.loop-j.j-iterator < length c.args.body.now / g.E.Entry.SIZE)
    × AtChunk g.E.Entry.SIZE (enumerate_count c.next.new.self) (chunks_exact_size (enumerate_source c.next.new.self)) c.args.body.now (chunks_exact_rest (enumerate_source c.next.new.self))
turn g c =
    let s = c.in-Some.ensures.steps in
    chunk_next _ _ _ c.args.body.now _ c.loop-j.invariant.0 _ _ _ _ g.met.E.Entry.some s.0.1.0 s.0.1.1 s.2 s.0.0

pub offset_bounds-list-at : goal.offset_bounds-list-at
offset_bounds-list-at g c =
    let inside : c.args.at + c.in-Some.j < length c.args.list.now = omega (arith, c.requires, (turn g c).1, c.in-Some.ensures.steps.1) in
    search rules

pub loop-j-preserved : goal.loop-j-preserved
loop-j-preserved g c = (
  (turn g c).2,
  λ xs old long was.
      let e = g.E.Entry in
      let s = c.in-Some.ensures.steps in
      let j = enumerate_count c.loop-j.j-iterator in
      let t = turn g c in
      let told : c.decode.result ≡ e.meaning (bytes_of e.SIZE c.args.body.now j) = c.decode.ensures ∙ ap e.meaning t.0 in
      ap (λ k. set c.loop-j.list (c.args.at + k) c.decode.result) s.1 ∙ ap (set c.loop-j.list (c.args.at + j)) told
      ∙ entry_more e.SIZE e.meaning c.args.body.now xs old c.loop-j.list c.args.at j long (omega (arith, c.requires, t.1)) (c.loop-j.invariant.1 xs old long was)
      ∙ ap (λ k. written (xs ++ first_entries e.SIZE e.meaning c.args.body.now k) old) (sym s.2),
)

pub returns : goal.returns
returns g c xs old long was =
    let e = g.E.Entry in
    let s = c.in-None.ensures.steps in
    let all = chunk_last _ _ _ c.args.body.now _ c.loop-j.invariant.0 s.0.1.0 in
    c.loop-j.invariant.1 xs old long was ∙ ap (λ k. written (xs ++ first_entries e.SIZE e.meaning c.args.body.now k) old) (sym all)
