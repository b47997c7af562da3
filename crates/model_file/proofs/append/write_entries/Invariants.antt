use Rattle.std.proofs.Common.{◌≡◌, List, ◌++◌, length}
use Rattle.std.specs.Iterator.Adapters.{enumerate_source, enumerate_count}
use Rattle.std.specs.Slice.Iter.{chunks_exact_rest, chunks_exact_size}
use Rattle.model_file.specs.Entries.{first_entries, written}
use Rattle.model_file.proofs.Chunks.{AtChunk}
use Rattle.model_file.proofs.append.write_entries.Given as goal

abbrev pub invariant-loop-j : goal.invariant-loop-j
invariant-loop-j g l =
    let e = g.E.Entry in
    let j = enumerate_count l.j-iterator in
    let chunks = enumerate_source l.j-iterator in
    AtChunk e.SIZE j (chunks_exact_size chunks) l.body (chunks_exact_rest chunks)
    × ((xs old : List _) → length xs ≡ l.at → l.initial.list ≡ written xs old → l.list ≡ written (xs ++ first_entries e.SIZE e.meaning l.body j) old)
