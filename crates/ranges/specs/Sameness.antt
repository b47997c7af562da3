-- When two leaves are the same, and where a table looks for one first.
--     same_ends, same_advice       all their parts are equal
--     residue z                    z modulo 2^32
--     ends_digest, advice_digest   their parts modulo 2^32, mixed by odd factors
use Rattle.std.specs.Prelude.{ℕ, ◌+◌, ◌*◌, Bool, ◌&&◌, ℤ, pos, ◌==◌, unsigned_abs}
use Rattle.std.specs.Int.{int_rem_euclid}
use Rattle.reduction.specs.Listed.{same_whole}
use Rattle.ranges.specs.declared.ends.Advice.{Advice}
use Rattle.ranges.specs.declared.ends.Ends.{Ends}

abbrev pub same_ends : Ends → Ends → Bool
same_ends x y = same_whole x.low y.low && same_whole x.high y.high

abbrev pub same_advice : Advice → Advice → Bool
same_advice x y = x.chosen == y.chosen && same_ends x.ends y.ends

abbrev pub residue : ℤ → ℕ
residue z = unsigned_abs (int_rem_euclid z (pos 4294967296))

abbrev pub ends_digest : Ends → ℕ
ends_digest e = residue e.low * 2654435761 + residue e.high * 40503

abbrev pub advice_digest : Advice → ℕ
advice_digest a = ends_digest a.ends + a.chosen * 2246822519
