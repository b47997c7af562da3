-- A file has one reading: two answers for the same rest are the same, and so is what was read.
use Rattle.std.proofs.Common.{◌≡◌, ℕ, List, Result, refl, arith}
use Rattle.faults.specs.declared.Fault.{Fault}
use Rattle.model_file.specs.declared.draft.Draft.{Draft}
use Rattle.model_file.specs.Reading.{Room, Taken, Reads}
use Rattle.model_file.specs.Reading.Reads.{ends, lacks, refuses, takes}

pub reads_once : {room : Room} {t : Taken} {rest : List ℕ} {r q : Result Draft Fault} {t' u : Taken} → Reads room t rest r t' → Reads room t rest q u → (r ≡ q) × (t' ≡ u)
reads_once (ends e) (ends e') = (refl, refl)
reads_once (ends e) (lacks n) = absurd (n e)
reads_once (ends e) (refuses some f) = absurd (omega arith)
reads_once (ends e) (takes some n d) = absurd (omega arith)
reads_once (lacks n) (ends e) = absurd (n e)
reads_once (lacks n) (lacks n') = (refl, refl)
reads_once (lacks n) (refuses some f) = absurd (omega arith)
reads_once (lacks n) (takes some m d) = absurd (omega arith)
reads_once (refuses some f) (ends e) = absurd (omega arith)
reads_once (refuses some f) (lacks n) = absurd (omega arith)
reads_once (refuses some f) (refuses some' f') = ((cc), refl)
reads_once (refuses some f) (takes some' n d) = let z : ◌≡◌ {A = ℕ} 0 1 = cc in absurd (omega arith)
reads_once (takes some n d) (ends e) = absurd (omega arith)
reads_once (takes some n d) (lacks m) = absurd (omega arith)
reads_once (takes some n d) (refuses some' f) = let z : ◌≡◌ {A = ℕ} 0 1 = cc in absurd (omega arith)
reads_once (takes some n d) (takes some' n' d') = reads_once d d'
