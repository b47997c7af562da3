-- A reading on its way: what is read so far, and that whatever the rest comes to, the whole file comes to.
use Rattle.std.proofs.Common.{◌≡◌, ℕ, ◌+◌, ◌-◌, ◌<◌, ◌≤◌, Bool, true, false, cond, List, [], ◌∷◌, length, drop, Some, None, Ok, Err, Option, Result, sym, refl, ap, ◌∙◌, subst, arith, length-drop}
use Rattle.std.proofs.lemmas.List.{drop-drop, drop_all, length-take-le}
use Rattle.std.proofs.lemmas.Bool.{and_parts, leb-true}
use Rattle.faults.specs.declared.Fault.{Fault}
use Rattle.faults.specs.declared.Fault.TheVariants.{File}
use Rattle.faults.specs.declared.FileFault.{FileFault}
use Rattle.faults.specs.declared.FileFault.TheVariants.{CutShort, NoRoots, ListTooShort}
use Rattle.faults.specs.Tests.{first_fault}
use Rattle.faults.proofs.Order.{first_holds, then_none, then_some}
use Rattle.model_file.specs.declared.draft.Draft.{Draft}
use Rattle.model_file.specs.declared.mark.Mark.{Mark}
use Rattle.model_file.specs.Fields.{tag, body, body_length, whole, shape_tests}
use Rattle.model_file.specs.Reading.{Lists, Taken, nothing, all_written, room_of, took, has_room, room_test, field_tests, draft_of, Reads, ReadInto}
use Rattle.model_file.specs.Reading.Reads.{ends, lacks, refuses, takes}
use Rattle.model_file.specs.Marks.{Marks, Stored, Unstored}
use Rattle.model_file.specs.Tags.{last_code}
use Rattle.model_file.proofs.Once.{reads_once}

-- a reading is the only one
into : (file : List ℕ) (old now : Lists) (r : Result Draft Fault) (t : Taken) → Reads (room_of old) nothing file r t → now ≡ all_written t.lists old → ReadInto file old now r
into file old now r t reads lists = record { taken = t; reads = reads; lists = lists; only = λ q u d. reads_once reads d }

pub record Progress (file : List ℕ) (old now : Lists) (mark : Mark) : Type 0 where
  pub taken : Taken
  pub marked : Marks mark taken
  pub held : now ≡ all_written taken.lists old
  pub within : taken.place ≤ length file
  pub onward : (r : Result Draft Fault) (t' : Taken) → Reads (room_of old) taken (drop taken.place file) r t' → Reads (room_of old) nothing file r t'

pub begun : (file : List ℕ) (old : Lists) (mark : Mark) → Marks mark nothing → Progress file old old mark
begun file old mark m = record { taken = nothing; marked = m; held = refl; within = omega arith; onward = λ r t' h. h }

some_left : (file : List ℕ) (p : ℕ) → p < length file → 0 < length (drop p file)
some_left file p h = simp length-drop (omega arith)

-- the body of a whole field ends within the file
pub body_ends : (rest : List ℕ) → whole rest ≡ true → (length (body rest) ≡ body_length rest) × (3 + body_length rest ≤ length rest)
body_ends rest w =
    let parts = and_parts _ _ w in
    let ends : 3 + body_length rest ≤ length rest = leb-true _ _ parts.1 in
    let fits : body_length rest ≤ length (drop 3 rest) = simp length-drop (omega arith) in
    (length-take-le (body_length rest) (drop 3 rest) fits, ends)

pub sound_whole : (p last n m : ℕ) (rest : List ℕ) → first_fault (shape_tests p last n m rest) ≡ None → whole rest ≡ true
sound_whole p last n m rest e = (first_holds (whole rest) (CutShort (tag rest) p) _ e).0

-- the tests of a field, where its shape is sound: what is left is whether it has room
room_decides : (old : Lists) (t : Taken) (rest : List ℕ) → first_fault (shape_tests t.place t.last t.conditions t.moves rest) ≡ None →
    first_fault (field_tests (room_of old) t rest) ≡ cond (has_room (room_of old) t.lists (tag rest) (body rest)) None (Some ListTooShort)
room_decides old t rest shape = then_none (shape_tests t.place t.last t.conditions t.moves rest) (room_test (room_of old) t rest ∷ []) shape

module _ {file : List ℕ} {old now : Lists} {mark : Mark} (p : Progress file old now mark) {rest : List ℕ} (is : rest ≡ drop mark.place file) (left : mark.place < length file) where
  abbrev from : List ℕ
  from = drop p.taken.place file

  at_mark : rest ≡ from
  at_mark = is ∙ ap (λ n. drop n file) p.marked.place

  more : 0 < length from
  more = some_left file p.taken.place (subst (λ n. n < length file) p.marked.place left)

  abbrev pub Shape : Option FileFault → Type 0
  Shape o = first_fault (shape_tests mark.place (last_code mark.last) mark.draft.sizes.conditions mark.draft.sizes.moves rest) ≡ o

  at_taken : (o : Option FileFault) → Shape o → first_fault (shape_tests p.taken.place p.taken.last p.taken.conditions p.taken.moves from) ≡ o
  at_taken o h =
      subst (λ d. first_fault (shape_tests p.taken.place p.taken.last d.sizes.conditions d.sizes.moves from) ≡ o) p.marked.draft
      (subst (λ k. first_fault (shape_tests p.taken.place k mark.draft.sizes.conditions mark.draft.sizes.moves from) ≡ o) p.marked.last
      (subst (λ n. first_fault (shape_tests n (last_code mark.last) mark.draft.sizes.conditions mark.draft.sizes.moves from) ≡ o) p.marked.place
      (subst (λ r. first_fault (shape_tests mark.place (last_code mark.last) mark.draft.sizes.conditions mark.draft.sizes.moves r) ≡ o) at_mark h)))

  -- a field is refused for its shape
  pub misshapen : {f : FileFault} → Shape (Some f) → ReadInto file old now (Err (File f))
  misshapen {f} h =
      into file old now _ p.taken (p.onward _ _ (refuses more (then_some (shape_tests p.taken.place p.taken.last p.taken.conditions p.taken.moves from) (room_test (room_of old) p.taken from ∷ []) f (at_taken (Some f) h)))) p.held

  module _ {k : ℕ} {b : List ℕ} (kind : k ≡ tag rest) (holds : b ≡ body rest) (shape : Shape None) (long : room_of now ≡ room_of old) where
    room_at : (v : Bool) → has_room (room_of now) p.taken.lists k b ≡ v → has_room (room_of old) p.taken.lists (tag from) (body from) ≡ v
    room_at v h =
        subst (λ r. has_room (room_of old) p.taken.lists (tag r) (body r) ≡ v) at_mark
        (subst (λ r. has_room r p.taken.lists (tag rest) (body rest) ≡ v) long
        (subst (λ z. has_room (room_of now) p.taken.lists (tag rest) z ≡ v) holds (subst (λ z. has_room (room_of now) p.taken.lists z b ≡ v) kind h)))

    decided : (v : Bool) → has_room (room_of now) p.taken.lists k b ≡ v → first_fault (field_tests (room_of old) p.taken from) ≡ cond v None (Some ListTooShort)
    decided v h = room_decides old p.taken from (at_taken None shape) ∙ ap (λ z. cond z None (Some ListTooShort)) (room_at v h)

    -- a field has no room
    pub unroomed : {now' : Lists} {f : FileFault} → Unstored k b p.taken now now' f → ReadInto file old now' (Err (File f))
    unroomed {now'} u =
        into file old now' _ p.taken (p.onward _ _ (refuses more (decided false u.room ∙ ap Some (sym u.named)))) (u.kept ∙ p.held)

    -- a field is stored
    pub advanced : {now' : Lists} {next : Mark} → Stored k b p.taken old now now' next → Progress file old now' next × (mark.place < next.place)
    advanced s =
        let t = p.taken in
        let t' = took t k b in
        let kind' : k ≡ tag from = kind ∙ ap tag at_mark in
        let holds' : b ≡ body from = holds ∙ ap body at_mark in
        let ends = body_ends from (sound_whole t.place t.last t.conditions t.moves from (at_taken None shape)) in
        let len : length b ≡ length (body from) = ap length holds' in
        let onto : drop (3 + length (body from)) from ≡ drop (t.place + (3 + length b)) file = drop-drop (3 + length (body from)) t.place file ∙ ap (λ n. drop (t.place + (3 + n)) file) (sym len) in
        let stands : mark.place ≡ t.place = p.marked.place in
        let long' : length from ≡ length file - t.place = length-drop t.place file in (
          record {
            taken = t';
            marked = s.marked;
            held = s.kept;
            within = omega (arith, ends.0, ends.1, p.within);
            onward = λ r u h.
                p.onward r u (takes more (decided true s.room) (subst (λ z. Reads (room_of old) (took t (tag from) z) (drop (3 + length (body from)) from) r u) holds'
                (subst (λ z. Reads (room_of old) (took t z b) (drop (3 + length (body from)) from) r u) kind' (subst (λ z. Reads (room_of old) t' z r u) (sym onto) h))));
          },
          omega (arith, s.marked.place),
        )

-- the file is at its end
pub finished : {file : List ℕ} {old now : Lists} {mark : Mark} → Progress file old now mark → length file ≤ mark.place → last_code mark.last ≡ 6 → ReadInto file old now (Ok mark.draft)
finished {file} {old} {now} p end six =
    let t = p.taken in
    let empty : drop t.place file ≡ [] = drop_all t.place file (omega (arith, p.marked.place)) in
    let whole' : Reads (room_of old) t (drop t.place file) (Ok (draft_of t)) t = subst (λ z. Reads (room_of old) t z (Ok (draft_of t)) t) (sym empty) (ends (sym p.marked.last ∙ six)) in
    into file old now _ (t) (subst (λ d. Reads (room_of old) nothing file (Ok d) t) (sym p.marked.draft) (p.onward _ _ whole')) p.held

pub unfinished : {file : List ℕ} {old now : Lists} {mark : Mark} → Progress file old now mark → length file ≤ mark.place → (last_code mark.last ≡ 6 → ⊥) → ReadInto file old now (Err (File (NoRoots (length file))))
unfinished {file} {old} {now} {mark} p end six =
    let t = p.taken in
    let stands : mark.place ≡ t.place = p.marked.place in
    let empty : drop t.place file ≡ [] = drop_all t.place file (omega arith) in
    let all : t.place ≡ length file = omega (arith, p.within) in
    let lacking : Reads (room_of old) t [] (Err (File (NoRoots t.place))) t = lacks (λ e. six (p.marked.last ∙ e)) in
    into file old now _ (t) (p.onward _ _ (subst (λ z. Reads (room_of old) t z (Err (File (NoRoots (length file)))) t) (sym empty) (subst (λ n. Reads (room_of old) t [] (Err (File (NoRoots n))) t) all lacking))) p.held
