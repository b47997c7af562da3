-- A field of each tag is stored: its entries join those of its list, and nothing else changes.
use Rattle.std.proofs.Common.{◌≡◌, ℕ, ◌+◌, ◌/◌, true, leb, List, ◌++◌, length, sym, ap, ◌∙◌, subst, length-append}
use Rattle.std.proofs.lemmas.List.FromFn.{length-map-range_with_len}
use Rattle.model_file.specs.declared.mark.Mark.{Mark}
use Rattle.model_file.specs.declared.field.Field.{Field}
use Rattle.model_file.specs.Entries.{entries, written, bytes_of, Appended}
use Rattle.model_file.specs.declared.draft.Draft.{Draft}
use Rattle.model_file.specs.Reading.{Lists, Taken, all_written, room_of, took, has_room, draft_of}
use Rattle.model_file.specs.Marks.{Marks, Stored}
use Rattle.model_file.specs.Tags.{last_code}
use Rattle.model_file.specs.Fields.{tag_of, body_of}

-- what appending to the list of some entries xs comes to
pub record Joined {X : Type 0} (w : ℕ) (f : List ℕ → X) (b : List ℕ) (xs old l l' : List X) (count : ℕ) : Type 0 where
  pub room : leb (length xs + length b / w) (length l) ≡ true
  pub count_is : count ≡ length (xs ++ entries w f b)
  pub list_is : l' ≡ written (xs ++ entries w f b) old

-- b is the body by another name
pub joined : {X : Type 0} {w : ℕ} {f : List ℕ → X} {b b' : List ℕ} {l l' : List X} {at count : ℕ} (xs old : List X) → b ≡ b' → at ≡ length xs → l ≡ written xs old → Appended w f b' at l l' count → Joined w f b xs old l l' count
joined {w = w} {f = f} {b = b} {l = l} {l' = l'} {at = at} {count = count} xs old same from held a' =
    let a = subst (λ z. Appended w f z at l l' count) (sym same) a' in
    record {
      room = subst (λ n. leb (n + length b / w) (length l) ≡ true) from a.fits;
      count_is = a.counted ∙ ap (λ n. n + length b / w) from ∙ sym (length-append xs (entries w f b) ∙ ap (λ n. length xs + n) (length-map-range_with_len (λ j. f (bytes_of w b j)) 0 (length b / w)));
      list_is = a.extends xs old (sym from) held;
    }

-- a field of tag k is stored, and the mark after it has the counts that this makes
pub stored_field : {mark next : Mark} {draft : Draft} {roots : ℕ} {now now' : Lists} (field : Field) (k : ℕ) (t : Taken) (old : Lists) → Marks mark t → tag_of field ≡ k → next.place ≡ mark.place + (3 + length (body_of field)) → last_code next.last ≡ tag_of field →
    next.draft ≡ draft → next.roots ≡ roots → has_room (room_of now) t.lists k (body_of field) ≡ true → draft ≡ draft_of (took t k (body_of field)) → roots ≡ length (took t k (body_of field)).lists.roots → now' ≡ all_written (took t k (body_of field)).lists old →
    Stored (tag_of field) (body_of field) t old now now' next
stored_field {next = next} {now = now} {now' = now'} field k t old m kind place last is_draft is_roots room counted rooted kept =
    subst (λ z. Stored z (body_of field) t old now now' next) (sym kind)
    (record {
      room = room;
      marked = record { place = place ∙ ap (λ p. p + (3 + length (body_of field))) m.place; last = last ∙ kind; draft = is_draft ∙ counted; roots = is_roots ∙ rooted };
      kept = kept;
    })
