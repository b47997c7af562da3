-- A list into which entries are written from its start: one entry more.
use Rattle.std.proofs.Common.{◌≡◌, ℕ, ◌+◌, ◌-◌, ◌<◌, List, [], ◌∷◌, ◌++◌, length, get_or, drop, set, sym, ap, ◌∙◌, append_assoc, arith, length-append, length-drop}
use Rattle.std.proofs.lemmas.List.{drop_more, set_at, length_push}
use Rattle.std.proofs.lemmas.List.FromFn.{map-range_with_len_more, length-map-range_with_len}
use Rattle.model_file.specs.Entries.{first_entries, bytes_of, written}

pub length_written : {X : Type 0} (xs old : List X) → length (written xs old) ≡ length xs + (length old - length xs)
length_written xs old = simp (length-append, length-drop)

pub written_more : {X : Type 0} (xs old : List X) (n : ℕ) (y : X) → length xs ≡ n → n < length old → set (written xs old) n y ≡ written (xs ++ y ∷ []) old
written_more xs old n y long room =
    let more : drop (length xs) old ≡ get_or old n y ∷ drop (n + 1) old = ap (λ k. drop k old) long ∙ drop_more old n y room in
    ap (λ rest. set (xs ++ rest) n y) more ∙ set_at xs (get_or old n y) (drop (n + 1) old) y n long
    ∙ sym (append_assoc xs (y ∷ []) (drop (n + 1) old)) ∙ ap (λ k. (xs ++ y ∷ []) ++ drop k old) (sym (length_push xs y ∙ ap (λ k. k + 1) long))

-- the entry that a loop writes next
pub entry_more : {X : Type 0} (w : ℕ) (f : List ℕ → X) (body : List ℕ) (xs old now : List X) (at j : ℕ) → length xs ≡ at → at + j < length now → now ≡ written (xs ++ first_entries w f body j) old →
    set now (at + j) (f (bytes_of w body j)) ≡ written (xs ++ first_entries w f body (j + 1)) old
entry_more w f body xs old now at j long room is =
    let zs = xs ++ first_entries w f body j in
    let count : length zs ≡ at + j = length-append xs (first_entries w f body j) ∙ ap (λ k. k + length (first_entries w f body j)) long ∙ ap (λ k. at + k) (length-map-range_with_len (λ i. f (bytes_of w body i)) 0 j) in
    let fits : at + j < length old = omega (arith, length_written zs old, ap length is, count) in
    ap (λ l. set l (at + j) (f (bytes_of w body j))) is ∙ written_more zs old (at + j) (f (bytes_of w body j)) count fits
    ∙ ap (λ l. written l old) (append_assoc xs (first_entries w f body j) (f (bytes_of w body j) ∷ []) ∙ ap (λ l. xs ++ l) (sym (map-range_with_len_more (λ i. f (bytes_of w body i)) 0 j j (omega arith))))
