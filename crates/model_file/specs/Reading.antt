-- The reading of a file, field by field, into five lists.
--     Lists                       what the five lists hold, or what was read for each
--     Room                        how long the five lists are
--     Taken                       how far a reading has come: the bytes gone by, the last tag, the sizes and the entries read
--     took t k b                  one field more, of tag k and body b
--     has_room room t k b         the list of the tag k has room for the entries of b
--     field_tests room t rest     the tests of the next field, in their order
--     Reads room t rest r t'      from t on, the rest of the file is answered by r, and t' is what was read
--     ReadInto file old now r     the whole file is answered by r, and the lists, which held `old`, hold `now`: what was read, written from their starts. No other answer and no other reading fits the file
use Rattle.std.specs.Prelude.{◌≡◌, ℕ, ◌+◌, ◌/◌, ◌<◌, Bool, true, cond, List, [], ◌∷◌, ◌++◌, length, drop, ℤ, Some, None, Ok, Err, Result, ◌==◌, ◌≢◌, nat_le, slice_index}
use Rattle.diagram.specs.declared.nodes.Node.{Node}
use Rattle.faults.specs.declared.Fault.{Fault}
use Rattle.faults.specs.declared.Fault.TheVariants.{File}
use Rattle.faults.specs.declared.FileFault.{FileFault}
use Rattle.faults.specs.declared.FileFault.TheVariants.{NoRoots, ListTooShort}
use Rattle.faults.specs.Tests.{Test, test, first_fault}
use Rattle.model_file.specs.declared.draft.Draft.{Draft}
use Rattle.model_file.specs.Entries.{number, reward_of, chance_of, node_of, root_of, entries, written}
use Rattle.model_file.specs.Fields.{tag, body, shape_tests}

pub record Lists : Type 0 where
  pub rewards : List ℤ
  pub chances : List ℕ
  pub reward_nodes : List Node
  pub chance_nodes : List Node
  pub roots : List ℕ

abbrev pub five : List ℤ → List ℕ → List Node → List Node → List ℕ → Lists
five r c x y z = record { rewards = r; chances = c; reward_nodes = x; chance_nodes = y; roots = z }

-- each list after its entries are written from its start
abbrev pub all_written : Lists → Lists → Lists
all_written xs old =
    five (written xs.rewards old.rewards) (written xs.chances old.chances) (written xs.reward_nodes old.reward_nodes) (written xs.chance_nodes old.chance_nodes)
    (written xs.roots old.roots)

pub record Room : Type 0 where
  pub rewards : ℕ
  pub chances : ℕ
  pub reward_nodes : ℕ
  pub chance_nodes : ℕ
  pub roots : ℕ

abbrev pub room_of : Lists → Room
room_of l =
    record { rewards = length l.rewards; chances = length l.chances; reward_nodes = length l.reward_nodes; chance_nodes = length l.chance_nodes; roots = length l.roots }

pub record Taken : Type 0 where
  pub place : ℕ
  pub last : ℕ
  pub conditions : ℕ
  pub moves : ℕ
  pub discount : ℕ
  pub lists : Lists

abbrev pub nothing : Taken
nothing = record { place = 0; last = 0; conditions = 0; moves = 0; discount = 0; lists = five [] [] [] [] [] }

-- the entries of a body go to the list of its tag
abbrev pub grown : ℕ → List ℕ → Lists → Lists
grown k b l =
    five (cond (k == 2) (l.rewards ++ entries 8 reward_of b) l.rewards) (cond (k == 3) (l.chances ++ entries 2 chance_of b) l.chances)
    (cond (k == 4) (l.reward_nodes ++ entries 9 node_of b) l.reward_nodes) (cond (k == 5) (l.chance_nodes ++ entries 9 node_of b) l.chance_nodes)
    (cond (k == 6) (l.roots ++ entries 4 root_of b) l.roots)

abbrev pub took : Taken → ℕ → List ℕ → Taken
took t k b =
    record {
      place = t.place + (3 + length b);
      last = k;
      conditions = cond (k == 1) (slice_index b 0) t.conditions;
      moves = cond (k == 1) (slice_index b 1) t.moves;
      discount = cond (k == 1) (number 2 b 2) t.discount;
      lists = grown k b t.lists;
    }

abbrev pub has_room : Room → Lists → ℕ → List ℕ → Bool
has_room room l k b =
    cond (k == 2) (nat_le (length l.rewards + length b / 8) room.rewards)
    (cond (k == 3) (nat_le (length l.chances + length b / 2) room.chances)
    (cond (k == 4) (nat_le (length l.reward_nodes + length b / 9) room.reward_nodes)
    (cond (k == 5) (nat_le (length l.chance_nodes + length b / 9) room.chance_nodes)
    (cond (k == 6) (nat_le (length l.roots + length b / 4) room.roots) true))))

abbrev pub room_test : Room → Taken → List ℕ → Test FileFault
room_test room t rest = test (has_room room t.lists (tag rest) (body rest)) ListTooShort

abbrev pub field_tests : Room → Taken → List ℕ → List (Test FileFault)
field_tests room t rest = shape_tests t.place t.last t.conditions t.moves rest ++ (room_test room t rest ∷ [])

abbrev pub draft_of : Taken → Draft
draft_of t =
    record {
      sizes = record { conditions = t.conditions; moves = t.moves; discount = t.discount };
      rewards = length t.lists.rewards;
      chances = length t.lists.chances;
      reward_nodes = length t.lists.reward_nodes;
      chance_nodes = length t.lists.chance_nodes;
    }

pub data Reads (room : Room) : Taken → List ℕ → Result Draft Fault → Taken → Type 0 where
  ends : {t : Taken} → t.last ≡ 6 → Reads room t [] (Ok (draft_of t)) t
  lacks : {t : Taken} → (t.last ≢ 6) → Reads room t [] (Err (File (NoRoots t.place))) t
  refuses : {t : Taken} {rest : List ℕ} {f : FileFault} → 0 < length rest → first_fault (field_tests room t rest) ≡ Some f → Reads room t rest (Err (File f)) t
  takes : {t : Taken} {rest : List ℕ} {r : Result Draft Fault} {t' : Taken} → 0 < length rest → first_fault (field_tests room t rest) ≡ None →
      Reads room (took t (tag rest) (body rest)) (drop (3 + length (body rest)) rest) r t' → Reads room t rest r t'

pub record ReadInto (file : List ℕ) (old now : Lists) (r : Result Draft Fault) : Type 0 where
  pub taken : Taken
  pub reads : Reads (room_of old) nothing file r taken
  pub lists : now ≡ all_written taken.lists old
  pub only : (q : Result Draft Fault) (u : Taken) → Reads (room_of old) nothing file q u → (r ≡ q) × (taken ≡ u)
