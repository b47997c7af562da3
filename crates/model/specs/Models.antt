-- A model, and what checking a draft comes to.
--     lists_of x              the lists that the model x holds
--     IsModel s l x           x has the sizes s and the lists l
--     blank_lists             the lists of the model from which a caller starts: one reward and one chance, both 0, and no node
--     long_enough d l         the lists have all entries that the draft counts
--     cut d l                 the entries that the draft counts
--     check_tests d l         the tests of a draft over its lists, in their order
--     Checks d l x x' r       r is the answer of those tests; the caller's model x becomes the draft's, x', or stays
use Rattle.std.specs.Prelude.{◌≡◌, ℕ, ◌+◌, ◌*◌, Bool, ◌&&◌, List, [], ◌∷◌, map, length, take, pos, Result, MatchResult, nat_le}
use Rattle.faults.specs.declared.Fault.{Fault}
use Rattle.faults.specs.declared.Fault.TheVariants.{File, Model as OfModel}
use Rattle.faults.specs.declared.FileFault.TheVariants.{ListTooShort}
use Rattle.faults.specs.declared.ModelFault.{ModelFault}
use Rattle.faults.specs.Tests.{Test, test, Verdict}
use Rattle.model_file.specs.declared.draft.Draft.{Draft}
use Rattle.model_file.specs.declared.sizes.Sizes.{Sizes}
use Rattle.model_file.specs.Reading.{Lists, five}
use Rattle.model.specs.declared.model.Model.{Model}
use Rattle.model.specs.Checking.{model_tests}
use Rattle.model.specs.Held.{lists_in}

abbrev pub lists_of : Model → Lists
lists_of x = lists_in x.lists

pub record IsModel (s : Sizes) (l : Lists) (x : Model) : Type 0 where
  pub sizes : x.sizes ≡ s
  pub lists : lists_of x ≡ l

abbrev pub blank_lists : Lists
blank_lists = five (pos 0 ∷ []) (0 ∷ []) [] [] (0 ∷ 0 ∷ [])

abbrev pub root_count : Draft → ℕ
root_count d = 1 + d.sizes.moves * d.sizes.conditions

abbrev pub long_enough : Draft → Lists → Bool
long_enough d l =
    nat_le d.rewards (length l.rewards) && (nat_le d.chances (length l.chances) && (nat_le d.reward_nodes (length l.reward_nodes)
    && (nat_le d.chance_nodes (length l.chance_nodes) && nat_le (root_count d) (length l.roots))))

abbrev pub cut : Draft → Lists → Lists
cut d l =
    five (take d.rewards l.rewards) (take d.chances l.chances) (take d.reward_nodes l.reward_nodes) (take d.chance_nodes l.chance_nodes)
    (take (root_count d) l.roots)

abbrev pub of_model : Test ModelFault → Test Fault
of_model t = test t.holds (OfModel t.fault)

abbrev pub check_tests : Draft → Lists → List (Test Fault)
check_tests d l = test (long_enough d l) (File ListTooShort) ∷ map of_model (model_tests d.sizes.conditions d.sizes.moves d.sizes.discount (cut d l))

-- the caller's model x becomes x', the one of these sizes and lists, or stays
pub record Fills (s : Sizes) (l : Lists) (x x' : Model) (r : Result (Unit {0}) ModelFault) : Type 0 where
  pub answer : Verdict (model_tests s.conditions s.moves s.discount l) r
  pub leaves : MatchResult r (λ _. IsModel s l x') (λ _. x' ≡ x)

pub record Checks (d : Draft) (l : Lists) (x x' : Model) (r : Result (Unit {0}) Fault) : Type 0 where
  pub answer : Verdict (check_tests d l) r
  pub leaves : MatchResult r (λ _. IsModel d.sizes (cut d l) x') (λ _. x' ≡ x)
