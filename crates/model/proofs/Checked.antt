-- What the tests of the model say of the tests of the draft.
use Rattle.std.proofs.Common.{◌≡◌, Bool, true, false, cond, List, [], ◌∷◌, map, Some, Option, sym, refl, ap, ◌∙◌}
use Rattle.std.specs.Option.{option_map}
use Rattle.faults.specs.declared.Fault.TheVariants.{File, Model as OfModel}
use Rattle.faults.specs.declared.FileFault.TheVariants.{ListTooShort}
use Rattle.faults.specs.declared.ModelFault.{ModelFault}
use Rattle.faults.specs.Tests.{Test, first_fault}
use Rattle.model_file.specs.declared.draft.Draft.{Draft}
use Rattle.model_file.specs.Reading.{Lists}
use Rattle.model.specs.Checking.{model_tests}
use Rattle.model.specs.Models.{long_enough, cut, of_model, check_tests}

mapped_cond : (b : Bool) (o : Option ModelFault) (f : ModelFault) → cond b (option_map OfModel o) (Some (OfModel f)) ≡ option_map OfModel (cond b o (Some f))
mapped_cond true o f = refl
mapped_cond false o f = refl

of_model_first : (ts : List (Test ModelFault)) → first_fault (map of_model ts) ≡ option_map OfModel (first_fault ts)
of_model_first [] = refl
of_model_first (t ∷ ts) = ap (λ o. cond t.holds o (Some (OfModel t.fault))) (of_model_first ts) ∙ mapped_cond t.holds (first_fault ts) t.fault

pub decided : (d : Draft) (l l' : Lists) (o : Option ModelFault) → l' ≡ cut d l → long_enough d l ≡ true → first_fault (model_tests d.sizes.conditions d.sizes.moves d.sizes.discount l') ≡ o →
    first_fault (check_tests d l) ≡ option_map OfModel o
decided d l l' o same long e =
    ap (λ b. cond b (first_fault (map of_model (model_tests d.sizes.conditions d.sizes.moves d.sizes.discount (cut d l)))) (Some (File ListTooShort))) long
    ∙ of_model_first (model_tests d.sizes.conditions d.sizes.moves d.sizes.discount (cut d l))
    ∙ ap (option_map OfModel) (ap (λ z. first_fault (model_tests d.sizes.conditions d.sizes.moves d.sizes.discount z)) (sym same) ∙ e)
