use Rattle.survey.proofs.Greatests.{greatest_is_greatest}
use Rattle.survey.proofs.survey.greatest_is_greatest.Goals as goal

pub returns : goal.returns
returns c = greatest_is_greatest
