use Rattle.survey.proofs.States.{surveys_cover_states}
use Rattle.survey.proofs.survey.surveys_cover_states.Goals as goal

pub returns : goal.returns
returns c = surveys_cover_states
