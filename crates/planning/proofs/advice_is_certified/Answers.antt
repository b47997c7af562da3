use Rattle.planning.proofs.Certificates.{advice_is_certified}
use Rattle.planning.proofs.advice_is_certified.Goals as goal

pub returns : goal.returns
returns c = advice_is_certified
