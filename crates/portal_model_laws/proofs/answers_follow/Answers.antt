use Rattle.portal_model_laws.proofs.Telling.{answers_follow}
use Rattle.portal_model_laws.proofs.answers_follow.Goals as goal

pub returns : goal.returns
returns c = answers_follow
