use Rattle.portal_model_laws.proofs.Judged.{rows_judge_alike}
use Rattle.portal_model_laws.proofs.rows_judge_alike.Goals as goal

pub returns : goal.returns
returns c = rows_judge_alike
