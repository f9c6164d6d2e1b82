use Rattle.portal_model_laws.proofs.Held.{held_plans_decide_load}
use Rattle.portal_model_laws.proofs.held_plans_decide_load.Goals as goal

pub returns : goal.returns
returns c = held_plans_decide_load
