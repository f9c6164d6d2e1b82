use Rattle.portal_model_laws.proofs.Placing.{redeem_leads}
use Rattle.portal_model_laws.proofs.redeem_gives_records.Goals as goal

pub returns : goal.returns
returns c = redeem_leads
