use Rattle.portal_model_laws.proofs.Remaining.{guests-told, gateway-told}
use Rattle.portal_model_laws.proofs.remainder_is_positive.Goals as goal

pub returns-clause-guest : goal.returns-clause-guest
returns-clause-guest c = guests-told

pub returns-clause-gateway : goal.returns-clause-gateway
returns-clause-gateway c = gateway-told
