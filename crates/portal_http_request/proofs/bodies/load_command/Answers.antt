use Rattle.std.proofs.Common.{inr, refl}
use Rattle.portal_http_request.proofs.bodies.load_command.Goals as goal

pub returns-in-Err-Bad-clause-orders : goal.returns-in-Err-Bad-clause-orders
returns-in-Err-Bad-clause-orders c =
    inr (refl, λ plans file. c.in-Err-Bad.ensures.bad c.in-Err-Bad.field-0-is plans file)
