use Rattle.portal_http_request.proofs.CheckedOnce.{checked_once}
use Rattle.portal_http_request.proofs.laws.checks_are_exact.Goals as goal

pub returns : goal.returns
returns c = checked_once
