use Rattle.portal_http.proofs.Readings.{acknowledged_is_unique}
use Rattle.portal_http.proofs.executions.acknowledged_is_unique.Goals as goal

pub returns : goal.returns
returns c = acknowledged_is_unique c.checks_are_exact.ensures
