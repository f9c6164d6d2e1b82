use Rattle.portal_ledger.proofs.Typed.{the_sound_keeps_typed}
use Rattle.portal_ledger.proofs.laws.kept_requests_are_typed.Goals as goal

pub returns : goal.returns
returns c = the_sound_keeps_typed
