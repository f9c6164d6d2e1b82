use Rattle.portal_desk_store.proofs.StepLemmas.{answered}
use Rattle.portal_desk_store.proofs.desks.StoreDesk.list_redemptions.Goals as goal

pub returns : goal.returns
returns g c = answered c.in_ok-read.ensures
