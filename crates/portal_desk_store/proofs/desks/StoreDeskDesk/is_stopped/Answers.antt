use Rattle.portal_desk_store.proofs.ReadLemmas.{flag, over}
use Rattle.portal_desk_store.proofs.desks.StoreDeskDesk.is_stopped.Goals as goal

pub returns-clause-value : goal.returns-clause-value
returns-clause-value g c = flag c.is_stopped.result c.args.self.now.tables.is_stopped c.is_stopped.ensures

pub returns-clause-over : goal.returns-clause-over
returns-clause-over g c =
    λ s at. over g.S.Store c.args.self.now.tables c.is_stopped.result s at.0 c.is_stopped.ensures
