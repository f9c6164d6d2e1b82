use Rattle.portal_desk_store.proofs.desks.StoreDesk.check_counters.Goals as goal

pub returns-clause-exact : goal.returns-clause-exact
returns-clause-exact g c = λ honest. c.in_ok-audit.ensures.exact honest
