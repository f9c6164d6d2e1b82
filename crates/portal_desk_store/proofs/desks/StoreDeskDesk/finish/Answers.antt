use Rattle.portal_desk_store.proofs.Common.{Option, ap, sym, subst, ◌∙◌, MarkedChanges, Fits, OpenAt}
use Rattle.portal_tables.specs.Faults.{refusal_of}
use Rattle.portal_desk_store.proofs.HeadLemmas.{keeps_head_all, keeps_head_on}
use Rattle.portal_desk_store.proofs.KeptLemmas.{FollowsOn, keeps_all, keeps_on}
use Rattle.portal_desk_store.proofs.ReadLemmas.{cannot_keep}
use Rattle.portal_desk_store.proofs.StopLemmas.{faulted}
use Rattle.portal_desk_store.proofs.desks.StoreDeskDesk.finish.Goals as goal

pub returns-in-Ok-clause-finish : goal.returns-in-Ok-clause-finish
returns-in-Ok-clause-finish g c = λ honest old at a fits.
    let same = c.into_changes-marked.ensures in
    let marked = c.into_changes-marked.result in
    let fits' = subst (λ (m : MarkedChanges). Fits old m a) (sym same) fits in
    let before = c.args.self.now.tables in
    keeps_head_on g.S.Store before c.commit.new.self c.update_open_sessions.result c.args.self.now.head
    c.update_head-self.result marked a c.update_head-self.ensures old at.0 at.2 fits'
    (keeps_on g.S.Store before c.commit.new.self c.args.self.now.open c.update_open_sessions.result marked a
    (subst (λ (o : Option OpenAt). FollowsOn o c.update_open_sessions.result marked.changes)
    c.take.ensures.value c.update_open_sessions.ensures)
    old at.0 at.1 fits' (c.in-Ok.ensures.commit honest old at.0 a fits'))

pub returns-clause-finish : goal.returns-clause-finish
returns-clause-finish g c = λ honest old at a fits.
    let fits' = subst (λ (m : MarkedChanges). Fits old m a) (sym c.into_changes-marked.ensures) fits in
    let after = c.commit.new.self in
    let list = c.args.self.now.open in
    keeps_head_all g.S.Store after list c.args.self.now.head a c.from.result old at.2
    (keeps_all g.S.Store after list a c.from.result old at.1
    (cannot_keep g.S.Store after a c.in-Err.fault c.from.result old
    (c.in-Err.ensures.commit honest old at.0 a fits') (λ is. c.from.ensures ∙ ap refusal_of is)
    (λ is. c.from.ensures ∙ ap refusal_of is)))

pub returns-clause-stops : goal.returns-clause-stops
returns-clause-stops g c =
    faulted c.args.self.now.tables.is_stopped c.commit.new.self.is_stopped c.in-Err.fault c.from.result
    c.in-Err.ensures.stops (λ is. c.from.ensures ∙ ap refusal_of is) (λ is. c.from.ensures ∙ ap refusal_of is)
