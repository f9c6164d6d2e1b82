use Rattle.portal_desk_store.proofs.Common.{List, All, Session, OpenAt, ap, subst, sym, ◌∙◌, max}
use Rattle.portal_model_laws.proofs.Basics.{bytes_same}
use Rattle.portal_desk_store.proofs.OpenSessionLemmas.{IsOf}
use Rattle.portal_desk_store.proofs.ListLemmas.{listed_captive}
use Rattle.portal_desk_store.proofs.open_sessions.OpenSessions.captive_at.Goals as goal

pub returns-then-is_open : goal.returns-then-is_open
returns-then-is_open c = λ H legal has.
    let s = c.session-item.result in
    let same = c.deref-session-items.ensures.value ∙ ap (λ (o : OpenAt). o.sessions) c.self.view_is in
    let known = subst (λ (xs : List Session). All (IsOf H) xs) (sym same) has.known in
    let is = subst (IsOf H) (sym c.session-item.is)
    (known c.loop-session.session-index s c.loop-session-test.true) in
    c.captive_of.ensures
    ∙ listed_captive H legal c.args.self.now has c.args.moment c.effective-now.result
    (c.effective-now.ensures ∙ ap (λ (o : OpenAt). max c.args.moment o.moment) c.self.view_is)
    s is c.args.device.now (bytes_same s.device c.args.device.now (sym c.if-eq.ensures))
    (sym c.if-is_open.ensures)
