use Rattle.portal_desk_store.proofs.Common.{List, ap, map, ◌∙◌, filter, max, Session, open_session}
use Rattle.portal_desk_store.proofs.Common.{is_open_at, OpenAt}
use Rattle.std.proofs.lemmas.List.{take_all}
use Rattle.portal_desk_store.proofs.ListLemmas.{listed}
use Rattle.portal_desk_store.proofs.open_sessions.OpenSessions.sessions_at.Goals as goal

pub returns : goal.returns
returns c H has =
    let t = c.effective-t.result in
    let listing : List Session → _ = λ (xs : List Session). map (open_session t) (filter (is_open_at t) xs) in
    c.loop-session.invariant
    ∙ ap listing
    (take_all c.loop-session.session-index c.deref-session-items.result.now c.loop-session-test.false
    ∙ c.deref-session-items.ensures.value ∙ ap (λ (o : OpenAt). o.sessions) c.self.view_is)
    ∙ listed open_session H c.args.moment c.args.self.now has t
    (c.effective-t.ensures ∙ ap (λ (o : OpenAt). max c.args.moment o.moment) c.self.view_is)
