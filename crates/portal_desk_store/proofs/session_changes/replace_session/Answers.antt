use Rattle.portal_desk_store.proofs.Common.{rules}
use Rattle.std.proofs.lemmas.List.Sorted.{answers_always}
use Rattle.portal_desk_store.proofs.AscendingLemmas.{searched-err, searched-ok}
use Rattle.portal_desk_store.proofs.session_changes.replace_session.Goals as goal

-- the closure gives a session's number, and the search found it at a place
pub returns-in-Ok : goal.returns-in-Ok
returns-in-Ok c = λ up.
    searched-ok c.args.sessions.now up c.args.now.now c.in-Ok.place c.in-Ok.ensures.bound
    (c.in-Ok.ensures.position (λ s. s.number) (answers_always _ _ _ (λ f a r g called. search rules)))

-- no session of the list has the number
pub returns-in_default : goal.returns-in_default
returns-in_default c = λ up.
    searched-err c.args.sessions.now up c.args.now.now c.in_default.field-0
    (c.in_default.ensures.position (λ s. s.number) (answers_always _ _ _ (λ f a r g called. search rules)))
