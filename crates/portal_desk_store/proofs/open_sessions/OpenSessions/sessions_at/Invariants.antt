use Rattle.portal_desk_store.proofs.Common.{◌≡◌, map, take, filter, open_session, is_open_at}
use Rattle.portal_desk_store.proofs.open_sessions.OpenSessions.sessions_at.Given as goal

abbrev pub invariant-loop-session : goal.invariant-loop-session
invariant-loop-session l =
    l.listing.items ≡ map (open_session l.t) (filter (is_open_at l.t) (take l.session-index l.session-items))
