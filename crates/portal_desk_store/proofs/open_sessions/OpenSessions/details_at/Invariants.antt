use Rattle.portal_desk_store.proofs.Common.{◌≡◌, map, take, filter, is_open_at}
use Rattle.portal_model.specs.Details.{details_at}
use Rattle.portal_desk_store.proofs.open_sessions.OpenSessions.details_at.Given as goal

abbrev pub invariant-loop-session : goal.invariant-loop-session
invariant-loop-session l =
    l.listing.items ≡ map (details_at l.at) (filter (is_open_at l.at) (take l.session-index l.session-items))
