use Rattle.portal_desk_store.proofs.open_sessions.OpenSessions.captive_at.Given as goal

abbrev pub invariant-loop-session : goal.invariant-loop-session
invariant-loop-session l = Unit {0}
