use Rattle.portal_tables_rows.proofs.Common.{map, take, Ok, Writes, with_whole_sessions, whole_session_read}
use Rattle.portal_tables_rows.proofs.migrations.insert_whole_sessions.Given as goal

abbrev pub invariant-loop-session : goal.invariant-loop-session
invariant-loop-session g l = Writes g.S.Store
    (with_whole_sessions (map whole_session_read (take l.session-index l.sessions))) l.fn.tx l.tx (Ok tt)
