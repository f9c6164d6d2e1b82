use Rattle.portal_tables_rows.proofs.Common.{Ok, sym, subst, map, take, take_all, Writes, whole_session_read}
use Rattle.portal_tables_rows.proofs.Common.{with_whole_sessions}
use Rattle.portal_tables_rows.proofs.Compose.{more_mapped}
use Rattle.portal_tables_rows.proofs.WritesLemmas.{writes_none, writes_by}
use Rattle.portal_tables_rows.proofs.MigrateLemmas.{sessions_none, sessions_then}
use Rattle.portal_tables_rows.proofs.migrations.insert_whole_sessions.Goals as goal

pub loop-session-init : goal.loop-session-init
loop-session-init g c = writes_none g.S.Store c.args.tx.now sessions_none

pub loop-session-preserved : goal.loop-session-preserved
loop-session-preserved g c =
    let rows = c.args.sessions.now in
    let at = c.loop-session.session-index in
    let row = c.session-item.result in
    subst (λ all. Writes g.S.Store (with_whole_sessions all) c.args.tx.now c.insert_whole_session.new.tx
    (Ok tt))
    (sym (more_mapped whole_session_read rows at row c.loop-session-test.true c.session-item.is))
    (writes_by g.S.Store _ (sessions_then (map whole_session_read (take at rows)) (whole_session_read row))
    c.loop-session.invariant c.in_ok-insert_whole_session.ensures)

pub returns : goal.returns
returns g c =
    subst (λ all. Writes g.S.Store (with_whole_sessions (map whole_session_read all)) c.args.tx.now
    c.loop-session.tx (Ok tt))
    (take_all c.loop-session.session-index c.args.sessions.now c.loop-session-test.false)
    c.loop-session.invariant
