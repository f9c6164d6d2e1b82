use Rattle.portal_tables_rows.proofs.Common.{arith, ap, ◌∙◌, map, take_all}
use Rattle.portal_tables_rows.proofs.Common.{ends_row, old_session_read, session_total, session_read}
use Rattle.portal_tables_rows.proofs.Common.{err_from_is_err_and, OldSession, Total}
use Rattle.portal_tables_rows.proofs.Compose.{made_more, same_at}
use Rattle.portal_tables_rows.proofs.joins.join_totals.Goals as goal

pub loop-at-preserved : goal.loop-at-preserved
loop-at-preserved c = record {
  sessions = made_more session_read old_session_read c.loop-at.joined.items c.push.new.self.items _
      c.args.sessions.now c.loop-at.at c.index-sessions-at.result c.loop-at.invariant.sessions
      c.in_ok-push.ensures.items c.loop-at-test.true c.index-sessions-at.is
      c.in_ok-join_total.ensures.session;
  totals = made_more session_total ends_row c.loop-at.joined.items c.push.new.self.items _
      c.args.totals.now c.loop-at.at c.index-totals-at.result c.loop-at.invariant.totals
      c.in_ok-push.ensures.items (omega arith) c.index-totals-at.is c.in_ok-join_total.ensures.total;
}

pub returns-clause-sessions : goal.returns-clause-sessions
returns-clause-sessions c = c.loop-at.invariant.sessions
    ∙ ap (map old_session_read) (take_all c.loop-at.at c.args.sessions.now c.loop-at-test.false)

pub returns-clause-totals : goal.returns-clause-totals
returns-clause-totals c =
    c.loop-at.invariant.totals ∙ ap (map ends_row) (take_all c.loop-at.at c.args.totals.now (omega arith))

pub returns-in_err-join_total-clause-own : goal.returns-in_err-join_total-clause-own
returns-in_err-join_total-clause-own c same =
    let told = err_from_is_err_and c.from_residual.result c.from_residual.ensures.1 in
    rw (told.1, told.2) (c.in_err-join_total.ensures.own (same_at (λ (m : Total). m.number)
    (λ (s : OldSession). s.number) c.args.totals.now c.args.sessions.now c.loop-at.at
    c.index-totals-at.result c.index-sessions-at.result (omega arith) c.loop-at-test.true
    c.index-totals-at.is c.index-sessions-at.is same))
