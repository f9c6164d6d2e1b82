use Rattle.portal_tables_rows.proofs.Common.{sym, ap, ◌∙◌, map, subst, ◌<◌, ◌^◌, take_all, map-map}
use Rattle.portal_tables_rows.proofs.Common.{total_from, old_session_read, ends_row, grant_read}
use Rattle.portal_tables_rows.proofs.Common.{rows_for_sums}
use Rattle.portal_tables_rows.proofs.Common.{err_from_is_err_and, has_at, has_mapped, Given}
use Rattle.portal_tables_rows.proofs.Compose.{made_more}
use Rattle.portal_tables_rows.specs.declared.rows.OldSession.{OldSession}
use Rattle.portal_tables_rows.proofs.sums.sum_totals.Goals as goal

pub loop-session-preserved : goal.loop-session-preserved
loop-session-preserved c =
    let grants = map grant_read c.args.grants.now in
    let given = c.given_to_session.ensures ∙ c.in_ok-given.ensures.given c.session-item.result.number in
    made_more ends_row (λ s. total_from (rows_for_sums c.args.plans.now grants) (old_session_read s))
    c.loop-session.totals.items c.push.new.self.items _ c.args.sessions.now
    c.loop-session.session-index c.session-item.result
    c.loop-session.invariant c.in_ok-push.ensures.items c.loop-session-test.true c.session-item.is
    (c.in_ok-total.ensures.total grants given)

pub returns-clause-sums : goal.returns-clause-sums
returns-clause-sums c =
    let rows = rows_for_sums c.args.plans.now (map grant_read c.args.grants.now) in
    let made = λ (s : OldSession). total_from rows (old_session_read s) in
    c.loop-session.invariant
    ∙ ap (map made) (take_all c.loop-session.session-index c.args.sessions.now c.loop-session-test.false)
    ∙ sym (map-map (total_from rows) old_session_read c.args.sessions.now)

pub returns-in_err-total-clause-kept : goal.returns-in_err-total-clause-kept
returns-in_err-total-clause-kept c fits =
    let told =
    err_from_is_err_and c.from_residual-in_err-total.result c.from_residual-in_err-total.ensures.1 in
    let grants = map grant_read c.args.grants.now in
    let session = c.session-item.result in
    let given = c.given_to_session.ensures ∙ c.in_ok-given.ensures.given session.number in
    let has = has_mapped old_session_read c.args.sessions.now session (has_at c.args.sessions.now
    c.loop-session.session-index session c.loop-session-test.true c.session-item.is) in
    let bytes = subst (λ (x : Given). x.bytes < 2 ^ 63) (sym given) (fits.given session.number).1 in
    rw (told.1, told.2) (c.in_err-total.ensures.kept bytes (fits.used (old_session_read session) has) grants
    given
    (fits.ends (old_session_read session) has))
