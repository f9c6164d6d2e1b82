use Rattle.portal_tables_rows.proofs.Common.{◌≡◌, map, take, total_from, old_session_read, ends_row}
use Rattle.portal_tables_rows.proofs.Common.{grant_read}
use Rattle.portal_tables_rows.proofs.Common.{rows_for_sums}
use Rattle.portal_tables_rows.proofs.sums.sum_totals.Given as goal

abbrev pub invariant-loop-session : goal.invariant-loop-session
invariant-loop-session l = map ends_row l.totals.items
    ≡ map (λ s. total_from (rows_for_sums l.plans (map grant_read l.grants)) (old_session_read s))
    (take l.session-index l.sessions)
