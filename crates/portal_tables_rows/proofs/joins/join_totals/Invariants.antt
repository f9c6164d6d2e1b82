use Rattle.portal_tables_rows.proofs.Common.{◌≡◌, map, take, ends_row, old_session_read, session_read}
use Rattle.portal_tables_rows.proofs.Common.{session_total}
use Rattle.portal_tables_rows.proofs.joins.join_totals.Given as goal

abbrev pub invariant-loop-at : goal.invariant-loop-at
invariant-loop-at l = record {
  sessions : map session_read l.joined.items ≡ map old_session_read (take l.at l.sessions);
  totals : map session_total l.joined.items ≡ map ends_row (take l.at l.totals);
}
