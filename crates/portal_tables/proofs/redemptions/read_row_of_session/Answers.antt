use Rattle.portal_tables.proofs.Common.{Option, option_map, map, subst, SessionRow, sessions_of, SessionValue}
use Rattle.portal_tables.proofs.Common.{Has, IfSome, session_read, session_kept, session_total, totals_of}
use Rattle.portal_tables_sql.specs.Finds.{Finds}
use Rattle.portal_tables.proofs.Joining.{row_of_number}
use Rattle.portal_tables.proofs.ShownLemmas.{of_rows, shown_as}
use Rattle.portal_tables.proofs.redemptions.read_row_of_session.Goals as goal

pub returns-in-Some-clause-reads : goal.returns-in-Some-clause-reads
returns-in-Some-clause-reads g c =
    shown_as g.S.Store (λ h legal is.
    let row = subst (λ (o : Option SessionValue). Finds (λ (x : SessionRow). x.number) c.args.number
    (map session_kept (sessions_of h)) (option_map session_read o)
    × IfSome o (λ r. Has (totals_of h) (session_total r))) c.in-Some.is is.1 in
    row_of_number h legal c.args.number c.in-Some.row row.0 row.1)
    (of_rows g.S.Store c.in_ok-row.ensures.reads)
