use Rattle.portal_tables.proofs.Common.{Option, option_map, map, ap, sym, subst, ◌∙◌, arith, ◌≤◌, ◌^◌}
use Rattle.portal_tables.proofs.Common.{session_of, SessionRow, sessions_of, reads_none, SessionValue}
use Rattle.portal_tables.proofs.Common.{HasTables, Has, IfSome, session_read, session_kept, session_total}
use Rattle.portal_tables.proofs.Common.{totals_of}
use Rattle.portal_tables_sql.specs.Finds.{Finds}
use Rattle.portal_tables.proofs.ShownLemmas.{next_fails, of_rows, shown_as, shown_then}
use Rattle.portal_tables.proofs.Joining.{session_missing, session_past, row_of_number}
use Rattle.portal_tables.proofs.records.read_session.Goals as goal

pub returns-then-number-ge-LIMIT : goal.returns-then-number-ge-LIMIT
returns-then-number-ge-LIMIT g c = record {
  found = λ clean live h shown.
      let past : 2 ^ 63 ≤ c.args.number = omega arith in sym (session_past h shown.0 c.args.number past);
  looks = reads_none HasTables _;
}

pub returns-in_err-session_of_row-in-Some : goal.returns-in_err-session_of_row-in-Some
returns-in_err-session_of_row-in-Some g c =
    next_fails g.S.Store _ c.from_residual-in_err-session_of_row-in-Some.result
    c.from_residual-in_err-session_of_row-in-Some.ensures.1 c.in_ok-row.ensures.reads.looks
    c.in_err-session_of_row-in-Some.ensures.looks

pub returns-in_ok-session_of_row-in-Some : goal.returns-in_ok-session_of_row-in-Some
returns-in_ok-session_of_row-in-Some g c =
    shown_as g.S.Store (λ h legal is.
    let row = subst (λ (o : Option SessionValue). Finds (λ (x : SessionRow). x.number) c.args.number
    (map session_kept (sessions_of h)) (option_map session_read o)
    × IfSome o (λ r. Has (totals_of h) (session_total r))) c.in-Some.is is.0.1 in
    let it = row_of_number h legal c.args.number c.in-Some.row row.0 row.1 in
    is.1 it.0 ∙ ap (session_of h) it.1) (shown_then g.S.Store (of_rows g.S.Store c.in_ok-row.ensures.reads)
    c.in_ok-session_of_row-in-Some.ensures)

pub returns-in-None : goal.returns-in-None
returns-in-None g c =
    shown_as g.S.Store (λ h legal is.
    let gone = subst (λ (o : Option SessionValue). Finds (λ (x : SessionRow). x.number) c.args.number
    (map session_kept (sessions_of h)) (option_map session_read o)) c.in-None.is is.1.0 in
    sym (session_missing h legal c.args.number gone)) (of_rows g.S.Store c.in_ok-row.ensures.reads)
