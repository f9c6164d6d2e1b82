use Rattle.portal_tables.proofs.Common.{Option, option_map, map, sym, subst, ◌∙◌, text_of_device, SessionRow}
use Rattle.portal_tables.proofs.Common.{sessions_of, FindsLast, SessionValue, session_read, session_kept}
use Rattle.portal_tables.proofs.Common.{Has, IfSome, session_total, totals_of}
use Rattle.portal_tables.proofs.ShownLemmas.{next_fails, of_rows, shown_as, shown_then}
use Rattle.portal_tables.proofs.Joining.{last_missing, last_found}
use Rattle.portal_tables.proofs.records.read_last_session.Goals as goal

pub returns-in_err-session_of_row-in-Some : goal.returns-in_err-session_of_row-in-Some
returns-in_err-session_of_row-in-Some g c =
    next_fails g.S.Store _ c.from_residual-in_err-session_of_row-in-Some.result
    c.from_residual-in_err-session_of_row-in-Some.ensures.1 c.in_ok-row.ensures.reads.looks
    c.in_err-session_of_row-in-Some.ensures.looks

pub returns-in_ok-session_of_row-in-Some : goal.returns-in_ok-session_of_row-in-Some
returns-in_ok-session_of_row-in-Some g c =
    shown_as g.S.Store (λ h legal is.
    let row = subst (λ (o : Option SessionValue).
    FindsLast (λ (x : SessionRow). x.device) (text_of_device c.args.device.now) (λ (x : SessionRow). x.number)
    (map session_kept (sessions_of h)) (option_map session_read o)
    × IfSome o (λ r. Has (totals_of h) (session_total r))) c.in-Some.is is.0.1 in
    let it = last_found h legal c.args.device.now c.read_last_session_row.ensures.device c.in-Some.row row.0
    row.1 in
    is.1 it.0 ∙ sym it.1) (shown_then g.S.Store (of_rows g.S.Store c.in_ok-row.ensures.reads)
    c.in_ok-session_of_row-in-Some.ensures)

pub returns-in-None : goal.returns-in-None
returns-in-None g c =
    shown_as g.S.Store (λ h legal is.
    let gone = subst (λ (o : Option SessionValue).
    FindsLast (λ (x : SessionRow). x.device) (text_of_device c.args.device.now) (λ (x : SessionRow). x.number)
    (map session_kept (sessions_of h)) (option_map session_read o)) c.in-None.is is.1.0 in
    sym (last_missing h legal c.args.device.now c.read_last_session_row.ensures.device gone))
    (of_rows g.S.Store c.in_ok-row.ensures.reads)
