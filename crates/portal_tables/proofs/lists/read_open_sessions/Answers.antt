use Rattle.portal_tables.proofs.Common.{All, map, ap, sym, subst, ◌∙◌, fails_weaker, reads_then}
use Rattle.portal_tables.proofs.Common.{reads_weaker, HasFirst, HasTables, first_there, session_of, IsRowOf}
use Rattle.portal_tables.proofs.Common.{SessionValue}
use Rattle.portal_tables.proofs.ShownLemmas.{made_fails, next_fails, of_first, of_rows, read_fails, shown_as}
use Rattle.portal_tables.proofs.ShownLemmas.{shown_then}
use Rattle.portal_tables.proofs.ListLaws.{open_listed, open_rows}
use Rattle.portal_tables.proofs.lists.read_open_sessions.Goals as goal

pub returns-in_err-plans : goal.returns-in_err-plans
returns-in_err-plans g c = read_fails g.S.Store _ c.from_residual.result c.from_residual.ensures.1
    (fails_weaker HasFirst HasTables first_there _ _ c.in_err-plans.ensures.looks)

pub returns-in_err-rows : goal.returns-in_err-rows
returns-in_err-rows g c =
    next_fails g.S.Store _ c.from_residual-in_err-rows.result c.from_residual-in_err-rows.ensures.1
    (reads_weaker HasFirst HasTables first_there _ _ c.in_ok-plans.ensures.looks)
    c.in_err-rows.ensures.reads.looks

pub returns-in_err-sessions_among : goal.returns-in_err-sessions_among
returns-in_err-sessions_among g c =
    made_fails g.S.Store _ c.from_residual-in_err-sessions_among.result
    c.from_residual-in_err-sessions_among.ensures.1
    (reads_then HasTables _ _ _
    (reads_weaker HasFirst HasTables first_there _ _ c.in_ok-plans.ensures.looks)
    c.in_ok-rows.ensures.reads.looks)

pub returns : goal.returns
returns g c =
    shown_as g.S.Store (λ h legal is.
    let rows = c.in_ok-rows.rows.items in
    let same = c.deref-2.ensures.value in
    let all = subst (All (IsRowOf h)) (sym same) (open_rows h legal c.args.t rows is.1.1) in
    open_listed h legal c.args.t rows is.1.1 c.in_ok-sessions_among.field-0.items
    (c.in_ok-sessions_among.ensures h legal (c.deref.ensures.value ∙ is.0.1) all
    ∙ ap (map (λ (r : SessionValue). session_of h r.number)) same))
    (shown_then g.S.Store (of_first g.S.Store c.in_ok-plans.ensures)
    (of_rows g.S.Store c.in_ok-rows.ensures.reads))
