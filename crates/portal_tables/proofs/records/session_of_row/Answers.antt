use Rattle.portal_tables.proofs.Common.{sym, ◌∙◌}
use Rattle.portal_tables.proofs.ShownLemmas.{made_fails, of_rows, shown_as}
use Rattle.portal_tables.proofs.Joining.{plan_found}
use Rattle.portal_tables.proofs.records.session_of_row.Goals as goal

pub returns-in_err-session_of_plan : goal.returns-in_err-session_of_plan
returns-in_err-session_of_plan g c =
    made_fails g.S.Store _ c.from_residual-in_err-session_of_plan.result
    c.from_residual-in_err-session_of_plan.ensures.1 c.in_ok-plan.ensures.looks

pub returns : goal.returns
returns g c =
    shown_as g.S.Store (λ h legal is is_row.
    let plan = plan_found h legal c.args.row.now.plan c.in_ok-plan.field-0 is.1 in
    c.in_ok-session_of_plan.ensures h legal (sym plan ∙ c.in-Some.is) is_row)
    (of_rows g.S.Store c.in_ok-plan.ensures)
