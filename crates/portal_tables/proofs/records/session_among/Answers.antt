use Rattle.portal_tables.proofs.Common.{◌∙◌, List, IfOk-weaker, ap, sym, Plan, plan_among}
use Rattle.portal_model_laws.proofs.Plans.{plan_is_row}
use Rattle.portal_tables.proofs.records.session_among.Goals as goal

pub returns-in-Some : goal.returns-in-Some
returns-in-Some c =
    IfOk-weaker c.session_of_plan.result _ _ (λ session is h legal plans is_row.
    let id = c.args.row.now.plan in
    let plan = plan_is_row h id ∙ ap (λ (ps : List Plan). plan_among ps id) (sym plans)
    ∙ sym c.in-Some.ensures in
    is h legal plan is_row) c.session_of_plan.ensures
