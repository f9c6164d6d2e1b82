use Rattle.portal_tables.proofs.Joining.{session_joined}
use Rattle.portal_tables.proofs.records.session_of_plan.Goals as goal

pub returns : goal.returns
returns c = λ h legal plan is_row.
    session_joined h legal c.args.row.now c.args.plan.now c.in_ok-allowance.allowance c.requires is_row plan
    c.in_ok-allowance.ensures
