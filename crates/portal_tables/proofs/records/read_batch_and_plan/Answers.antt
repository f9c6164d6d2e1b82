use Rattle.std.proofs.Common.{sym, ◌∙◌}
use Rattle.portal_tables.proofs.ShownLemmas.{next_fails, of_rows, shown_as, shown_then}
use Rattle.portal_tables.proofs.Joining.{plan_found, batch_found}
use Rattle.portal_tables.proofs.records.read_batch_and_plan.Goals as goal

pub returns-in_err-plan : goal.returns-in_err-plan
returns-in_err-plan g c = next_fails g.S.Store _ c.from_residual-in_err-plan.result
    c.from_residual-in_err-plan.ensures.1 c.in_ok-batch.ensures.looks c.in_err-plan.ensures.looks

pub returns-in-Some-2 : goal.returns-in-Some-2
returns-in-Some-2 g c =
    shown_as g.S.Store (λ h legal is. (
      sym (batch_found h legal c.args.id.now c.in_ok-batch.field-0 is.0.1) ∙ c.in-Some.is,
      sym (plan_found h legal c.in-Some.batch.plan c.in_ok-plan.field-0 is.1.1) ∙ c.in-Some-2.is,
    )) (shown_then g.S.Store (of_rows g.S.Store c.in_ok-batch.ensures)
    (of_rows g.S.Store c.in_ok-plan.ensures))
