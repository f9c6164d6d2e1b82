use Rattle.portal_tables_rows.proofs.Common.{Ok, sym, subst, take, take_all, Writes, with_plans}
use Rattle.portal_tables_rows.proofs.Compose.{plans_none, plans_then, more_items}
use Rattle.portal_tables_rows.proofs.WritesLemmas.{writes_none, writes_by}
use Rattle.portal_tables_rows.proofs.commands.insert_plans.Goals as goal

pub loop-plan-init : goal.loop-plan-init
loop-plan-init g c = writes_none g.S.Store c.args.tx.now plans_none

pub loop-plan-preserved : goal.loop-plan-preserved
loop-plan-preserved g c =
    let plans = c.args.plans.now in
    let at = c.loop-plan.plan-index in
    let plan = c.plan-item.result in
    subst (λ all. Writes g.S.Store (with_plans all) c.args.tx.now c.insert_plan.new.tx (Ok tt))
    (sym (more_items plans at plan c.loop-plan-test.true c.plan-item.is))
    (writes_by g.S.Store _ (plans_then (take at plans) plan) c.loop-plan.invariant
    c.in_ok-insert_plan.ensures)

pub returns : goal.returns
returns g c = subst (λ all. Writes g.S.Store (with_plans all) c.args.tx.now c.loop-plan.tx (Ok tt))
    (take_all c.loop-plan.plan-index c.args.plans.now c.loop-plan-test.false) c.loop-plan.invariant
