use Rattle.portal_tables_rows.proofs.Common.{take, Ok, Writes, with_plans}
use Rattle.portal_tables_rows.proofs.commands.insert_plans.Given as goal

abbrev pub invariant-loop-plan : goal.invariant-loop-plan
invariant-loop-plan g l = Writes g.S.Store (with_plans (take l.plan-index l.plans)) l.fn.tx l.tx (Ok tt)
