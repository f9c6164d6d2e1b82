use Rattle.portal_files.proofs.Common.{take, items_view, ArePlanTables}
use Rattle.portal_files.proofs.plans.read_plan_values.Given as goal

abbrev pub invariant-loop-value : goal.invariant-loop-value
invariant-loop-value l = ArePlanTables (items_view (take l.value-index l.values)) l.plans
