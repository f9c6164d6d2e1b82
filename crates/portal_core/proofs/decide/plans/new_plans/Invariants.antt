use Rattle.std.proofs.Common.{◌≡◌, take}
use Rattle.portal_model.specs.Change.{plan_among, plans_to_add}
use Rattle.portal_core.proofs.decide.plans.new_plans.Given as goal

abbrev pub invariant-loop-plan : goal.invariant-loop-plan
invariant-loop-plan l = l.new ≡ plans_to_add (plan_among l.held) (take l.plan-index l.plans)
