use Rattle.std.proofs.Common.{◌≡◌, drop}
use Rattle.portal_model.specs.Change.{plan_among}
use Rattle.portal_core.proofs.decide.plans.listed_plan.Given as goal

abbrev pub invariant-loop-plan : goal.invariant-loop-plan
invariant-loop-plan l = plan_among (drop l.plan-index l.plans) l.id ≡ plan_among l.plans l.id
