use Rattle.std.proofs.Common.{◌≡◌, ℕ, ◌+◌, true, false, cond, Some, drop, ap, sym, ◌∙◌, Bool}
use Rattle.std.specs.Prelude.{bytes_eq}
use Rattle.portal_model.specs.Change.{plan_among}
use Rattle.portal_core.proofs.Among.{among-drop}
use Rattle.portal_core.proofs.decide.plans.listed_plan.Goals as goal

pub returns-then-is : goal.returns-then-is
returns-then-is c =
    let plans = c.args.plans.now in
    let i : ℕ = c.loop-plan.plan-index in
    let step = among-drop plans c.args.id i c.plan-item.result c.loop-plan-test.true c.plan-item.is in
    let same : bytes_eq c.plan-item.result.id c.args.id ≡ true = sym c.is.ensures ∙ c.if-is.true in
    sym (step
    ∙ ap (λ (b : Bool). cond b (Some c.plan-item.result) (plan_among (drop (i + 1) plans) c.args.id)) same)
    ∙ c.loop-plan.invariant

pub loop-plan-preserved : goal.loop-plan-preserved
loop-plan-preserved c =
    let plans = c.args.plans.now in
    let i : ℕ = c.loop-plan.plan-index in
    let step = among-drop plans c.args.id i c.plan-item.result c.loop-plan-test.true c.plan-item.is in
    let other : bytes_eq c.plan-item.result.id c.args.id ≡ false = sym c.is.ensures ∙ c.if-is.false in
    sym (step
    ∙ ap (λ (b : Bool). cond b (Some c.plan-item.result) (plan_among (drop (i + 1) plans) c.args.id)) other)
    ∙ c.loop-plan.invariant
