use Rattle.portal_desk_store.proofs.Common.{List, ◌++◌, ap, ◌∙◌, Load, Plan, plans_of, held_among, history_of}
use Rattle.portal_desk_store.proofs.JudgeLemmas.{decides_at, loads_alike}
use Rattle.portal_desk_store.proofs.StepLemmas.{and_then}
use Rattle.portal_desk_store.proofs.desks.StoreDesk.judge_load.Goals as goal

pub returns : goal.returns
returns g c =
    let plans = c.args.plans.now in
    and_then c.in_ok-add_held_plans.ensures (decides_at c.decide_plans.ensures (Load plans) c.args.t)
    (λ L held x judge.
    let alike = loads_alike (history_of L) c.args.t plans c.as_slice.result.now
    (c.as_slice.ensures.value ∙ held
    ∙ ap (λ (ps : List Plan). ps ++ held_among (plans_of (history_of L)) plans) c.new-held.ensures.items) in
    judge alike.0 alike.1)
