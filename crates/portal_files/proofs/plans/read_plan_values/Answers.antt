use Rattle.portal_files.proofs.Common.{◌≡◌, ◌+◌, ◌∙◌, List, [], ◌∷◌, ◌++◌, get_or, take, ap, sym, subst, refl}
use Rattle.portal_files.proofs.Common.{push_item, view, items_view, items_view-push, Plan, IsPlanData}
use Rattle.portal_files.proofs.Common.{ArePlanTables}
use Rattle.std.proofs.lemmas.List.{take_more}
use Rattle.portal_files.proofs.PlanLists.{no-table_at, tables-push}
use Rattle.portal_files.proofs.plans.read_plan_values.Goals as goal

pub returns-in_default-clause-bad : goal.returns-in_default-clause-bad
returns-in_default-clause-bad c = λ _ plans all.
    no-table_at c.args.values.now plans c.loop-value.value-index c.value-item.result
    c.loop-value-test.true all
    (λ p is. c.in_default.ensures.none refl p (subst (λ v. IsPlanData (view v) p) (sym c.value-item.is) is))

pub loop-value-preserved : goal.loop-value-preserved
loop-value-preserved c =
    let vs = c.args.values.now in
    let i = c.loop-value.value-index in
    let v = c.value-item.result in
    let before : List Plan = c.loop-value.plans in
    let plan : Plan = c.in-Some.plan in
    let items : c.push.new.self ≡ before ++ plan ∷ [] = c.in_ok-push.ensures.ok in
    let e : items_view (take (i + 1) vs) ≡ push_item (items_view (take i vs)) (view v) =
    ap items_view (take_more vs i v c.loop-value-test.true) ∙ items_view-push (take i vs) (get_or vs i v)
    ∙ ap (λ w. push_item (items_view (take i vs)) (view w)) (sym c.value-item.is) in
    let step : ArePlanTables (push_item (items_view (take i vs)) (view v)) (before ++ plan ∷ []) =
    tables-push (items_view (take i vs)) before (view v) plan c.loop-value.invariant c.in-Some.ensures.some in
    let moved : ArePlanTables (items_view (take (i + 1) vs)) (before ++ plan ∷ []) =
    subst (λ x. ArePlanTables x (before ++ plan ∷ [])) (sym e) step in
    subst (λ x. ArePlanTables (items_view (take (i + 1) vs)) x) (sym items) moved
