use Rattle.portal_files.proofs.Common.{◌≡◌, ◌∙◌, ◌+◌, ◌||◌, Bool, true, false, List, drop, map, sym, ap}
use Rattle.portal_files.proofs.Common.{list_any, bytes_eq, Plan, has_duplicate_id}
use Rattle.portal_files.proofs.PlanLists.{has_duplicate_id-drop, list_any-map}
use Rattle.portal_files.proofs.plans.has_repeated_id.Goals as goal

pub returns-then-has_id : goal.returns-then-has_id
returns-then-has_id c =
    let plans = c.args.plans.now in
    let i = c.loop-i.i in
    let later = drop (i + 1) plans in
    let plan : Plan = c.index-plans-i.result in
    let test : List Plan → Bool = λ ps. list_any (bytes_eq plan.id) (map (λ q. q.id) ps) in
    let step = has_duplicate_id-drop plans i plan c.loop-i-test.true c.index-plans-i.is in
    let yes : test later ≡ true = sym (list_any-map (bytes_eq plan.id) (λ (q : Plan). q.id) later)
    ∙ ap (list_any (λ (q : Plan). bytes_eq plan.id q.id)) (sym c.split_at.ensures.back)
    ∙ sym c.has_id.ensures ∙ c.if-has_id.true in
    sym (step ∙ ap (λ b. b || has_duplicate_id later) yes) ∙ c.loop-i.invariant

pub loop-i-preserved : goal.loop-i-preserved
loop-i-preserved c =
    let plans = c.args.plans.now in
    let i = c.loop-i.i in
    let later = drop (i + 1) plans in
    let plan : Plan = c.index-plans-i.result in
    let test : List Plan → Bool = λ ps. list_any (bytes_eq plan.id) (map (λ q. q.id) ps) in
    let step = has_duplicate_id-drop plans i plan c.loop-i-test.true c.index-plans-i.is in
    let no : test later ≡ false = sym (list_any-map (bytes_eq plan.id) (λ (q : Plan). q.id) later)
    ∙ ap (list_any (λ (q : Plan). bytes_eq plan.id q.id)) (sym c.split_at.ensures.back)
    ∙ sym c.has_id.ensures ∙ c.if-has_id.false in
    sym (step ∙ ap (λ b. b || has_duplicate_id later) no) ∙ c.loop-i.invariant
