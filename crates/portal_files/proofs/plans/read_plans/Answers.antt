use Rattle.portal_files.proofs.Common.{◌≡◌, ◌∙◌, length, true, Some, ap, sym, subst, arith, false≢true}
use Rattle.portal_files.proofs.Common.{items_view, has_duplicate_id, ArePlanTables}
use Rattle.std.proofs.lemmas.Bool.Decides.{nat_tests}
use Rattle.portal_files.proofs.PlanLists.{tables-length}
use Rattle.portal_files.proofs.SamePlans.{file-tables, equal-plans}
use Rattle.portal_files.proofs.plans.read_plans.Goals as goal

pub returns-then-is_empty-clause-bad : goal.returns-then-is_empty-clause-bad
returns-then-is_empty-clause-bad c = λ _ plans file.
    let vs = c.in-Some.array.now.items in
    let count = tables-length vs plans (file-tables file c.in_ok-table.ensures.ok.1 c.in-Some.ensures.some) in
    let least = file.least in
    let same = ap length c.as_slice-values.ensures.value in
    let empty = c.is_empty.ensures in
    let test = c.if-is_empty.true in
    absurd (grind (arith, nat_tests))

pub returns-then-values-gt500-clause-bad : goal.returns-then-values-gt500-clause-bad
returns-then-values-gt500-clause-bad c = λ _ plans file.
    let vs = c.in-Some.array.now.items in
    let count = tables-length vs plans (file-tables file c.in_ok-table.ensures.ok.1 c.in-Some.ensures.some) in
    let most = file.most in
    let same = ap length c.as_slice-values.ensures.value in
    let test = c.if-values-gt500.true in
    absurd (omega arith)

pub returns-then-has_repeated_id-clause-bad : goal.returns-then-has_repeated_id-clause-bad
returns-then-has_repeated_id-clause-bad c = λ _ plans file.
    let vs = c.in-Some.array.now.items in
    let there = file-tables file c.in_ok-table.ensures.ok.1 c.in-Some.ensures.some in
    let here : ArePlanTables (items_view vs) c.in_ok-plans.plans =
    subst (λ x. ArePlanTables (items_view x) c.in_ok-plans.plans) c.as_slice-values.ensures.value
    c.in_ok-plans.ensures.ok in
    let same : c.as_slice.result.now ≡ plans =
    c.as_slice.ensures ∙ equal-plans (items_view vs) _ _ here there in
    let twice : true ≡ has_duplicate_id plans =
    sym c.if-has_repeated_id.true ∙ c.has_repeated_id.ensures ∙ ap has_duplicate_id same in
    absurd (false≢true (sym (twice ∙ file.distinct)))

pub returns-clause-ok : goal.returns-clause-ok
returns-clause-ok c =
    let vs = c.in-Some.array.now.items in
    let plans = c.in_ok-plans.plans in
    let here : ArePlanTables (items_view vs) plans = subst (λ x. ArePlanTables (items_view x) plans)
    c.as_slice-values.ensures.value c.in_ok-plans.ensures.ok in
    let count = tables-length vs plans here in
    let same = ap length c.as_slice-values.ensures.value in
    let empty = c.is_empty.ensures in
    let test = c.if-is_empty.false in
    let limit = c.if-values-gt500.false in
    record {
      items = items_view vs;
      utf8 = c.in_ok-table.ensures.ok.0;
      document = c.in_ok-table.ensures.ok.1 ∙ ap Some c.in-Some.ensures.some;
      tables = here;
      least = grind (arith, nat_tests);
      most = omega arith;
      distinct = ap has_duplicate_id (sym c.as_slice.ensures) ∙ sym c.has_repeated_id.ensures
          ∙ c.if-has_repeated_id.false;
    }
