use Rattle.portal_files.proofs.Common.{◌≡◌, Some, refl, arith, ap, ◌∙◌, table_view}
use Rattle.portal_files.proofs.Tables.{member_count-view, WasRead, plan-table, table-terms, id-text}
use Rattle.portal_files.proofs.Tables.{some-from_ok, none-from_err}
use Rattle.portal_model.specs.declared.refusal.Refusal.TheVariants.{BadPlans}
use Rattle.portal_files.proofs.plans.read_plan.Goals as goal
use Rattle.portal_files.proofs.plans.read_plan.Goals.{After-ok}

pub returns-then-len-ne7-clause-none : goal.returns-then-len-ne7-clause-none
returns-then-len-ne7-clause-none c = λ _ p is. let count = member_count-view c.args.table.now.entries in
    let l = c.len.ensures.len in
    let s = is.seven in
    omega arith

pub returns-in_err-id-clause-none : goal.returns-in_err-id-clause-none
returns-in_err-id-clause-none c = λ _ p is.
    c.in_err-id.ensures.none refl (id-text c.in_ok-string_at.field-0.now p c.in_ok-string_at.ensures is)

was_read : (c : After-ok)
    → WasRead (table_view c.args.table.now) c.in_ok-id.id c.in_ok-price.price c.in_ok-uses.uses
    c.in_ok-seconds.seconds c.in_ok-bytes.bytes c.in_ok-shelf_days.shelf_days c.in_ok-extend.extend
was_read c =
    let count = member_count-view c.args.table.now.entries in
    let len = c.len.ensures.len in
    record {
      seven = omega arith;
      id_is = ap Some c.in_ok-id.ensures.value ∙ c.in_ok-string_at.ensures;
      price_is = c.in_ok-price.ensures.some;
      uses_is = c.in_ok-uses.ensures.some;
      seconds_is = c.in_ok-seconds.ensures.some;
      bytes_is = c.in_ok-bytes.ensures.some;
      shelf_days_is = c.in_ok-shelf_days.ensures.some;
      extend_is = c.in_ok-extend.ensures;
    }

pub returns-clause-some : goal.returns-clause-some
returns-clause-some c = some-from_ok c.ok.result c.new.result _ _ c.ok.ensures.value
    (λ p is. plan-table p (was_read c) is) c.new.ensures.ok

pub returns-clause-none : goal.returns-clause-none
returns-clause-none c = λ none p is. none-from_err (λ r. r ≡ BadPlans) c.ok.result c.new.result
    c.ok.ensures.value none c.new.ensures.err (table-terms p (was_read c) is)
