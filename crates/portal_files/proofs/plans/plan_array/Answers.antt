use Rattle.portal_files.proofs.Common.{◌≡◌, ap, arith, codes, table_get, view, table_view, member_count}
use Rattle.portal_files.proofs.Tables.{member_count-view}
use Rattle.portal_files.proofs.PlanLists.{found-array, no-array, no-member}
use Rattle.portal_files.proofs.plans.plan_array.Goals as goal

pub returns-then-len-ne1-clause-none : goal.returns-then-len-ne1-clause-none
returns-then-len-ne1-clause-none c = λ _ items is. let count = member_count-view c.args.table.now.entries in
    let l = c.len.ensures.len in
    let one : member_count (table_view c.args.table.now) ≡ 1 = ap member_count is in
    omega arith

pub returns-clause-some : goal.returns-clause-some
returns-clause-some c =
    let count = member_count-view c.args.table.now.entries in
    let l = c.len.ensures.len in
    let found = table_get c.get.result (codes "plan") c.args.table.now.entries c.get.ensures.value in
    found-array c.as_array.result (view c.in_ok-get.field-0.now) (table_view c.args.table.now)
    c.as_array.ensures (omega arith) (rw c.in_ok-get.was at found)

pub returns-clause-none : goal.returns-clause-none
returns-clause-none c = λ n items is.
    let found = table_get c.get.result (codes "plan") c.args.table.now.entries c.get.ensures.value in
    no-array c.as_array.result (view c.in_ok-get.field-0.now) (table_view c.args.table.now) items
    c.as_array.ensures (rw c.in_ok-get.was at found) n is

pub returns-in_err-get-clause-none : goal.returns-in_err-get-clause-none
returns-in_err-get-clause-none c = λ _ items is.
    let found = table_get c.get.result (codes "plan") c.args.table.now.entries c.get.ensures.value in
    no-member (table_view c.args.table.now) items (rw c.in_err-get.was at found) is
