use Rattle.portal_tables_rows.proofs.Common.{arith, ap, ◌∙◌, map, take_all}
use Rattle.portal_tables_rows.proofs.Common.{count_read, old_voucher_read, voucher_count, voucher_read}
use Rattle.portal_tables_rows.proofs.Common.{err_from_is_err_and, OldVoucher, CountValue}
use Rattle.portal_tables_rows.proofs.Compose.{made_more, same_at}
use Rattle.portal_tables_rows.proofs.joins.join_counts.Goals as goal

pub loop-at-preserved : goal.loop-at-preserved
loop-at-preserved c = record {
  vouchers = made_more voucher_read old_voucher_read c.loop-at.joined.items c.push.new.self.items _
      c.args.vouchers.now c.loop-at.at c.index-vouchers-at.result c.loop-at.invariant.vouchers
      c.in_ok-push.ensures.items c.loop-at-test.true c.index-vouchers-at.is
      c.in_ok-join_count.ensures.voucher;
  counts = made_more voucher_count count_read c.loop-at.joined.items c.push.new.self.items _
      c.args.counts.now c.loop-at.at c.index-counts-at.result c.loop-at.invariant.counts
      c.in_ok-push.ensures.items (omega arith) c.index-counts-at.is c.in_ok-join_count.ensures.count;
}

pub returns-clause-vouchers : goal.returns-clause-vouchers
returns-clause-vouchers c = c.loop-at.invariant.vouchers
    ∙ ap (map old_voucher_read) (take_all c.loop-at.at c.args.vouchers.now c.loop-at-test.false)

pub returns-clause-counts : goal.returns-clause-counts
returns-clause-counts c =
    c.loop-at.invariant.counts ∙ ap (map count_read) (take_all c.loop-at.at c.args.counts.now (omega arith))

pub returns-in_err-join_count-clause-own : goal.returns-in_err-join_count-clause-own
returns-in_err-join_count-clause-own c same =
    let told = err_from_is_err_and c.from_residual.result c.from_residual.ensures.1 in
    rw (told.1, told.2) (c.in_err-join_count.ensures.own (same_at (λ (k : CountValue). (count_read k).code)
    (λ (v : OldVoucher). (old_voucher_read v).code) c.args.counts.now c.args.vouchers.now c.loop-at.at
    c.index-counts-at.result c.index-vouchers-at.result (omega arith) c.loop-at-test.true
    c.index-counts-at.is c.index-vouchers-at.is same))
