use Rattle.portal_tables_rows.proofs.Common.{ap, ◌∙◌, map, take_all, err_from_is_err_and, has_at}
use Rattle.portal_tables_rows.proofs.Common.{VoucherValue, voucher_read, refund_columns, refund_read}
use Rattle.portal_tables_rows.proofs.Common.{has_mapped}
use Rattle.portal_tables_rows.proofs.Compose.{made_more}
use Rattle.portal_tables_rows.proofs.lists.refunds_of_vouchers.Goals as goal

pub loop-voucher-preserved : goal.loop-voucher-preserved
loop-voucher-preserved c =
    made_more refund_read (λ (v : VoucherValue). refund_columns (voucher_read v))
    c.loop-voucher.refunds.items c.push.new.self.items c.in_ok-refund_of.field-0 c.args.vouchers.now
    c.loop-voucher.voucher-index c.voucher-item.result
    c.loop-voucher.invariant c.in_ok-push.ensures.items c.loop-voucher-test.true c.voucher-item.is
    c.in_ok-refund_of.ensures.read

pub returns-clause-read : goal.returns-clause-read
returns-clause-read c =
    c.loop-voucher.invariant ∙ ap (map (λ (v : VoucherValue). refund_columns (voucher_read v)))
    (take_all c.loop-voucher.voucher-index c.args.vouchers.now c.loop-voucher-test.false)

pub returns-in_err-refund_of-clause-own : goal.returns-in_err-refund_of-clause-own
returns-in_err-refund_of-clause-own c own =
    let told = err_from_is_err_and c.from_residual.result c.from_residual.ensures.1 in
    let voucher = c.voucher-item.result in
    let has = has_mapped voucher_read c.args.vouchers.now voucher (has_at c.args.vouchers.now
    c.loop-voucher.voucher-index voucher c.loop-voucher-test.true c.voucher-item.is) in
    rw (told.1, told.2) (c.in_err-refund_of.ensures.own (own (voucher_read voucher) has))
