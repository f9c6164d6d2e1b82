use Rattle.portal_tables_rows.proofs.Common.{◌≡◌, map, take, voucher_read, refund_columns, refund_read}
use Rattle.portal_tables_rows.proofs.lists.refunds_of_vouchers.Given as goal

abbrev pub invariant-loop-voucher : goal.invariant-loop-voucher
invariant-loop-voucher l = map refund_read l.refunds.items
    ≡ map (λ v. refund_columns (voucher_read v)) (take l.voucher-index l.vouchers)
