use Rattle.portal_tables_rows.proofs.Common.{◌≡◌, map, take, voucher_read, sale_columns, sale_read}
use Rattle.portal_tables_rows.proofs.lists.sales_of_vouchers.Given as goal

abbrev pub invariant-loop-voucher : goal.invariant-loop-voucher
invariant-loop-voucher l =
    map sale_read l.sales.items ≡ map (λ v. sale_columns (voucher_read v)) (take l.voucher-index l.vouchers)
