use Rattle.portal_tables_rows.proofs.Common.{map, take, Ok, Writes, with_whole_vouchers, whole_voucher_read}
use Rattle.portal_tables_rows.proofs.migrations.insert_whole_vouchers.Given as goal

abbrev pub invariant-loop-voucher : goal.invariant-loop-voucher
invariant-loop-voucher g l = Writes g.S.Store
    (with_whole_vouchers (map whole_voucher_read (take l.voucher-index l.vouchers))) l.fn.tx l.tx (Ok tt)
