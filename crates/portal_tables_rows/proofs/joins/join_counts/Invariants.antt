use Rattle.portal_tables_rows.proofs.Common.{◌≡◌, map, take, count_read, old_voucher_read, voucher_count}
use Rattle.portal_tables_rows.proofs.Common.{voucher_read}
use Rattle.portal_tables_rows.proofs.joins.join_counts.Given as goal

abbrev pub invariant-loop-at : goal.invariant-loop-at
invariant-loop-at l = record {
  vouchers : map voucher_read l.joined.items ≡ map old_voucher_read (take l.at l.vouchers);
  counts : map voucher_count l.joined.items ≡ map count_read (take l.at l.counts);
}
