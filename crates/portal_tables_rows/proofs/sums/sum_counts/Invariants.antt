use Rattle.portal_tables_rows.proofs.Common.{◌≡◌, map, take, count_from, old_voucher_read, count_read}
use Rattle.portal_tables_rows.proofs.Common.{grant_read}
use Rattle.portal_tables_rows.proofs.sums.sum_counts.Given as goal

abbrev pub invariant-loop-voucher : goal.invariant-loop-voucher
invariant-loop-voucher l = map count_read l.counts.items
    ≡ map (λ v. count_from (map grant_read l.grants) (old_voucher_read v)) (take l.voucher-index l.vouchers)
