use Rattle.portal_tables_rows.proofs.Common.{refl, map, map-map, voucher_cells, IsOwnVoucher}
use Rattle.portal_tables_rows.proofs.Common.{old_voucher_read}
use Rattle.portal_tables_rows.proofs.Cells.{exact_voucher}
use Rattle.portal_tables_rows.proofs.ManyValues.{reads_apart, tells_whole}
use Rattle.portal_tables_rows.proofs.WholeAsks.{old_vouchers_asked}
use Rattle.portal_tables_rows.proofs.WholeReading.{old_vouchers_are, old_vouchers_simple}
use Rattle.portal_tables_rows.proofs.whole.read_old_vouchers.Goals as goal

pub returns : goal.returns
returns g c =
    reads_apart g.S.Store _ _ 1 old_vouchers_asked old_vouchers_simple
    (λ rows shown t h. tells_whole voucher_cells 6 (λ x. refl) exact_voucher IsOwnVoucher
    (λ v. map old_voucher_read v.items) (λ v. map-map voucher_cells old_voucher_read v.items) t.vouchers rows
    (old_vouchers_are _ _ rows shown t h)) c.read_table.ensures
