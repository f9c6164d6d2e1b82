use Rattle.portal_tables_rows.proofs.Common.{refl, map, sym, ap, ◌∙◌, map-map, WholeVoucher, count_of}
use Rattle.portal_tables_rows.proofs.Common.{whole_voucher_cells, whole_voucher_read, IsOwnWholeVoucher}
use Rattle.portal_tables_rows.proofs.Cells.{exact_whole_voucher}
use Rattle.portal_tables_rows.proofs.ManyValues.{counts_of_read, own_vouchers, reads_bare, rows_of_read}
use Rattle.portal_tables_rows.proofs.ManyValues.{tells_whole}
use Rattle.portal_tables_rows.proofs.WholeAsks.{vouchers_asked}
use Rattle.portal_tables_rows.proofs.WholeReading.{all_vouchers_are, all_vouchers_simple}
use Rattle.portal_tables_sql.proofs.TableLemmas.{always}
use Rattle.portal_tables_sql.specs.declared.our_tables.OurTable.TheVariants as our
use Rattle.portal_tables_rows.proofs.whole.read_all_vouchers.Goals as goal

pub returns : goal.returns
returns g c =
    reads_bare g.S.Store _ _ vouchers_asked all_vouchers_simple
    (λ rows shown t h.
    let was = h.store our.Vouchers (always _, tt) in
    let it = tells_whole whole_voucher_cells 7 (λ x. refl) exact_whole_voucher IsOwnWholeVoucher
    (λ v. map whole_voucher_read v.items) (λ v. map-map whole_voucher_cells whole_voucher_read v.items)
    was.whole rows (all_vouchers_are _ _ rows shown t h) in
    record {
      is = λ vs cut. let are = it.is vs cut in (
        sym (rows_of_read vs.items) ∙ ap (map (λ (w : WholeVoucher). w.row)) are ∙ was.their_rows,
        sym (counts_of_read vs.items) ∙ ap (map count_of) are ∙ was.their_counts,
      );
      owns = λ own. it.owns (own_vouchers was.whole t.vouchers was.their_rows own);
    }) c.read_table.ensures
