use Rattle.portal_tables_rows.proofs.Common.{refl, VoucherRow}
use Rattle.portal_tables_rows.proofs.Common.{WholeVoucher, whole_voucher_cells, whole_voucher_read}
use Rattle.portal_tables_rows.proofs.Common.{IsOwnWholeVoucher}
use Rattle.portal_tables_rows.specs.Lists.{is_between, by_code}
use Rattle.portal_tables_rows.proofs.Cells.{exact_whole_voucher}
use Rattle.portal_tables_rows.proofs.PageReading.{between_rows_are, between_taken}
use Rattle.portal_tables_rows.proofs.ManyValues.{first_listed, own_vouchers, reads_many, tells_first}
use Rattle.portal_tables_sql.proofs.TableLemmas.{always}
use Rattle.portal_tables_sql.specs.declared.our_tables.OurTable.TheVariants as our
use Rattle.portal_tables_rows.proofs.pages.list_vouchers_between.Goals as goal

pub returns : goal.returns
returns g c =
    let low = c.args.from.now in
    let high = c.args.below.now in
    reads_many g.S.Store _ _ (between_taken _ _)
    (λ rows shown t h.
    let was = h.store our.Vouchers (always _, tt) in
    let it = between_rows_are _ _ low high rows shown t h in
    let first = tells_first whole_voucher_cells 7 (λ v. refl) exact_whole_voucher IsOwnWholeVoucher
    whole_voucher_read (λ (w : WholeVoucher). is_between low high w.row.code) (λ a b. by_code a.row b.row) 51
    was.whole it.0 rows it.1 it.2 in
    record {
      is = λ vs cut. first_listed 51 (λ (v : VoucherRow). is_between low high v.code) by_code was.whole
          t.vouchers t.counts was.their_rows was.their_counts vs.items (first.is vs cut);
      owns = λ own. first.owns (own_vouchers was.whole t.vouchers was.their_rows own);
    })
    (rw (c.params-to_sql.ensures, c.params-to_sql-2.ensures) at c.read_many.ensures.reads)
