use Rattle.portal_tables_rows.proofs.Common.{refl, text_of, Text, VoucherRow, WholeVoucher, same_text}
use Rattle.portal_tables_rows.proofs.Common.{text_itself, whole_voucher_cells, whole_voucher_read, count_of}
use Rattle.portal_tables_rows.proofs.Common.{IsOwnWholeVoucher}
use Rattle.portal_tables_rows.proofs.Cells.{exact_whole_voucher}
use Rattle.portal_tables_rows.proofs.ManyValues.{own_vouchers}
use Rattle.portal_tables_rows.proofs.Parts.{part_found, part_has, part_missing}
use Rattle.portal_tables_rows.proofs.Reading.{voucher_rows_are, voucher_taken}
use Rattle.portal_tables_rows.proofs.Finding.{reads_one, by_key, tells_of}
use Rattle.portal_tables_sql.proofs.TableLemmas.{always}
use Rattle.portal_tables_sql.specs.declared.our_tables.OurTable.TheVariants as our
use Rattle.portal_tables_rows.proofs.finds.read_voucher_row.Goals as goal

pub returns-clause-reads : goal.returns-clause-reads
returns-clause-reads g c =
    let row = λ (w : WholeVoucher). w.row in
    let code_of = λ (x : VoucherRow). x.code in
    let text = text_of c.args.code.now in
    reads_one g.S.Store _ _ (voucher_taken _)
    (λ rows shown t h. let was = h.store our.Vouchers (always _, tt) in
    tells_of (own_vouchers was.whole t.vouchers was.their_rows)
    (by_key whole_voucher_cells 7 (λ x. refl) exact_whole_voucher whole_voucher_read IsOwnWholeVoucher 0
    (λ (w : WholeVoucher). w.row.code) text Text (λ x. refl) same_text text_itself was.whole _
    _ (voucher_rows_are _ _ text rows shown t h)
    (λ x is. (
      part_found row code_of text was.whole t.vouchers was.their_rows (whole_voucher_read x) is,
      part_has count_of was.whole t.counts was.their_counts (whole_voucher_read x) is.0,
    ))
    (λ is. (part_missing row code_of text was.whole t.vouchers was.their_rows is, tt))))
    (rw (c.params-to_sql.ensures, c.as_bytes.ensures, c.text-text.ensures.value) at c.read_one.ensures)

pub returns-clause-code : goal.returns-clause-code
returns-clause-code g c = c.text-text.ensures.spells.is_code
