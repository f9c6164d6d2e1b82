use Rattle.portal_tables_rows.proofs.Common.{w64, refl, to_z_pos, text_of, new_whole_voucher}
use Rattle.portal_tables_rows.proofs.InsertSteps.{add_voucher}
use Rattle.portal_tables_rows.proofs.WritesLemmas.{writes_run}
use Rattle.portal_tables_rows.proofs.inserts.insert_voucher.Goals as goal

pub returns : goal.returns
returns g c =
    writes_run g.S.Store
    (add_voucher (new_whole_voucher c.args.batch.now c.args.place (text_of c.args.code.now))
    (refl, refl, refl, refl))
    (rw (
      c.params-to_sql.ensures,
      c.params-to_sql-2.ensures,
      c.params-to_sql-3.ensures,
      c.as_bytes.ensures,
      c.text-text.ensures.value,
      c.text.ensures.value,
      c.in_ok-integer.ensures.value,
      to_z_pos w64 c.args.place (c.in_ok-integer.ensures.fits.0 refl),
    ) at c.write.ensures)
