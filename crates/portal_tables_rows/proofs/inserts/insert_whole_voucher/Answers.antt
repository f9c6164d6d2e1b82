use Rattle.portal_tables_rows.proofs.Common.{w64, refl, to_z_pos, bound_number, whole_voucher_read}
use Rattle.portal_tables_rows.proofs.InsertSteps.{add_whole_voucher}
use Rattle.portal_tables_rows.proofs.WritesLemmas.{writes_run}
use Rattle.portal_tables_rows.proofs.inserts.insert_whole_voucher.Goals as goal

pub returns : goal.returns
returns g c =
    writes_run g.S.Store (add_whole_voucher (whole_voucher_read c.args.voucher.now))
    (rw (
      c.params-to_sql.ensures,
      c.params-to_sql-2.ensures,
      c.params-to_sql-3.ensures,
      c.params-to_sql-4.ensures,
      c.params-to_sql-5.ensures,
      c.params-to_sql-6.ensures,
      c.params-to_sql-7.ensures,
      c.as_bytes.ensures,
      c.text-text.ensures.value,
      c.text.ensures.value,
      c.in_ok-integer.ensures.value,
      to_z_pos w64 c.args.voucher.now.place (c.in_ok-integer.ensures.fits.0 refl),
      c.seconds_or_null.ensures,
      c.seconds_or_null-2.ensures,
      c.in_ok-integer_or_null.ensures,
      bound_number c.args.voucher.now.sold,
      bound_number c.args.voucher.now.refunded,
      bound_number c.args.voucher.now.amount,
      c.in_ok-integer-2.ensures.value,
      to_z_pos w64 c.args.voucher.now.redeemed (c.in_ok-integer-2.ensures.fits.0 refl),
    ) at c.write.ensures)
