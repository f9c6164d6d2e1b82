use Rattle.portal_tables_rows.proofs.Common.{◌<◌, ◌^◌, w64, arith, to_z_pos, text_of, refl}
use Rattle.portal_tables_rows.proofs.UpdateSteps.{refund}
use Rattle.portal_tables_rows.proofs.WritesLemmas.{writes_run}
use Rattle.portal_tables_rows.proofs.updates.set_refunded.Goals as goal

pub returns : goal.returns
returns g c =
    let moment : c.get.result < 2 ^ 63 = omega arith in
    writes_run g.S.Store (refund (text_of c.args.code.now) c.args.at c.args.amount)
    (rw (
      c.params-to_sql.ensures,
      c.params-to_sql-2.ensures,
      c.params-to_sql-3.ensures,
      c.as_bytes.ensures,
      c.text-text.ensures.value,
      to_z_pos w64 c.get.result moment,
      c.get.ensures.value,
      c.in_ok-integer.ensures.value,
      to_z_pos w64 c.args.amount (c.in_ok-integer.ensures.fits.0 refl),
    ) at c.write.ensures)
