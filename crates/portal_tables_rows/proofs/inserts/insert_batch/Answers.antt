use Rattle.portal_tables_rows.proofs.Common.{◌<◌, ◌^◌, w64, arith, to_z_pos, refl}
use Rattle.portal_tables_rows.proofs.InsertSteps.{add_batch}
use Rattle.portal_tables_rows.proofs.WritesLemmas.{writes_run}
use Rattle.portal_tables_rows.proofs.inserts.insert_batch.Goals as goal

pub returns : goal.returns
returns g c =
    let issued : c.get.result < 2 ^ 63 = omega arith in
    let expires : c.get-2.result < 2 ^ 63 = omega arith in
    writes_run g.S.Store (add_batch c.args.batch.now)
    (rw (
      c.params-to_sql.ensures,
      c.params-to_sql-2.ensures,
      c.params-to_sql-3.ensures,
      c.params-to_sql-4.ensures,
      c.params-to_sql-5.ensures,
      c.text.ensures.value,
      c.text-2.ensures.value,
      to_z_pos w64 c.get.result issued,
      c.get.ensures.value,
      to_z_pos w64 c.get-2.result expires,
      c.get-2.ensures.value,
      c.in_ok-integer.ensures.value,
      to_z_pos w64 c.args.batch.now.size (c.in_ok-integer.ensures.fits.0 refl),
    ) at c.write.ensures)
