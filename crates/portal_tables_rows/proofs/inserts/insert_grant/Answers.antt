use Rattle.portal_tables_rows.proofs.Common.{◌<◌, ◌^◌, w64, arith, to_z_pos, text_of, granted_row, refl}
use Rattle.portal_tables_rows.proofs.InsertSteps.{add_grant}
use Rattle.portal_tables_rows.proofs.WritesLemmas.{writes_run}
use Rattle.portal_tables_rows.proofs.inserts.insert_grant.Goals as goal

pub returns : goal.returns
returns g c =
    let moment : c.get.result < 2 ^ 63 = omega arith in
    let bytes : c.args.plan.now.bytes < 2 ^ 63 = omega arith in
    writes_run g.S.Store
    (add_grant (granted_row c.args.number (text_of c.args.code.now) c.args.session c.args.at c.args.plan.now))
    (rw (
      c.params-to_sql.ensures,
      c.params-to_sql-2.ensures,
      c.params-to_sql-3.ensures,
      c.params-to_sql-4.ensures,
      c.params-to_sql-5.ensures,
      c.params-to_sql-6.ensures,
      c.in_ok-integer.ensures.value,
      to_z_pos w64 c.args.number (c.in_ok-integer.ensures.fits.0 refl),
      c.as_bytes.ensures,
      c.text-text.ensures.value,
      c.in_ok-integer-2.ensures.value,
      to_z_pos w64 c.args.session (c.in_ok-integer-2.ensures.fits.0 refl),
      to_z_pos w64 c.get.result moment,
      c.get.ensures.value,
      to_z_pos w64 c.args.plan.now.bytes bytes,
    ) at c.write.ensures)
