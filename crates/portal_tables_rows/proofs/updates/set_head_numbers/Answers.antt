use Rattle.portal_tables_rows.proofs.Common.{◌<◌, ◌^◌, w64, arith, to_z_pos, refl}
use Rattle.portal_tables_rows.proofs.UpdateSteps.{set_numbers}
use Rattle.portal_tables_rows.proofs.WritesLemmas.{writes_run}
use Rattle.portal_tables_rows.proofs.updates.set_head_numbers.Goals as goal

pub returns : goal.returns
returns g c =
    let fits : c.get.result < 2 ^ 63 = omega arith in
    writes_run g.S.Store (set_numbers c.args.at c.args.grants c.args.sessions)
    (rw (
      c.params-to_sql.ensures,
      c.params-to_sql-2.ensures,
      c.params-to_sql-3.ensures,
      to_z_pos w64 c.get.result fits,
      c.get.ensures.value,
      c.in_ok-integer.ensures.value,
      to_z_pos w64 c.args.grants (c.in_ok-integer.ensures.fits.0 refl),
      c.in_ok-integer-2.ensures.value,
      to_z_pos w64 c.args.sessions (c.in_ok-integer-2.ensures.fits.0 refl),
    ) at c.write.ensures)
