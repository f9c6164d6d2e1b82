use Rattle.portal_tables_rows.proofs.Common.{◌<◌, ◌^◌, w64, arith, to_z_pos, refl}
use Rattle.portal_tables_rows.proofs.UpdateSteps.{set_closed}
use Rattle.portal_tables_rows.proofs.WritesLemmas.{writes_run}
use Rattle.portal_tables_rows.proofs.updates.set_closed.Goals as goal

pub returns : goal.returns
returns g c =
    let moment : c.get.result < 2 ^ 63 = omega arith in
    writes_run g.S.Store (set_closed c.args.number c.args.at)
    (rw (
      c.params-to_sql.ensures,
      c.params-to_sql-2.ensures,
      c.in_ok-integer.ensures.value,
      to_z_pos w64 c.args.number (c.in_ok-integer.ensures.fits.0 refl),
      to_z_pos w64 c.get.result moment,
      c.get.ensures.value,
    ) at c.write.ensures)
