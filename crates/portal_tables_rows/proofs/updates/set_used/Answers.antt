use Rattle.portal_tables_rows.proofs.Common.{w64, refl, to_z_pos}
use Rattle.portal_tables_rows.proofs.UpdateSteps.{set_used}
use Rattle.portal_tables_rows.proofs.WritesLemmas.{writes_run}
use Rattle.portal_tables_rows.proofs.updates.set_used.Goals as goal

pub returns : goal.returns
returns g c =
    writes_run g.S.Store (set_used c.args.number c.args.used)
    (rw (
      c.params-to_sql.ensures,
      c.params-to_sql-2.ensures,
      c.in_ok-integer.ensures.value,
      c.in_ok-integer-2.ensures.value,
      to_z_pos w64 c.args.number (c.in_ok-integer.ensures.fits.0 refl),
      to_z_pos w64 c.args.used (c.in_ok-integer-2.ensures.fits.0 refl),
    ) at c.write.ensures)
