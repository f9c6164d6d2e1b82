use Rattle.portal_tables_rows.proofs.Common.{w64, to_z_pos, refl}
use Rattle.portal_tables_rows.proofs.UpdateSteps.{set_schema_version}
use Rattle.portal_tables_rows.proofs.WritesLemmas.{writes_run}
use Rattle.portal_tables_rows.proofs.updates.set_schema_version.Goals as goal

pub returns : goal.returns
returns g c =
    writes_run g.S.Store (set_schema_version c.args.schema_version)
    (rw (
      c.params-to_sql.ensures,
      c.in_ok-integer.ensures.value,
      to_z_pos w64 c.args.schema_version (c.in_ok-integer.ensures.fits.0 refl),
    ) at c.write.ensures)
