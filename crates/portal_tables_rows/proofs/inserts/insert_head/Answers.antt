use Rattle.portal_tables_rows.proofs.Common.{w64, refl, to_z_pos, first_head}
use Rattle.portal_tables_rows.proofs.InsertSteps.{add_head}
use Rattle.portal_tables_rows.proofs.WritesLemmas.{writes_run}
use Rattle.portal_tables_rows.proofs.inserts.insert_head.Goals as goal

pub returns : goal.returns
returns g c =
    writes_run g.S.Store (add_head (first_head c.args.schema_version) (refl, refl, refl, refl))
    (rw (
      c.params-to_sql.ensures,
      c.in_ok-integer.ensures.value,
      to_z_pos w64 c.args.schema_version (c.in_ok-integer.ensures.fits.0 refl),
    ) at c.write.ensures)
