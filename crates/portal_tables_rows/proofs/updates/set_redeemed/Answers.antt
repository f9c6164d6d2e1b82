use Rattle.portal_tables_rows.proofs.Common.{w64, to_z_pos, text_of, refl}
use Rattle.portal_tables_rows.proofs.UpdateSteps.{set_redeemed}
use Rattle.portal_tables_rows.proofs.WritesLemmas.{writes_run}
use Rattle.portal_tables_rows.proofs.updates.set_redeemed.Goals as goal

pub returns : goal.returns
returns g c =
    writes_run g.S.Store (set_redeemed (text_of c.args.code.now) c.args.redeemed)
    (rw (
      c.params-to_sql.ensures,
      c.params-to_sql-2.ensures,
      c.as_bytes.ensures,
      c.text-text.ensures.value,
      c.in_ok-integer.ensures.value,
      to_z_pos w64 c.args.redeemed (c.in_ok-integer.ensures.fits.0 refl),
    ) at c.write.ensures)
