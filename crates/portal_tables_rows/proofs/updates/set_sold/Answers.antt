use Rattle.portal_tables_rows.proofs.Common.{◌<◌, ◌^◌, w64, arith, to_z_pos, text_of}
use Rattle.portal_tables_rows.proofs.UpdateSteps.{sell}
use Rattle.portal_tables_rows.proofs.WritesLemmas.{writes_run}
use Rattle.portal_tables_rows.proofs.updates.set_sold.Goals as goal

pub returns : goal.returns
returns g c =
    let fits : c.get.result < 2 ^ 63 = omega arith in
    writes_run g.S.Store (sell (text_of c.args.code.now) c.args.at)
    (rw (
      c.params-to_sql.ensures,
      c.params-to_sql-2.ensures,
      c.as_bytes.ensures,
      c.text-text.ensures.value,
      to_z_pos w64 c.get.result fits,
      c.get.ensures.value,
    ) at c.write.ensures)
