use Rattle.portal_tables_rows.proofs.Common.{◌<◌, ◌^◌, w64, arith, to_z_pos}
use Rattle.portal_tables_rows.proofs.InsertSteps.{add_plan}
use Rattle.portal_tables_rows.proofs.WritesLemmas.{writes_run}
use Rattle.portal_tables_rows.proofs.inserts.insert_plan.Goals as goal

pub returns : goal.returns
returns g c =
    let fits : c.args.plan.now.bytes < 2 ^ 63 = omega arith in
    writes_run g.S.Store (add_plan c.args.plan.now)
    (rw (
      c.params-to_sql.ensures,
      c.params-to_sql-2.ensures,
      c.params-to_sql-3.ensures,
      c.params-to_sql-4.ensures,
      c.params-to_sql-5.ensures,
      c.params-to_sql-6.ensures,
      c.params-to_sql-7.ensures,
      c.text.ensures.value,
      to_z_pos w64 c.args.plan.now.bytes fits,
    ) at c.write.ensures)
