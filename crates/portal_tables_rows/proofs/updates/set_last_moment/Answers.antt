use Rattle.portal_tables_rows.proofs.Common.{◌<◌, ◌^◌, w64, arith, to_z_pos}
use Rattle.portal_tables_rows.proofs.UpdateSteps.{set_moment}
use Rattle.portal_tables_rows.proofs.WritesLemmas.{writes_run}
use Rattle.portal_tables_rows.proofs.updates.set_last_moment.Goals as goal

pub returns : goal.returns
returns g c =
    let fits : c.get.result < 2 ^ 63 = omega arith in
    writes_run g.S.Store (set_moment c.args.at)
    (rw (c.params-to_sql.ensures, to_z_pos w64 c.get.result fits, c.get.ensures.value) at c.write.ensures)
