use Rattle.portal_tables_rows.proofs.WritesLemmas.{writes_then}
use Rattle.portal_tables_rows.proofs.migrations.insert_whole_rows.Goals as goal

pub returns : goal.returns
returns g c =
    writes_then g.S.Store c.in_ok-insert_whole_vouchers.ensures c.in_ok-insert_whole_sessions.ensures
