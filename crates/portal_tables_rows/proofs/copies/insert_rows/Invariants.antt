use Rattle.portal_tables_rows.proofs.Common.{take, Ok}
use Rattle.portal_tables_sql.specs.Inside.{Inside}
use Rattle.portal_tables_rows.specs.Copying.{Adds, AddsRows}
use Rattle.portal_tables_rows.proofs.copies.insert_rows.Given as goal

abbrev pub invariant-loop-row : goal.invariant-loop-row
invariant-loop-row g l =
    Inside g.S.Store (Adds (AddsRows l.table (take l.row-index l.rows))) l.fn.tx l.tx (Ok tt)
