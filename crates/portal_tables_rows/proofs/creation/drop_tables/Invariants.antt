use Rattle.portal_tables_rows.proofs.Common.{drop, Ok}
use Rattle.portal_tables_rows.proofs.DropSteps.{DropsInside}
use Rattle.portal_tables_rows.proofs.creation.drop_tables.Given as goal

abbrev pub invariant-loop-table : goal.invariant-loop-table
invariant-loop-table g l = DropsInside g.S.Store l.tables (drop l.table-index l.tables) l.fn.tx l.tx (Ok tt)
