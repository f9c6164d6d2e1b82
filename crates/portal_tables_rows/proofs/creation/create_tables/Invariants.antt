use Rattle.portal_tables_rows.proofs.Common.{take, Ok}
use Rattle.portal_tables_sql.specs.Inside.{Inside}
use Rattle.portal_tables_rows.specs.Creation.{Makes}
use Rattle.portal_tables_rows.proofs.creation.create_tables.Given as goal

abbrev pub invariant-loop-table : goal.invariant-loop-table
invariant-loop-table g l = Inside g.S.Store (Makes (take l.table-index l.tables)) l.fn.tx l.tx (Ok tt)
