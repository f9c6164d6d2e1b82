use Rattle.portal_tables_rows.proofs.Common.{map, take, Ok}
use Rattle.portal_tables_sql.specs.Inside.{Inside}
use Rattle.portal_tables_rows.specs.Copying.{Adds, AddsTables, table_read}
use Rattle.portal_tables_rows.proofs.copies.insert_tables.Given as goal

abbrev pub invariant-loop-whole : goal.invariant-loop-whole
invariant-loop-whole g l =
    Inside g.S.Store (Adds (AddsTables (map table_read (take l.whole-index l.read)))) l.fn.tx l.tx (Ok tt)
