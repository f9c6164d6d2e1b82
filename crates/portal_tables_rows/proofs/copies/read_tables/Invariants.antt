use Rattle.portal_tables_rows.proofs.Common.{◌≡◌, ◌≤◌, ℕ, IsTrue, List, map, take, state, HasCleanDisk}
use Rattle.portal_tables_rows.proofs.Common.{Contents, Has, HoldsTables, Anything}
use Rattle.portal_tables_sql.specs.Looks.{ReadsOnly}
use Rattle.portal_tables_sql.specs.Tables.{Layout, since}
use Rattle.portal_tables_sql.specs.declared.our_indexes.OurIndex.{OurIndex}
use Rattle.portal_tables_sql.specs.Copies.{table_copied}
use Rattle.portal_tables_sql.specs.declared.copied_tables.CopiedTable.{CopiedTable}
use Rattle.portal_tables_rows.specs.Copying.{cells_of, table_read}
use Rattle.portal_tables_rows.proofs.copies.read_tables.Given as goal

abbrev pub invariant-loop-table : goal.invariant-loop-table
invariant-loop-table g l = record {
  looks : ReadsOnly Anything (state g.S.Store l.fn.conn) (state g.S.Store l.conn);
  read : HasCleanDisk (state g.S.Store l.conn) → IsTrue (state g.S.Store l.fn.conn).is_open →
      (layout : Layout)
      (schema_version : ℕ) (indexes : List OurIndex) (t : Contents)
      → HoldsTables layout schema_version indexes (state g.S.Store l.fn.conn).now t
      → ((x : CopiedTable) → Has l.tables x → since (table_copied x) ≤ schema_version)
      → map table_read l.read.items ≡ map (λ x. (x, cells_of x t)) (take l.table-index l.tables);
}
