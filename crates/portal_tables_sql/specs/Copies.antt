-- The statements by which a table whose rows are copied as they are is read whole and filled row by row.
use Rattle.std.specs.Prelude.{◌++◌, codes, List, ℕ}
use Rattle.portal_tables_sql.specs.declared.copied_tables.CopiedTable.{CopiedTable}
use Rattle.portal_tables_sql.specs.declared.copied_tables.CopiedTable.TheVariants as copied
use Rattle.portal_tables_sql.specs.declared.our_tables.OurTable.{OurTable}
use Rattle.portal_tables_sql.specs.declared.our_tables.OurTable.TheVariants as our

-- the table that it is
abbrev pub table_copied : CopiedTable → OurTable
table_copied copied.Head = our.Head
table_copied copied.Plans = our.Plans
table_copied copied.Batches = our.Batches
table_copied copied.Grants = our.Grants
table_copied copied.Requests = our.Requests

-- all columns of all rows, in the order of the rowids
abbrev pub select_of : CopiedTable → List ℕ
select_of copied.Head = codes "SELECT id, layout, last_moment, grants, sessions FROM portal_head ORDER BY id"
select_of copied.Plans =
    codes "SELECT id, price, uses, seconds, bytes, shelf_days, extend FROM portal_plans ORDER BY rowid"
select_of copied.Batches =
    codes "SELECT id, plan_id, issued, expires, size FROM portal_batches ORDER BY rowid"
select_of copied.Grants =
    codes "SELECT number, code, session, moment, seconds, bytes FROM portal_grants ORDER BY number"
select_of copied.Requests =
    codes "SELECT caller, number, method, path, body, kind, word, n1, n2, n3 FROM portal_requests "
    ++ codes "ORDER BY rowid"

-- a row with these columns
abbrev pub insert_of : CopiedTable → List ℕ
insert_of copied.Head = codes
    "INSERT INTO portal_head (id, layout, last_moment, grants, sessions) VALUES (?1, "
    ++ codes "?2, ?3, ?4, ?5)"
insert_of copied.Plans =
    codes "INSERT INTO portal_plans (id, price, uses, seconds, bytes, shelf_days, extend) VALUES (?1, "
    ++ codes "?2, ?3, ?4, ?5, ?6, ?7)"
insert_of copied.Batches =
    codes "INSERT INTO portal_batches (id, plan_id, issued, expires, size) VALUES (?1, ?2, ?3, ?4, ?5)"
insert_of copied.Grants =
    codes "INSERT INTO portal_grants (number, code, session, moment, seconds, bytes) VALUES (?1, ?2, ?3, "
    ++ codes "?4, ?5, ?6)"
insert_of copied.Requests =
    codes "INSERT INTO portal_requests (caller, number, method, path, body, kind, word, n1, n2, n3)"
    ++ codes " VALUES (?1, ?2, ?3, ?4, ?5, ?6, ?7, ?8, ?9, ?10)"
