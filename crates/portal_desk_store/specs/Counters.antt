-- The result of an audit of the tables.
use Rattle.std.specs.Prelude.{◌↔◌, Bool, IsTrue}
use Rattle.sqlite.specs.Held.{state}
use Rattle.sqlite_trees.specs.declared.store.Store.{Ghosts}
use Rattle.portal_tables_rows.specs.Audit.{IsAudited}
use Rattle.portal_tables_rows.specs.Contents.{Contents}
use Rattle.portal_tables_rows.specs.Holds.{Holds}
use Rattle.portal_tables.specs.declared.tables.Tables.{Tables}

-- The result is true exactly if the counters in the database agree with the rows that they count, whatever
-- rows it holds.
abbrev pub CountersAre : {S : Type 0} → Ghosts S → Tables S → Bool → Type 0
CountersAre g tables agrees =
    IsTrue (state g tables.conn).is_open → (t : Contents) → Holds (state g tables.conn).now t
    → (IsTrue agrees ↔ IsAudited t)
