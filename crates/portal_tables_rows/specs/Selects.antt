-- The promises of the calls that read rows.
use Rattle.std.specs.Prelude.{◌≡◌, ℕ, List, slice_get, Option, Some, None, Result, IfOk, IfErr, IfSome}
use Rattle.std.specs.Prelude.{MatchOption}
use Rattle.std.specs.Prelude.{Vec, IsTrue}
use Rattle.std.specs.declared.alloc.Global.{Global}
use Rattle.sqlite.specs.Order.{Row}
use Rattle.sqlite.specs.Store.{Ghosts}
use Rattle.sqlite.specs.Held.{Held, state}
use Rattle.sqlite.specs.State.{HasCleanDisk, Shown}
use Rattle.sqlite.specs.Listing.{understood}
use Rattle.portal_tables_sql.specs.Asks.{AnswersCells, Asks, IsSimple, Anything}
use Rattle.portal_tables_sql.specs.Causes.{IsTaken}
use Rattle.portal_tables_sql.specs.Finds.{columns}
use Rattle.portal_tables_sql.specs.Looks.{Looks}
use Rattle.portal_tables_rows.specs.declared.rows.RowError.{RowError}
use Rattle.portal_tables_rows.specs.Contents.{Contents}
use Rattle.portal_tables_rows.specs.Foreign.{AreOwn, NotForeign, BlamesCause, BlamesForeign, IsCaused}
use Rattle.portal_tables_rows.specs.Foreign.{IsOwnRow}
use Rattle.portal_tables_rows.specs.Holds.{Holds, HasTables}
use Rattle.sqlite.specs.Schema.{Schema}
use Rattle.sqlite.specs.Effect.{Database}
use Rattle.portal_tables_rows.specs.First.{HoldsFirst, HasFirst, HoldsApart, HasApart, HoldsBare, HasBare}

-- A row, or rows, that are read as a value: if the disk is clean, Is holds of the rows of the tables and the
-- result.
-- It writes nothing. If Own holds of the rows of the tables, the call fails only for a cause.
pub record ReadsRow {S A : Type 0} (g : Ghosts S) (old new : Held S) (result : Result A RowError)
    (Is : Contents → A → Type 0) (Own : Contents → Type 0) : Type 0 where
  pub found : HasCleanDisk (state g new) → (t : Contents) → Holds (state g old).now t → IfOk result (Is t)
  pub looks : Looks HasTables result (state g old) (state g new)
  pub caused : BlamesCause Holds Own (state g old) (state g new) result

-- The first row of a query, read as a value: it has the row's cells. A query that only asks writes nothing.
-- One that SQLite takes, and whose row this product writes, fails only for a cause.
pub record ReadsOne {S T : Type 0} (g : Ghosts S) (cells : T → Row) (width : ℕ) (IsProper : T → Type 0)
    (IsOwn : Row → Type 0) (sql : List ℕ) (params : Row) (old new : Held S)
    (result : Result (Option T) RowError) : Type 0 where
  pub rows : HasCleanDisk (state g new)
      → IfOk result (λ found. (rows : List Row) × Shown sql params (state g old) (state g new) rows
      × MatchOption found (slice_get rows 0 ≡ None)
      (λ x. (row : Row) × (slice_get rows 0 ≡ Some row) × (cells x ≡ columns width row)))
  pub proper : IfOk result (λ found. IfSome found IsProper)
  pub looks : Looks (Asks sql) result (state g old) (state g new)
  pub caused : HasCleanDisk (state g new) → IsTaken sql params (state g old).now.schema
      → ((rows : List Row) → Shown sql params (state g old) (state g new) rows → (row : Row)
      → slice_get rows 0 ≡ Some row → IsOwnRow IsOwn width row)
      → IfErr result (IsCaused (state g old) (state g new))

-- The same of each row of a query that only asks. The rows come one at a time: what is said of rows that this
-- product writes is stated over the whole result, which a simple query has.
pub record ReadsMany {S T : Type 0} (g : Ghosts S) (cells : T → Row) (width : ℕ) (IsOwn : Row → Type 0)
    (sql : List ℕ) (params : Row) (old new : Held S) (result : Result (Vec T Global) RowError) : Type 0 where
  pub rows : HasCleanDisk (state g new) → Asks sql (state g old).now.schema → IfOk result
      (λ values. AnswersCells (Shown sql params (state g old) (state g new)) cells width values.items)
  pub looks : Looks (Asks sql) result (state g old) (state g new)
  pub own : HasCleanDisk (state g new) → IsSimple (understood (state g old).now.schema sql)
      → ((rows : List Row) → Shown sql params (state g old) (state g new) rows
      → AreOwn (IsOwnRow IsOwn width) rows) → NotForeign result
  pub caused : HasCleanDisk (state g new) → IsTaken sql params (state g old).now.schema
      → ((rows : List Row) → Shown sql params (state g old) (state g new) rows
      → AreOwn (IsOwnRow IsOwn width) rows) → IfErr result (IsCaused (state g old) (state g new))

-- ---- the tables of other schema versions

-- Rows that are read as values: if the disk is clean, Is holds of the rows of the tables and what is read. It
-- writes nothing, whatever the schema has. If Own holds of the rows of the tables, the call does not give
-- ForeignRow.
pub record ReadsTables {S A : Type 0} (g : Ghosts S) (Has : Schema → Type 0)
    (Hold : Database → Contents → Type 0) (old new : Held S) (result : Result A RowError)
    (Is : Contents → A → Type 0) (Own : Contents → Type 0) : Type 0 where
  pub found : HasCleanDisk (state g new) → (t : Contents) → Hold (state g old).now t → IfOk result (Is t)
  pub looks : Looks Has result (state g old) (state g new)
  pub always : Looks Anything result (state g old) (state g new)
  pub foreign : BlamesForeign Hold Own (state g old) (state g new) result

-- of the six tables of schema version 1
abbrev pub ReadsFirst : {S A : Type 0} → Ghosts S → Held S → Held S → Result A RowError
    → (Contents → A → Type 0) → (Contents → Type 0) → Type 0
ReadsFirst g = ReadsTables g HasFirst HoldsFirst

-- of the tables of the schema version, with the counters apart
abbrev pub ReadsApart : {S A : Type 0} → Ghosts S → ℕ → Held S → Held S → Result A RowError
    → (Contents → A → Type 0) → (Contents → Type 0) → Type 0
ReadsApart g schema_version = ReadsTables g (HasApart schema_version) (HoldsApart schema_version)

-- of the tables of this schema version, whatever indexes they have
abbrev pub ReadsBare : {S A : Type 0} → Ghosts S → Held S → Held S → Result A RowError
    → (Contents → A → Type 0) → (Contents → Type 0) → Type 0
ReadsBare g = ReadsTables g HasBare HoldsBare

-- On an open connection: if the disk is clean, Is holds of the rows of the tables and what is read. It writes
-- nothing. If Own holds of the rows of the tables, the call does not give ForeignRow.
pub record ReadsOpen {S A : Type 0} (g : Ghosts S) (Has : Schema → Type 0)
    (Hold : Database → Contents → Type 0) (old new : Held S) (result : Result A RowError)
    (Is : Contents → A → Type 0) (Own : Contents → Type 0) : Type 0 where
  pub read : HasCleanDisk (state g new) → IsTrue (state g old).is_open → (t : Contents)
      → Hold (state g old).now t → IfOk result (Is t)
  pub looks : Looks Has result (state g old) (state g new)
  pub foreign : HasCleanDisk (state g new) → IsTrue (state g old).is_open → (t : Contents)
      → Hold (state g old).now t → Own t → NotForeign result
