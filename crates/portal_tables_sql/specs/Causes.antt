-- Why a query fails that SQLite does not refuse.
use Rattle.std.specs.Prelude.{◌≡◌, ◌⊎◌, ◌≤◌, false, ℕ, List, [], length, None, Ok, IsSome}
use Rattle.sqlite_disk.specs.Disk.{MoreFaults}
use Rattle.sqlite_resolve.specs.declared.compiled.Compiled.{Compiled}
use Rattle.sqlite.specs.declared.error.Error.{Error}
use Rattle.sqlite.specs.declared.error.Error.TheVariants.{SqliteFailure}
use Rattle.sqlite.specs.declared.error.ErrorCode.TheVariants.{OutOfMemory}
use Rattle.sqlite.specs.Effect.{Database, RefusesToRead}
use Rattle.sqlite.specs.Listing.{understood, reads_listing}
use Rattle.sqlite.specs.Order.{Row}
use Rattle.sqlite.specs.Schema.{Schema}
use Rattle.sqlite.specs.State.{State}
use Rattle.portal_tables_sql.specs.Asks.{IsDirect}

-- Memory ran out, or the disk failed or refused since the call began, or the connection was shut before, or
-- its steps are limited.
abbrev pub HasCause : State → State → Error → Type 0
HasCause old new e = (e ≡ SqliteFailure OutOfMemory)
    ⊎ (MoreFaults old.faults new.faults ⊎ ((old.is_open ≡ false) ⊎ IsSome old.step_limit))

-- SQLite takes the text with these parameters: under the schema it is one query, which computes no other
-- table first, it has as many parameters as are given, and it is not refused, whatever the tables hold.
pub record IsTaken (sql : List ℕ) (params : Row) (schema : Schema) : Type 0 where
  pub compiled : Compiled
  pub is : understood schema sql ≡ Ok compiled
  pub whole : length sql ≤ compiled.tail
  pub given : length params ≡ length compiled.names
  pub timeless : compiled.formats ≡ []
  pub asks : compiled.returning ≡ None
  pub direct : IsDirect compiled.command
  pub unlisted : reads_listing schema sql ≡ false
  pub accepted : (db : Database) → db.schema ≡ schema → (e : Error)
      → ¬ RefusesToRead None compiled.command db params e
