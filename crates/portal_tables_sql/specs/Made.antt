-- What creating a table makes of a database.
use Rattle.std.specs.Prelude.{◌≡◌, false, []}
use Rattle.sqlite.specs.Table.{Table}
use Rattle.sqlite.specs.Schema.{Schema}
use Rattle.sqlite.specs.Effect.{Database, IsDatabase}
use Rattle.sqlite.specs.Change.{created, next_tree}
use Rattle.sqlite_catalog.specs.Change.{is_used, KeepsRows}
use Rattle.sqlite.specs.Does.{lacks_sequence}

-- a schema with an AUTOINCREMENT key has the table sqlite_sequence
abbrev pub HasItsSequence : Schema → Type 0
HasItsSequence schema = lacks_sequence schema ≡ false

-- the table was created under a free name, without rows, and the other tables keep theirs
pub record HasMade (db : Database) (table : Table) (after : Database) : Type 0 where
  pub free : is_used db.schema table.name ≡ false
  pub is : after.schema ≡ created db.schema table
  pub empty : after.trees (next_tree db.schema) ≡ []
  pub others : KeepsRows db.schema.tables db.trees after.trees
  pub sound : IsDatabase after
