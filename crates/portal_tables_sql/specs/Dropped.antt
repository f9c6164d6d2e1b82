-- What dropping a table makes of a database.
use Rattle.std.specs.Prelude.{◌≡◌, ℕ}
use Rattle.sqlite.specs.Effect.{Database, IsDatabase}
use Rattle.sqlite_catalog.specs.Change.{without_table, KeepsRows}

-- the table with this tree is gone, with its indexes, and the other tables keep their rows
pub record HasDropped (db : Database) (tree : ℕ) (after : Database) : Type 0 where
  pub is : after.schema ≡ without_table db.schema tree
  pub others : KeepsRows (without_table db.schema tree).tables db.trees after.trees
  pub sound : IsDatabase after
