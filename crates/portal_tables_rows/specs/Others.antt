-- The other tables: those that are not the product's, and that they keep their rows.
use Rattle.std.specs.Prelude.{◌≡◌, ℕ, Bool, false, List, map}
use Rattle.std.specs.List.{list_any}
use Rattle.sqlite.specs.Table.{Table}
use Rattle.sqlite.specs.Tree.{Trees}
use Rattle.sqlite.specs.Effect.{Database}
use Rattle.sqlite_schema.specs.Names.{same_name}
use Rattle.sqlite_rules.specs.Lists.{Has}
use Rattle.portal_tables_sql.specs.Represents.{CrashStateHolds}
use Rattle.portal_tables_sql.specs.Tables.{name_of, our_tables}

-- the names of the product's tables, of all schema versions
abbrev pub own_names : List (List ℕ)
own_names = map name_of our_tables

-- the name is one of the product's, as SQL compares names
abbrev pub is_own : List ℕ → Bool
is_own name = list_any (same_name name) own_names

-- each other table, whose name is not one of the product's, still exists with the rows that it had
abbrev pub KeepsOthers : Database → Database → Type 0
KeepsOthers db after = (table : Table) → Has db.schema.tables table → is_own table.name ≡ false
    → Has after.schema.tables table × (after.trees table.tree ≡ db.trees table.tree)

-- the same of the trees of a crash state, under the schema that they list
abbrev pub CrashStateHasOthers : Database → Trees → Type 0
CrashStateHasOthers db trees = CrashStateHolds (KeepsOthers db) trees
