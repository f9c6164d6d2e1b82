-- Which of the product's tables a schema has, by their names, and which schema version the head row gives.
use Rattle.std.specs.Prelude.{◌≡◌, ◌≤◌, ◌⊎◌, ℕ, Bool, ◌||◌, ◌&&◌, is_some, List, [], ◌∷◌, codes, Option, Some}
use Rattle.std.specs.Prelude.{None, Ok, Err, false, nat_eq, bytes_eq, slice_get, option_and_then, not}
use Rattle.sqlite.specs.Order.{Row, column}
use Rattle.std.specs.List.{list_all, list_any, starts_with}
use Rattle.sqlite.specs.Schema.{Schema}
use Rattle.sqlite.specs.Table.{Table}
use Rattle.sqlite_schema.specs.declared.schema.Index.{Index}
use Rattle.sqlite_schema.specs.declared.schema.Reference.{Reference}
use Rattle.sqlite.specs.Effect.{Database, Reads}
use Rattle.sqlite.specs.Listing.{understood, reads_listing, IsSourceOf}
use Rattle.sqlite_schema.specs.Names.{table_named, view_named, same_name}
use Rattle.sqlite_resolve.specs.declared.compiled.Compiled.{Compiled}
use Rattle.sqlite_resolve.specs.declared.error.CompileError.{CompileError}
use Rattle.portal_tables_sql.specs.Harmless.{are_harmless}
use Rattle.portal_tables_sql.specs.Stored.{number}
use Rattle.portal_tables_sql.specs.Indexes.{described_index, our_indexes, old_index_name}
use Rattle.portal_tables_sql.specs.Tables.{name_of, our_tables, current_tables}
use Rattle.portal_tables_sql.specs.declared.our_indexes.OurIndex.{OurIndex}

-- ---- names

-- a table or a view has the name
abbrev pub is_name_taken : Schema → List ℕ → Bool
is_name_taken schema name = is_some (table_named schema name) || is_some (view_named schema name)

-- a table or a view has one of the product's names
abbrev pub is_any_name_taken : Schema → Bool
is_any_name_taken schema = list_any (λ x. is_name_taken schema (name_of x)) our_tables

-- no foreign key acts on one of the product's table names, whether that table exists or not
abbrev pub has_no_action_on_ours : Schema → Bool
has_no_action_on_ours schema = list_all (λ x. are_harmless (name_of x) schema) our_tables

-- a table has the name
abbrev pub has_table : Schema → List ℕ → Bool
has_table schema name = is_some (table_named schema name)

-- each table of this schema version exists
abbrev pub has_our_tables : Schema → Bool
has_our_tables schema = list_all (λ x. has_table schema (name_of x)) current_tables

-- each of them exists, and no foreign key acts on one of the product's table names
abbrev pub is_usable_schema : Schema → Bool
is_usable_schema schema = has_our_tables schema && has_no_action_on_ours schema

-- the index is this one, on the table with the tree
abbrev pub is_our_index : OurIndex → ℕ → Index → Bool
is_our_index x tree index = same_name index.name (described_index x).name
    && (nat_eq index.table tree && bytes_eq index.columns (described_index x).columns)

-- one of the indexes is this one, on the table
abbrev pub has_index_on : OurIndex → List Index → Option Table → Bool
has_index_on x indexes None = false
has_index_on x indexes (Some table) = list_any (is_our_index x table.tree) indexes

-- the product's table has this index
abbrev pub has_our_index : Schema → OurIndex → Bool
has_our_index schema x = has_index_on x schema.indexes
    (option_and_then (slice_get schema.tables) (table_named schema (name_of (described_index x).table)))

-- the product's tables have all indexes of this schema version
abbrev pub is_indexed : Schema → Bool
is_indexed schema = list_all (has_our_index schema) our_indexes

-- ---- what of others hangs on the product's tables

-- one of the product's tables has the name, as SQL compares names
abbrev pub names_ours : List ℕ → Bool
names_ours name = list_any (λ x. same_name name (name_of x)) our_tables

-- one of the foreign keys refers to a table of the product's names
abbrev pub refers_to_ours : Table → Bool
refers_to_ours t = list_any (λ (ref : Reference). names_ours ref.parent) t.references

-- the table is another's, and refers to one of the product's
abbrev pub hangs_on_ours : Table → Bool
hangs_on_ours t = not (names_ours t.name) && refers_to_ours t

-- one of the product's indexes, of this schema version, has the name, as SQL compares names
abbrev pub names_current_index : List ℕ → Bool
names_current_index name = list_any (λ x. same_name name (described_index x).name) our_indexes

-- of all schema versions
abbrev pub names_our_index : List ℕ → Bool
names_our_index name = names_current_index name || same_name name old_index_name

-- the index is one of the product's, or was made by a clause
abbrev pub is_own_index : Index → Bool
is_own_index index = names_our_index index.name || starts_with nat_eq index.name (codes "sqlite_")

-- the index is on a table of the product's names
abbrev pub is_on_ours : Schema → Index → Bool
is_on_ours schema index =
    list_any (λ (t : Table). nat_eq t.tree index.table && names_ours t.name) schema.tables

-- the index is another's, and on one of the product's tables
abbrev pub is_others_index : Schema → Index → Bool
is_others_index schema index = not (is_own_index index) && is_on_ours schema index

-- a table or an index of others would not outlive that the product's tables are made anew
abbrev pub is_entangled : Schema → Bool
is_entangled schema =
    list_any hangs_on_ours schema.tables || list_any (is_others_index schema) schema.indexes

-- ---- the schema version

-- the query of the schema version
abbrev pub schema_version_text : List ℕ
schema_version_text = codes "SELECT layout FROM portal_head"

-- the query does not compile under the schema
abbrev pub IsNoQuery : Schema → Type 0
IsNoQuery schema = (fault : CompileError) × (understood schema schema_version_text ≡ Err fault)

-- the query gives these rows
pub record QueryAnswers (db : Database) (rows : List Row) : Type 0 where
  pub compiled : Compiled
  pub is : understood db.schema schema_version_text ≡ Ok compiled
  pub source : Database
  pub from : IsSourceOf (reads_listing db.schema schema_version_text) db source
  pub reads : Reads compiled.command source [] rows

-- there is one row, which begins with a schema version from 1 on
abbrev pub IsOneRow : List Row → ℕ → Type 0
IsOneRow rows schema_version =
    (row : Row) × (rows ≡ row ∷ []) × (column row 0 ≡ number schema_version) × (1 ≤ schema_version)

-- The head is one row with this schema version, as the query gives it. None: the query does not compile, or
-- gives something else.
abbrev pub GivesSchemaVersion : Database → Option ℕ → Type 0
GivesSchemaVersion db (Some schema_version) =
    (rows : List Row) × QueryAnswers db rows × IsOneRow rows schema_version
GivesSchemaVersion db None = IsNoQuery db.schema
    ⊎ ((rows : List Row) × QueryAnswers db rows × ((schema_version : ℕ) → ¬ IsOneRow rows schema_version))
