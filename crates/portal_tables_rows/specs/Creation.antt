-- What creating the product's tables makes of a database.
use Rattle.std.specs.Prelude.{◌≡◌, List, [], ◌∷◌, true, false, Bool, IsTrue, not, is_some, bytes_eq, ◌&&◌}
use Rattle.std.specs.Prelude.{◌||◌}
use Rattle.std.specs.List.{AllByRecursion}
use Rattle.sqlite.specs.Schema.{Schema}
use Rattle.sqlite.specs.Tree.{Trees}
use Rattle.sqlite.specs.Effect.{Database}
use Rattle.sqlite.specs.State.{State}
use Rattle.sqlite.specs.Rows.{sequence}
use Rattle.portal_tables_sql.specs.TableExists.{IsUnactedBy}
use Rattle.portal_tables_sql.specs.Made.{HasItsSequence, HasMade}
use Rattle.portal_tables_sql.specs.Harmless.{any_autoincrement}
use Rattle.portal_tables_sql.specs.Tables.{Layout, table_in, table_of, name_of}
use Rattle.portal_tables_sql.specs.declared.our_tables.OurTable.{OurTable}
use Rattle.portal_tables_rows.specs.SchemaVersions.{has_no_action_on_ours}
use Rattle.portal_tables_rows.specs.Contents.{Contents}
use Rattle.portal_tables_rows.specs.Steps.{first_head}
use Rattle.portal_tables_rows.specs.Holds.{Holds, HoldsIn, TablePlace, CrashStateHoldsRows}
use Rattle.portal_tables_rows.specs.Holds.{this_schema_version}
use Rattle.portal_tables_sql.specs.TableExists.{TableExists}
use Rattle.portal_tables_sql.specs.declared.our_indexes.OurIndex.{OurIndex}
use Rattle.sqlite_rules.specs.Lists.{Has}
use Rattle.portal_tables_rows.specs.Others.{KeepsOthers, CrashStateHasOthers}

-- no foreign key acts on a table of the product's names, and a schema with AUTOINCREMENT has sqlite_sequence
pub record AreNamesFree (schema : Schema) : Type 0 where
  pub numbered : HasItsSequence schema
  pub unacted : (x : OurTable) → IsUnactedBy schema (name_of x)

-- the same as a test
abbrev pub are_names_free : Schema → Bool
are_names_free schema =
    (not (any_autoincrement schema) || is_some (sequence schema)) && has_no_action_on_ours schema

-- these tables were created, in this order
abbrev pub HaveMade : List OurTable → Database → Database → Type 0
HaveMade [] db after = after ≡ db
HaveMade (x ∷ xs) db after = (mid : Database) × HasMade db (table_of x 0) mid × HaveMade xs mid after

-- Inside a transaction these tables were created, if a schema with AUTOINCREMENT has sqlite_sequence. Nothing
-- is
-- committed.
pub record Makes (xs : List OurTable) (old new : State) : Type 0 where
  pub made : HasItsSequence old.now.schema → HaveMade xs old.now new.now × HasItsSequence new.now.schema
  pub committed : new.committed ≡ old.committed
  pub mode : new.in_transaction ≡ true

abbrev pub no_rows : Contents
no_rows = record {
  heads = [];
  plans = [];
  batches = [];
  vouchers = [];
  sessions = [];
  grants = [];
  counts = [];
  totals = [];
  requests = [];
}

-- the rows of a new database: the head row and no other
abbrev pub new_store : Contents
new_store = record no_rows { heads = first_head this_schema_version ∷ [] }

-- Inside a transaction the tables and the indexes were created, if the names were free, and the other tables
-- kept. Nothing is committed.
pub record CreatesEmpty (old new : State) : Type 0 where
  pub holds : AreNamesFree old.now.schema → Holds new.now no_rows
  pub others : AreNamesFree old.now.schema → KeepsOthers old.now new.now
  pub committed : new.committed ≡ old.committed
  pub mode : new.in_transaction ≡ true

-- The same with the head row.
pub record Builds (old new : State) : Type 0 where
  pub holds : Holds new.now new_store
  pub others : KeepsOthers old.now new.now
  pub committed : new.committed ≡ old.committed
  pub mode : new.in_transaction ≡ true

-- Inside a transaction these indexes were created, in this order. Nothing is committed.
pub record Indexes (xs : List OurIndex) (old new : State) : Type 0 where
  pub holds : (t : Contents) → HoldsIn this_schema_version [] old.now t
      → HoldsIn this_schema_version xs new.now t
  pub others : (t : Contents) → HoldsIn this_schema_version [] old.now t → KeepsOthers old.now new.now
  pub committed : new.committed ≡ old.committed
  pub mode : new.in_transaction ≡ true

-- ---- tables that are dropped

-- each of these tables exists somewhere, in this layout
abbrev pub AreStanding : Layout → List OurTable → Schema → Type 0
AreStanding layout xs schema =
    (x : OurTable) → Has xs x → (place : TablePlace) × TableExists schema place.at
    (table_in layout x place.tree)

-- no two of them have one name
abbrev pub AreDistinct : List OurTable → Type 0
AreDistinct [] = Unit {0}
AreDistinct (x ∷ xs) =
    AllByRecursion (λ y. bytes_eq (name_of x) (name_of y) ≡ false) xs × AreDistinct xs

-- Inside a transaction these tables, which are all different, were dropped, and the other tables kept.
-- Nothing is committed.
pub record DropsTables (xs : List OurTable) (old new : State) : Type 0 where
  pub drops : (layout : Layout) → AreDistinct xs → AreStanding layout xs old.now.schema
      → AreNamesFree old.now.schema → AreNamesFree new.now.schema × KeepsOthers old.now new.now
  pub committed : new.committed ≡ old.committed
  pub mode : new.in_transaction ≡ true

-- open, outside a transaction, and all is committed
pub record IsCommitted (s : State) : Type 0 where
  pub is_open : IsTrue s.is_open
  pub ended : s.in_transaction ≡ false
  pub same : s.committed ≡ s.now

-- If the names were free, the tables were created and the other tables kept. All is committed.
pub record IsCreated (old new : State) : Type 0 where
  pub made : AreNamesFree old.now.schema → Holds new.now new_store
  pub others : AreNamesFree old.now.schema → KeepsOthers old.now new.now
  pub committed : IsCommitted new

-- the crash states that are added, if the names were free: the rows of a new database, with the other tables
abbrev pub MayBuild : State → Trees → Type 0
MayBuild old trees =
    AreNamesFree old.now.schema → CrashStateHoldsRows trees new_store × CrashStateHasOthers old.now trees
