-- The result of attaching the tables to a connection.
use Rattle.std.specs.Prelude.{◌≡◌, ◌⊎◌, ◌<◌, ◌≤◌, ℕ, [], false, true, IsTrue, Option, Some, None, find}
use Rattle.sqlite.specs.Tree.{Trees}
use Rattle.sqlite.specs.Effect.{Database}
use Rattle.sqlite.specs.Schema.{Schema}
use Rattle.sqlite_schema.specs.Names.{view_named}
use Rattle.sqlite.specs.State.{State}
use Rattle.sqlite.specs.Held.{Held}
use Rattle.sqlite_trees.specs.declared.store.Store.{Ghosts}
use Rattle.portal_ledger.specs.Ledger.{Ledger}
use Rattle.portal_tables_rows.specs.Contents.{Contents}
use Rattle.portal_tables_rows.specs.Creation.{new_store}
use Rattle.portal_tables_rows.specs.Holds.{Holds, HoldsIn, CrashStateHoldsRows, this_schema_version}
use Rattle.portal_tables_sql.specs.Tables.{head_name}
use Rattle.portal_tables_rows.specs.Others.{KeepsOthers, CrashStateHasOthers}
use Rattle.portal_tables_rows.specs.SchemaVersions.{GivesSchemaVersion, hangs_on_ours, has_no_action_on_ours}
use Rattle.portal_tables_rows.specs.SchemaVersions.{is_entangled, is_indexed}
use Rattle.portal_tables_rows.specs.Migrations.{MayMigrate, version_number, migrated_rows}
use Rattle.portal_tables_rows.specs.declared.schema_versions.OldSchema.{OldSchema}
use Rattle.portal_tables_rows.specs.declared.schema_versions.OldSchema.TheVariants.{Sixth}
use Rattle.portal_tables.specs.declared.errors.OpenFault.{OpenFault}
use Rattle.portal_tables.specs.declared.errors.OpenFault.TheVariants.{NotOurs, Newer, Memory, Store}
use Rattle.portal_tables.specs.declared.attaching.Refused.{Refused}
use Rattle.portal_tables.specs.declared.tables.Tables.{Tables}
use Rattle.portal_tables.specs.StoreHolds.{IsNoNameTaken, IsAnyNameTaken}
use Rattle.portal_tables.specs.TablesRepresent.{ConnRepresents, CrashStatesOfConnHold, CrashStatesHaveOthers}
use Rattle.portal_tables.specs.TablesRepresent.{OthersStay}

-- ---- by the tables that exist

-- The tables of this schema version have their indexes and stay as they are, or nothing of others hangs on
-- them, so that they may be made anew.
abbrev pub MayBeCarried : Schema → ℕ → Type 0
MayBeCarried schema schema_version =
    ((schema_version ≡ this_schema_version) × (is_indexed schema ≡ true)) ⊎ (is_entangled schema ≡ false)

-- the head is one row with this schema version or an older one, and the tables may be carried to this one
abbrev pub GivesKnownVersion : Database → Type 0
GivesKnownVersion db =
    (schema_version : ℕ) × (1 ≤ schema_version) × (schema_version ≤ this_schema_version)
    × GivesSchemaVersion db (Some schema_version) × MayBeCarried db.schema schema_version

-- no foreign key acts on one of the product's tables, whether that table exists or not
abbrev pub HasNoActionOnOurs : Schema → Type 0
HasNoActionOnOurs schema = has_no_action_on_ours schema ≡ true

-- no table of others refers to one of the product's tables, whether that table exists or not
abbrev pub HasNoTableOnOurs : Schema → Type 0
HasNoTableOnOurs schema = find hangs_on_ours schema.tables ≡ None

-- A database to which the tables may be attached: no foreign key acts on one of the product's tables, no
-- table of others refers to one, and either none of them exists or the head has a known schema version.
abbrev pub IsKnown : Database → Type 0
IsKnown db =
    HasNoActionOnOurs db.schema × HasNoTableOnOurs db.schema
    × (IsNoNameTaken db.schema ⊎ (IsAnyNameTaken db.schema × GivesKnownVersion db))

-- the head is one row with a schema version that is newer than this one
abbrev pub GivesNewerVersion : Database → Type 0
GivesNewerVersion db =
    (schema_version : ℕ) × (this_schema_version < schema_version)
    × GivesSchemaVersion db (Some schema_version)

-- Why the tables were not attached. Out of memory, and a failure of the database, have their cause elsewhere.
abbrev pub IsCauseIn : OpenFault → Database → Type 0
IsCauseIn NotOurs db = IsAnyNameTaken db.schema × GivesSchemaVersion db None
IsCauseIn Newer db = IsAnyNameTaken db.schema × GivesNewerVersion db
IsCauseIn Memory db = Unit {0}
IsCauseIn Store db = Unit {0}

-- No view has the head's name. Then the head gives one schema version, whatever table has that name.
abbrev pub HeadIsNoView : Schema → Type 0
HeadIsNoView schema = view_named schema head_name ≡ None

-- a database with tables of the product's names, whose head gives this schema version, or none
abbrev pub GivesOwnVersion : Database → Option ℕ → Type 0
GivesOwnVersion db told = HeadIsNoView db.schema × IsAnyNameTaken db.schema × GivesSchemaVersion db told

-- one of the schema versions that this program reads
abbrev pub IsReadVersion : Option ℕ → Type 0
IsReadVersion told =
    (schema_version : ℕ) × (1 ≤ schema_version) × (schema_version ≤ this_schema_version)
    × (told ≡ Some schema_version)

-- the schema version that the head gives is the cause
abbrev pub IsExactCause : Option ℕ → OpenFault → Type 0
IsExactCause told NotOurs = told ≡ None
IsExactCause told Newer =
    (schema_version : ℕ) × (this_schema_version < schema_version) × (told ≡ Some schema_version)
IsExactCause told Memory = Unit {0}
IsExactCause told Store = Unit {0}

-- ---- the tables after it

-- The crash states that a migration adds. There are none if a foreign key acts on one of the product's
-- tables, or if a table or an index of others hangs on one.
abbrev pub MayBeMigrated : OldSchema → State → Trees → Type 0
MayBeMigrated from old trees =
    HasNoActionOnOurs old.now.schema × (is_entangled old.now.schema ≡ false) × MayMigrate from old trees

-- a database of this schema version has its indexes, and all is committed
pub record IsCompleted (old new : State) : Type 0 where
  pub holds : ((t : Contents) → HoldsIn this_schema_version [] old.now t → Holds new.now t)
      ⊎ ((t : Contents) → HoldsIn this_schema_version [] old.now t
      → Holds new.now (migrated_rows Sixth t))
  pub others : (t : Contents) → HoldsIn this_schema_version [] old.now t → KeepsOthers old.now new.now
  pub is_open : IsTrue new.is_open
  pub ended : new.in_transaction ≡ false
  pub same : new.committed ≡ new.now

-- the rows of the product's tables stay in this schema version, and the other tables are kept
abbrev pub Stays : Database → Database → Type 0
Stays db after = GivesSchemaVersion db (Some this_schema_version)
    × ((t : Contents) → HoldsIn this_schema_version [] db t → Holds after t × KeepsOthers db after)

-- the rows of an older schema version, or of this one without its indexes, are migrated to this one, and the
-- other tables are kept
abbrev pub IsMigrated : Database → Database → Type 0
IsMigrated db after =
    (from : OldSchema) × GivesSchemaVersion db (Some (version_number from)) × ((t : Contents)
    → HoldsIn (version_number from) [] db t → Holds after (migrated_rows from t) × KeepsOthers db after)

-- one of the two
abbrev pub KeepsOrMigrates : Database → Database → Type 0
KeepsOrMigrates db after = Stays db after ⊎ IsMigrated db after

-- the trees of a crash state hold the migrated rows, and the other tables; nothing of others hangs on ours
abbrev pub CrashStateCarries : Database → Trees → Type 0
CrashStateCarries db trees = (from : OldSchema) × GivesSchemaVersion db (Some (version_number from))
    × (is_entangled db.schema ≡ false) × ((t : Contents) → HoldsIn (version_number from) [] db t
    → CrashStateHoldsRows trees (migrated_rows from t) × CrashStateHasOthers db trees)

-- The crash states that are added: a new database if the product's tables did not exist, or else the rows
-- that were there. There are none if a foreign key acts on one of the product's tables, or if a table of
-- others refers to one.
abbrev pub MayAttach : Database → Trees → Type 0
MayAttach db trees = HasNoActionOnOurs db.schema × HasNoTableOnOurs db.schema
    × ((IsNoNameTaken db.schema × CrashStateHoldsRows trees new_store × CrashStateHasOthers db trees)
    ⊎ (IsAnyNameTaken db.schema × CrashStateCarries db trees))

-- the rows of the product's tables are kept or migrated, and all is committed
pub record IsCarried (old new : State) : Type 0 where
  pub carries : KeepsOrMigrates old.now new.now
  pub is_open : IsTrue new.is_open
  pub ended : new.in_transaction ≡ false
  pub same : new.committed ≡ new.now

-- the tables are ready and committed: new ones if there were none, or with the rows that were there
pub record AreTablesReady (old new : State) : Type 0 where
  pub holds : (IsNoNameTaken old.now.schema × Holds new.now new_store × KeepsOthers old.now new.now)
      ⊎ (IsAnyNameTaken old.now.schema × KeepsOrMigrates old.now new.now)
  pub is_open : IsTrue new.is_open
  pub ended : new.in_transaction ≡ false
  pub same : new.committed ≡ new.now

-- nothing changed: the connection is open, outside a transaction, with the same database, which is its only
-- crash state
pub record IsUnchangedConn (old new : State) : Type 0 where
  pub is_open : IsTrue new.is_open
  pub ended : new.in_transaction ≡ false
  pub now : new.now ≡ old.now
  pub committed : new.committed ≡ old.committed
  pub left : (trees : Trees) → new.may_leave trees → trees ≡ old.now.trees

-- tables that were attached to a connection kept the other tables: in the database and in each crash state
abbrev pub AttachesOthers : {S : Type 0} → Ghosts S → Held S → Tables S → Type 0
AttachesOthers g old new = OthersStay g old new.conn × CrashStatesHaveOthers g old new.conn

-- The tables were not attached to a database that holds the ledger. Out of memory has changed nothing; after
-- any other error each crash state still holds the ledger.
abbrev pub FailsToAttach : {S : Type 0} → Ghosts S → Ledger → Refused S → Type 0
FailsToAttach g L refused =
    ((refused.fault ≡ Memory) × ConnRepresents g refused.connection L)
    ⊎ ((refused.fault ≡ Store) × CrashStatesOfConnHold g refused.connection L)
