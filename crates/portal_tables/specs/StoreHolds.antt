-- When a database holds a ledger, in this schema version or an older one.
use Rattle.std.specs.Prelude.{◌≡◌, ◌⊎◌, false, true, []}
use Rattle.sqlite.specs.Schema.{Schema}
use Rattle.sqlite.specs.Effect.{Database}
use Rattle.portal_ledger.specs.Ledger.{Ledger}
use Rattle.portal_tables_rows.specs.SchemaVersions.{is_any_name_taken}
use Rattle.portal_tables_rows.specs.Migrations.{version_number}
use Rattle.portal_tables_rows.specs.declared.schema_versions.OldSchema.{OldSchema}
use Rattle.portal_tables.specs.Older.{HoldsLedgerIn}
use Rattle.portal_tables.specs.HoldsLedger.{HoldsLedger}

-- no table and no view has one of the product's names
abbrev pub IsNoNameTaken : Schema → Type 0
IsNoNameTaken schema = is_any_name_taken schema ≡ false

-- a table or a view has one of the product's names
abbrev pub IsAnyNameTaken : Schema → Type 0
IsAnyNameTaken schema = is_any_name_taken schema ≡ true

-- a database without the product's tables holds the empty ledger
abbrev pub IsNewDatabase : Ledger → Database → Type 0
IsNewDatabase L db = (L ≡ []) × IsNoNameTaken db.schema

-- a database of an older schema version, or of this one without one of its indexes
abbrev pub HoldsOlder : Ledger → Database → Type 0
HoldsOlder L db = (from : OldSchema) × HoldsLedgerIn (version_number from) L db

-- The tables hold just the rows of the ledger, in this schema version or in an older one, or the database is
-- a new one.
abbrev pub StoreHolds : Ledger → Database → Type 0
StoreHolds L db = HoldsLedger L db ⊎ (HoldsOlder L db ⊎ IsNewDatabase L db)
