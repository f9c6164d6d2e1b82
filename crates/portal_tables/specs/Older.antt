-- When a database of an older schema version holds a ledger, and the crash states of its migration.
use Rattle.std.specs.Prelude.{◌≡◌, ◌⊎◌, ◌<◌, ◌≤◌, ℕ, [], false, List, length, All, None}
use Rattle.sqlite.specs.Tree.{Trees}
use Rattle.sqlite.specs.Effect.{Database}
use Rattle.portal_model.specs.declared.command.Command.{Command}
use Rattle.portal_model.specs.declared.command.Command.TheVariants.{Load, Issue, Sell, Redeem, Report, Refund}
use Rattle.portal_model.specs.declared.command.Command.TheVariants.{Close}
use Rattle.portal_model.specs.declared.plan.Plan.{Plan}
use Rattle.portal_ledger.specs.Ledger.{Accepted, Ledger, IsSound, all_rows_of}
use Rattle.portal_tables_sql.specs.Represents.{CrashStateHolds}
use Rattle.portal_tables_rows.specs.Holds.{HoldsIn}
use Rattle.portal_tables_sql.specs.Tables.{counts_name, totals_name, requests_name}
use Rattle.portal_tables_rows.specs.SchemaVersions.{is_name_taken}
use Rattle.portal_tables_rows.specs.Migrations.{version_number}
use Rattle.portal_tables_rows.specs.declared.schema_versions.OldSchema.{OldSchema}
use Rattle.portal_tables.specs.HoldsLedger.{all_contents_of, HoldsLedger}

-- no request of the ledger has an idempotency key
abbrev pub HaveNoFingerprints : Ledger → Type 0
HaveNoFingerprints L = All (λ (a : Accepted). a.mark ≡ None) L

-- plans of at most 1,000 uses, and codes of twelve characters
abbrev pub IsShort : Command → Type 0
IsShort (Load plans) = All (λ (p : Plan). p.uses ≤ 1000) plans
IsShort (Issue batch plan codes) = All (λ (code : List ℕ). length code ≡ 12) codes
IsShort (Sell code) = Unit {0}
IsShort (Redeem device code) = Unit {0}
IsShort (Report number bytes) = Unit {0}
IsShort (Refund code) = Unit {0}
IsShort (Close number) = Unit {0}

abbrev pub AreShort : Ledger → Type 0
AreShort L = All (λ (a : Accepted). IsShort a.command) L

-- The tables of the schema version hold just the rows of the ledger. Idempotency keys came with version 3,
-- and long codes and many uses with version 4. No table or view has the name of a table of a later version.
pub record HoldsLedgerIn (schema_version : ℕ) (L : Ledger) (db : Database) : Type 0 where
  pub sound : IsSound L
  pub unmarked : schema_version < 3 → HaveNoFingerprints L
  pub short : schema_version < 4 → AreShort L
  pub no_counts : schema_version < 2 → is_name_taken db.schema counts_name ≡ false
  pub no_totals : schema_version < 2 → is_name_taken db.schema totals_name ≡ false
  pub no_requests : schema_version < 3 → is_name_taken db.schema requests_name ≡ false
  pub holds : HoldsIn schema_version [] db (all_contents_of schema_version (all_rows_of L))

-- the trees of a crash state hold the ledger in that schema version, or in this one
abbrev pub CrashStateHoldsEither : OldSchema → Ledger → Trees → Type 0
CrashStateHoldsEither from L trees =
    CrashStateHolds (HoldsLedgerIn (version_number from) L) trees ⊎ CrashStateHolds (HoldsLedger L) trees
