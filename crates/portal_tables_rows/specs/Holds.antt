-- When a database holds rows in the product's tables of a schema version, wherever those tables are among
-- others.
use Rattle.std.specs.Prelude.{◌≡◌, ℕ, nat_le, if◌then◌else◌, List, map}
use Rattle.sqlite.specs.Schema.{Schema}
use Rattle.sqlite.specs.Table.{Table}
use Rattle.sqlite_rules.specs.Lists.{Has}
use Rattle.sqlite.specs.Tree.{Trees}
use Rattle.sqlite.specs.Order.{Row}
use Rattle.sqlite.specs.Effect.{Database, IsDatabase}
use Rattle.portal_tables_sql.specs.TableExists.{TableExists, IsUnacted}
use Rattle.portal_tables_sql.specs.Represents.{CrashStateHolds}
use Rattle.portal_tables_sql.specs.Stored.{Keeps, Stores, whole_row, less_rowid}
use Rattle.portal_tables_sql.specs.Indexes.{described_index, our_indexes, HasOurIndex}
use Rattle.portal_tables_sql.specs.Tables.{Layout, Apart, Together, IsTableIn, table_in}
use Rattle.portal_model.specs.Rows.{VoucherRow, SessionRow, CountRow, TotalRow}
use Rattle.portal_tables_sql.specs.declared.our_indexes.OurIndex.{OurIndex}
use Rattle.portal_tables_sql.specs.declared.our_tables.OurTable.{OurTable}
use Rattle.portal_tables_sql.specs.declared.our_tables.OurTable.TheVariants as our
use Rattle.portal_tables_rows.specs.Contents.{Contents, head_stored, plan_cells, batch_cells, voucher_cells}
use Rattle.portal_tables_rows.specs.Contents.{session_stored, grant_stored, count_cells, total_stored}
use Rattle.portal_tables_rows.specs.Contents.{request_cells, WholeVoucher, WholeSession, whole_voucher_cells}
use Rattle.portal_tables_rows.specs.Contents.{whole_session_stored, count_of, total_of}

-- where a table is: its index among the tables of the schema, and its tree
pub record TablePlace : Type 0 where
  pub at : ℕ
  pub tree : ℕ

-- where each of the product's tables is
abbrev pub TablePlaces : Type 0
TablePlaces = OurTable → TablePlace

-- the table exists at this place, and no foreign key acts on it
pub record IsTableAt (schema : Schema) (table : ℕ → Table) (place : TablePlace) : Type 0 where
  pub exists : TableExists schema place.at (table place.tree)
  pub unacted : IsUnacted schema place.tree

-- The tables of the schema version exist at these places, in this layout, and have these indexes.
pub record TablesExist (layout : Layout) (schema_version : ℕ) (indexes : List OurIndex) (schema : Schema)
    (places : TablePlaces) : Type 0 where
  pub tables : (x : OurTable) → IsTableIn layout schema_version x
      → IsTableAt schema (table_in layout x) (places x)
  pub indexed : (x : OurIndex) → Has indexes x
      → HasOurIndex x schema (places (described_index x).table).tree

-- the rows that the table stores where the counters are apart, with the rowid where it is the key
abbrev pub shown : OurTable → Contents → List Row
shown our.Head t = map head_stored t.heads
shown our.Plans t = map plan_cells t.plans
shown our.Batches t = map batch_cells t.batches
shown our.Vouchers t = map voucher_cells t.vouchers
shown our.Sessions t = map session_stored t.sessions
shown our.Grants t = map grant_stored t.grants
shown our.Counts t = map count_cells t.counts
shown our.Totals t = map total_stored t.totals
shown our.Requests t = map request_cells t.requests

-- the rows of portal_vouchers are the vouchers, each with its count
pub record AreVouchers (rows : List Row) (vouchers : List VoucherRow) (counts : List CountRow) : Type 0 where
  pub whole : List WholeVoucher
  pub stored : Stores less_rowid whole_voucher_cells rows whole
  pub their_rows : map (λ w. w.row) whole ≡ vouchers
  pub their_counts : map count_of whole ≡ counts

-- the rows of portal_sessions are the sessions, each with its total
pub record AreSessions (rows : List Row) (sessions : List SessionRow) (totals : List TotalRow) : Type 0 where
  pub whole : List WholeSession
  pub stored : Stores whole_row whole_session_stored rows whole
  pub their_rows : map (λ w. w.row) whole ≡ sessions
  pub their_totals : map total_of whole ≡ totals

abbrev pub VouchersIn : Layout → List Row → Contents → Type 0
VouchersIn (Apart keyed) rows t = Keeps less_rowid rows (shown our.Vouchers t)
VouchersIn Together rows t = AreVouchers rows t.vouchers t.counts

abbrev pub SessionsIn : Layout → List Row → Contents → Type 0
SessionsIn (Apart keyed) rows t = Keeps whole_row rows (shown our.Sessions t)
SessionsIn Together rows t = AreSessions rows t.sessions t.totals

-- the rows of a tree are those of the table
abbrev pub StoresIn : Layout → OurTable → List Row → Contents → Type 0
StoresIn layout our.Head rows t = Keeps whole_row rows (shown our.Head t)
StoresIn layout our.Plans rows t = Keeps less_rowid rows (shown our.Plans t)
StoresIn layout our.Batches rows t = Keeps less_rowid rows (shown our.Batches t)
StoresIn layout our.Vouchers rows t = VouchersIn layout rows t
StoresIn layout our.Sessions rows t = SessionsIn layout rows t
StoresIn layout our.Grants rows t = Keeps whole_row rows (shown our.Grants t)
StoresIn layout our.Counts rows t = Keeps less_rowid rows (shown our.Counts t)
StoresIn layout our.Totals rows t = Keeps whole_row rows (shown our.Totals t)
StoresIn layout our.Requests rows t = Keeps less_rowid rows (shown our.Requests t)

-- the trees of the tables store these rows; the rows of a table that the schema version does not have are
-- ignored
abbrev pub StoresRows : Layout → ℕ → TablePlaces → Trees → Contents → Type 0
StoresRows layout schema_version places trees t =
    (x : OurTable) → IsTableIn layout schema_version x → StoresIn layout x (trees (places x).tree) t

-- the database holds just these rows in the tables of the schema version, and has these indexes
pub record HoldsTables (layout : Layout) (schema_version : ℕ) (indexes : List OurIndex) (db : Database)
    (t : Contents) : Type 0 where
  pub places : TablePlaces
  pub tables_exist : TablesExist layout schema_version indexes db.schema places
  pub store : StoresRows layout schema_version places db.trees t
  pub sound : IsDatabase db

-- up to schema version 4 the tables have their clauses, and up to 5 the counters are apart
abbrev pub layout_of : ℕ → Layout
layout_of schema_version = if nat_le schema_version 5 then Apart (nat_le schema_version 4) else Together

abbrev pub HoldsIn : ℕ → List OurIndex → Database → Contents → Type 0
HoldsIn schema_version indexes db t = HoldsTables (layout_of schema_version) schema_version indexes db t

-- the schema version of this program
abbrev pub this_schema_version : ℕ
this_schema_version = 6

-- the database holds just these rows in the tables of this schema version, with its indexes
abbrev pub Holds : Database → Contents → Type 0
Holds db t = HoldsIn this_schema_version our_indexes db t

-- the schema has the tables of the schema version and these indexes, whatever rows they hold
abbrev pub HasTablesIn : Layout → ℕ → List OurIndex → Schema → Type 0
HasTablesIn layout schema_version indexes schema =
    (places : TablePlaces) × TablesExist layout schema_version indexes schema places

-- the schema has the tables of this schema version and its indexes, whatever rows they hold
abbrev pub HasTables : Schema → Type 0
HasTables schema = HasTablesIn Together this_schema_version our_indexes schema

-- the trees of a crash state hold the rows, under the schema that they list
abbrev pub CrashStateHoldsRows : Trees → Contents → Type 0
CrashStateHoldsRows trees t = CrashStateHolds (λ db. Holds db t) trees
