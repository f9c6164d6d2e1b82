-- The migration of a database of an older schema version to this one, in one transaction.
use Rattle.std.specs.Prelude.{◌≡◌, ℕ, false, true, IsTrue, List, [], ◌∷◌, ◌++◌, map, fold}
use Rattle.sqlite.specs.Tree.{Trees}
use Rattle.sqlite.specs.State.{State}
use Rattle.portal_tables_sql.specs.Stored.{put_by}
use Rattle.portal_model.specs.Rows.{VoucherRow, SessionRow, CountRow, TotalRow, count_from, total_from}
use Rattle.portal_ledger.specs.RequestRow.{RequestRow}
use Rattle.portal_tables_rows.specs.declared.rows.CountValue.{CountValue}
use Rattle.portal_tables_rows.specs.declared.rows.SessionValue.{SessionValue}
use Rattle.portal_tables_rows.specs.declared.rows.VoucherValue.{VoucherValue}
use Rattle.portal_tables_rows.specs.declared.column_values.Total.{Total}
use Rattle.portal_tables_rows.specs.declared.copies.WholeTable.{WholeTable}
use Rattle.portal_tables_sql.specs.declared.copied_tables.CopiedTable.{CopiedTable}
use Rattle.portal_tables_sql.specs.declared.copied_tables.CopiedTable.TheVariants as copied
use Rattle.portal_tables_sql.specs.declared.our_tables.OurTable.{OurTable}
use Rattle.portal_tables_sql.specs.declared.our_tables.OurTable.TheVariants as our
use Rattle.portal_tables_rows.specs.Contents.{Contents, WholeVoucher, WholeSession, count_of, total_of}
use Rattle.portal_tables_rows.specs.Copying.{AreRead}
use Rattle.portal_tables_rows.specs.Creation.{AreNamesFree}
use Rattle.portal_tables_rows.specs.Foreign.{AreOwnRows}
use Rattle.portal_tables_rows.specs.Read.{count_read, voucher_read, voucher_count, session_read}
use Rattle.portal_tables_rows.specs.Read.{session_total}
use Rattle.portal_tables_rows.specs.Read.{whole_voucher_read, whole_session_read}
use Rattle.portal_tables_rows.specs.Steps.{ends_row, with_schema_version}
use Rattle.portal_tables_rows.specs.Holds.{HoldsIn, Holds, CrashStateHoldsRows, this_schema_version}
use Rattle.portal_tables_rows.specs.Others.{KeepsOthers, CrashStateHasOthers}
use Rattle.portal_tables_rows.specs.Sums.{SumsFit, rows_for_sums}
use Rattle.portal_tables_rows.specs.declared.schema_versions.OldSchema.{OldSchema}
use Rattle.portal_tables_rows.specs.declared.schema_versions.OldSchema.TheVariants.{First, Second, Third}
use Rattle.portal_tables_rows.specs.declared.schema_versions.OldSchema.TheVariants.{Fourth, Fifth, Sixth}

-- the number of a schema version; the sixth is this one, without one of its indexes
abbrev pub version_number : OldSchema → ℕ
version_number First = 1
version_number Second = 2
version_number Third = 3
version_number Fourth = 4
version_number Fifth = 5
version_number Sixth = 6

-- ---- the rows after a migration

-- each voucher with the number of its redemptions
abbrev pub counts_summed : Contents → List CountRow
counts_summed t = map (count_from t.grants) t.vouchers

-- each session with its end and its remaining allowance, by the sums over its redemptions
abbrev pub totals_summed : Contents → List TotalRow
totals_summed t = map (total_from (rows_for_sums t.plans t.grants)) t.sessions

-- the counts and the totals: the computed ones if the schema version has none
abbrev pub counts_after : OldSchema → Contents → List CountRow
counts_after First t = counts_summed t
counts_after Second t = t.counts
counts_after Third t = t.counts
counts_after Fourth t = t.counts
counts_after Fifth t = t.counts
counts_after Sixth t = t.counts

abbrev pub totals_after : OldSchema → Contents → List TotalRow
totals_after First t = totals_summed t
totals_after Second t = t.totals
totals_after Third t = t.totals
totals_after Fourth t = t.totals
totals_after Fifth t = t.totals
totals_after Sixth t = t.totals

-- the requests: none if the schema version has no table for them
abbrev pub requests_after : OldSchema → Contents → List RequestRow
requests_after First t = []
requests_after Second t = []
requests_after Third t = t.requests
requests_after Fourth t = t.requests
requests_after Fifth t = t.requests
requests_after Sixth t = t.requests

abbrev pub with_later_tables : OldSchema → Contents → Contents
with_later_tables from t = record t
    { counts = counts_after from t; totals = totals_after from t; requests = requests_after from t }

-- the same rows in this schema version
abbrev pub migrated_rows : OldSchema → Contents → Contents
migrated_rows from t = with_schema_version this_schema_version (with_later_tables from t)

-- The tables were migrated to this schema version, with the index, and the other tables kept. It is
-- committed.
pub record HasMigrated (from : OldSchema) (old new : State) : Type 0 where
  pub holds : (t : Contents) → HoldsIn (version_number from) [] old.now t
      → Holds new.now (migrated_rows from t)
  pub others : (t : Contents) → HoldsIn (version_number from) [] old.now t → KeepsOthers old.now new.now
  pub committed : new.committed ≡ new.now
  pub ended : new.in_transaction ≡ false
  pub is_open : IsTrue new.is_open

-- the crash states that are added: the migrated rows, with the other tables
abbrev pub MayMigrate : OldSchema → State → Trees → Type 0
MayMigrate from old trees = IsTrue old.is_open → (t : Contents) → HoldsIn (version_number from) [] old.now
    t → CrashStateHoldsRows trees (migrated_rows from t) × CrashStateHasOthers old.now trees

-- ---- the tables of each schema version

-- a table comes before those that it refers to, as they are dropped in this order
abbrev pub first_tables : List OurTable
first_tables = our.Grants ∷ our.Sessions ∷ our.Vouchers ∷ our.Batches ∷ our.Plans ∷ our.Head ∷ []

abbrev pub second_tables : List OurTable
second_tables = our.Totals ∷ our.Counts ∷ first_tables

abbrev pub tables_of : OldSchema → List OurTable
tables_of First = first_tables
tables_of Second = second_tables
tables_of Third = our.Requests ∷ second_tables
tables_of Fourth = our.Requests ∷ second_tables
tables_of Fifth = our.Requests ∷ second_tables
tables_of Sixth = our.Requests ∷ first_tables

-- those of which the rows are copied as they are
abbrev pub first_copied : List CopiedTable
first_copied = copied.Grants ∷ copied.Batches ∷ copied.Plans ∷ copied.Head ∷ []

abbrev pub copied_tables : OldSchema → List CopiedTable
copied_tables First = first_copied
copied_tables Second = first_copied
copied_tables Third = copied.Requests ∷ first_copied
copied_tables Fourth = copied.Requests ∷ first_copied
copied_tables Fifth = copied.Requests ∷ first_copied
copied_tables Sixth = copied.Requests ∷ first_copied

-- ---- rows that can be migrated

-- The counters that are kept apart are those of the vouchers and of the sessions, in their order.
pub record AreInOrder (t : Contents) : Type 0 where
  pub counts : map (λ (k : CountRow). k.code) t.counts ≡ map (λ (v : VoucherRow). v.code) t.vouchers
  pub totals : map (λ (m : TotalRow). m.number) t.totals ≡ map (λ (s : SessionRow). s.number) t.sessions

-- The rows can be migrated: this product writes each of them, the computed counters of schema version 1 fit
-- in their columns, and those of a later one are in the order of what they count.
abbrev pub CanMigrate : OldSchema → Contents → Type 0
CanMigrate First t = AreOwnRows t × SumsFit t.plans t.sessions t.grants
CanMigrate Second t = AreOwnRows t × AreInOrder t
CanMigrate Third t = AreOwnRows t × AreInOrder t
CanMigrate Fourth t = AreOwnRows t × AreInOrder t
CanMigrate Fifth t = AreOwnRows t × AreInOrder t
CanMigrate Sixth t = AreOwnRows t

-- what of the rows is read with their counters: the vouchers
abbrev pub AreCountedOf : OldSchema → Contents → List VoucherValue → Type 0
AreCountedOf from t vouchers = (map voucher_read vouchers ≡ t.vouchers)
    × (map voucher_count vouchers ≡ counts_after from t)

-- and the sessions
abbrev pub AreTotaledOf : OldSchema → Contents → List SessionValue → Type 0
AreTotaledOf from t sessions = (map session_read sessions ≡ t.sessions)
    × (map session_total sessions ≡ totals_after from t)

-- ---- the steps

abbrev pub counts_read : List CountValue → List CountRow
counts_read counts = map count_read counts

abbrev pub totals_read : List Total → List TotalRow
totals_read totals = map ends_row totals

-- the rows of the tables that are copied
abbrev pub with_copied : OldSchema → Contents → Contents
with_copied from t = record t
    { vouchers = []; counts = []; sessions = []; totals = []; requests = requests_after from t }

-- the rows with these vouchers inserted, each with its count
abbrev pub with_whole_vouchers : List WholeVoucher → Contents → Contents
with_whole_vouchers ws t = record t {
  vouchers = t.vouchers ++ map (λ w. w.row) ws;
  counts = t.counts ++ map count_of ws;
}

-- the rows with these sessions inserted, each with its total at its place by number
abbrev pub with_whole_sessions : List WholeSession → Contents → Contents
with_whole_sessions ws t = record t {
  sessions = fold (λ rows w. put_by (λ (x : SessionRow). x.number) w rows) t.sessions (map (λ w. w.row) ws);
  totals = fold (λ rows m. put_by (λ (x : TotalRow). x.number) m rows) t.totals (map total_of ws);
}

-- the rows with both inserted
abbrev pub with_whole : List VoucherValue → List SessionValue → Contents → Contents
with_whole vouchers sessions t = with_whole_sessions (map whole_session_read sessions)
    (with_whole_vouchers (map whole_voucher_read vouchers) t)

-- the rows with the tables made anew and filled, in this schema version
abbrev pub after_migration : OldSchema → List VoucherValue → List SessionValue → Contents → Contents
after_migration from vouchers sessions t =
    with_schema_version this_schema_version (with_whole vouchers sessions (with_copied from t))

-- Inside a transaction, the tables of the schema version were made anew with the rows that were read of them,
-- changed by f, and the other tables kept. Nothing is committed.
pub record Rebuilds (from : OldSchema) (read : List WholeTable) (f : Contents → Contents)
    (old new : State) : Type 0 where
  pub holds : (t : Contents) → HoldsIn (version_number from) [] old.now t
      → AreRead read (copied_tables from) t → Holds new.now (f t)
  pub others : (t : Contents) → HoldsIn (version_number from) [] old.now t
      → AreRead read (copied_tables from) t → KeepsOthers old.now new.now
  pub committed : new.committed ≡ old.committed
  pub mode : new.in_transaction ≡ true

-- ---- one transaction

-- The rows that Ready allows were changed by f and the schema version to this one, and the other tables kept.
-- It is committed, and the connection is outside a transaction.
pub record CommitsFrom (from : OldSchema) (Ready : State → Contents → Type 0) (f : Contents → Contents)
    (old new : State) : Type 0 where
  pub holds : (t : Contents) → HoldsIn (version_number from) [] old.now t → Ready old t → Holds new.now (f t)
  pub others : (t : Contents) → HoldsIn (version_number from) [] old.now t → Ready old t
      → KeepsOthers old.now new.now
  pub committed : new.committed ≡ new.now
  pub ended : new.in_transaction ≡ false
  pub is_open : IsTrue new.is_open

-- the names are free, and just these tables were read
abbrev pub IsReadFree : OldSchema → List WholeTable → State → Contents → Type 0
IsReadFree from read old t = AreNamesFree old.now.schema × AreRead read (copied_tables from) t

-- the crash states that are added: the rows changed by f, with the other tables
abbrev pub MayCommitFrom : OldSchema → (State → Contents → Type 0) → (Contents → Contents) → State → Trees
    → Type 0
MayCommitFrom from Ready f old trees = (t : Contents) → HoldsIn (version_number from) [] old.now t
    → Ready old t → CrashStateHoldsRows trees (f t) × CrashStateHasOthers old.now trees
