-- The result of each SELECT of a whole table, by the rows that the tables hold.
use Rattle.portal_tables_rows.proofs.Common.{◌≡◌, ℕ, ◌≤◌, List, [], map, ◌∙◌, arith, lit≤, Row, Schema}
use Rattle.portal_tables_rows.proofs.Common.{Database, State, Shown, understood, IsSimple, means_simple}
use Rattle.portal_tables_rows.proofs.Common.{TableExists, Contents, plan_cells, batch_cells, voucher_cells}
use Rattle.portal_tables_rows.proofs.Common.{session_cells, grant_cells, count_cells, total_cells, HoldsFirst}
use Rattle.portal_tables_rows.proofs.Common.{HasFirst, HoldsApart, HasApart, HoldsBare, HasBare, TablePlace}
use Rattle.portal_tables_rows.proofs.Common.{TablePlaces, TablesExist, HoldsTables, Holds, HasTables}
use Rattle.portal_tables_rows.proofs.Common.{this_schema_version, whole_voucher_cells, whole_session_cells}
use Rattle.portal_tables_rows.proofs.Common.{Layout, Together}
use Rattle.portal_tables_rows.specs.Copying.{cells_of}
use Rattle.portal_tables_rows.specs.Holds.{StoresIn}
use Rattle.portal_tables_rows.proofs.Cells.{heads_in, plans_in, batches_in, vouchers_in, sessions_in}
use Rattle.portal_tables_rows.proofs.Cells.{grants_in, counts_in, totals_in, requests_in, old_vouchers_in}
use Rattle.portal_tables_rows.proofs.Cells.{old_sessions_in}
use Rattle.portal_tables_sql.proofs.RequestTexts.{request_columns}
use Rattle.portal_tables_sql.proofs.SelectTexts.{batch_columns, head_columns, plan_columns}
use Rattle.portal_tables_sql.proofs.SelectTexts.{session_columns, voucher_columns}
use Rattle.portal_tables_sql.proofs.WholeTables.{whole_table}
use Rattle.portal_tables_sql.proofs.WholeTexts as texts
use Rattle.portal_tables_sql.proofs.TableLemmas.{always}
use Rattle.portal_tables_sql.specs.Causes.{IsTaken}
use Rattle.portal_tables_sql.specs.Copies.{select_of, table_copied}
use Rattle.portal_tables_sql.specs.Indexes.{our_indexes}
use Rattle.portal_tables_sql.specs.Tables.{IsLaidOut, is_for_counters, since, table_in, keeps_clauses}
use Rattle.portal_tables_sql.specs.Tables.{vouchers, sessions}
use Rattle.portal_tables_sql.specs.Tables.{vouchers_in as old_vouchers, sessions_in as old_sessions}
use Rattle.portal_tables_sql.specs.Tables.{counts_in as old_counts, totals_in as old_totals}
use Rattle.portal_tables_sql.specs.declared.copied_tables.CopiedTable.{CopiedTable}
use Rattle.portal_tables_sql.specs.declared.copied_tables.CopiedTable.TheVariants as copied
use Rattle.portal_tables_sql.specs.declared.our_indexes.OurIndex.{OurIndex}
use Rattle.portal_tables_sql.specs.declared.our_tables.OurTable.TheVariants as our

-- ---- a schema version has the tables of the versions before it

earlier : (a b c : ℕ) → a ≤ b → b ≤ c → a ≤ c
earlier a b c p q = omega arith

earlier_stand : (layout : Layout) (v w : ℕ) (indexes : List OurIndex) (schema : Schema) (places : TablePlaces)
    → w ≤ v → TablesExist layout v indexes schema places → TablesExist layout w [] schema places
earlier_stand layout v w indexes schema places low s = record {
  tables = λ x on. s.tables x (earlier (since x) w v on.0 low, on.1);
  indexed = λ x on. absurd on;
}

pub earlier_held : (layout : Layout) (v w : ℕ) (indexes : List OurIndex) (db : Database) (t : Contents)
    → w ≤ v → HoldsTables layout v indexes db t → HoldsTables layout w [] db t
earlier_held layout v w indexes db t low h = record {
  places = h.places;
  tables_exist = earlier_stand layout v w indexes db.schema h.places low h.tables_exist;
  store = λ x on. h.store x (earlier (since x) w v on.0 low, on.1);
  sound = h.sound;
}

pub first_held : (db : Database) (t : Contents) → Holds db t → HoldsFirst db t
first_held db t h = (Together, earlier_held Together this_schema_version 1 our_indexes db t (lit≤ tt) h)

pub first_there : (schema : Schema) → HasTables schema → HasFirst schema
first_there schema h =
    (Together, (h.0, earlier_stand Together this_schema_version 1 our_indexes schema h.0 (lit≤ tt) h.1))

pub bare_held : (db : Database) (t : Contents) → Holds db t → HoldsBare db t
bare_held db t h = earlier_held Together this_schema_version this_schema_version our_indexes db t (lit≤ tt) h

pub bare_there : (schema : Schema) → HasTables schema → HasBare schema
bare_there schema h = (
  h.0,
  earlier_stand Together this_schema_version this_schema_version our_indexes schema h.0 (lit≤ tt) h.1,
)

-- each layout has the tables that are copied
pub laid_out : (x : CopiedTable) (layout : Layout) → IsLaidOut (is_for_counters (table_copied x)) layout
laid_out copied.Head layout = tt
laid_out copied.Plans layout = tt
laid_out copied.Batches layout = tt
laid_out copied.Grants layout = tt
laid_out copied.Requests layout = tt

-- ---- each text of a table that is copied, wherever the table is

pub whole_simple : (x : CopiedTable) (schema : Schema) (layout : Layout) (place : TablePlace)
    → TableExists schema place.at (table_in layout (table_copied x) place.tree)
    → IsSimple (understood schema (select_of x))
whole_simple copied.Head schema layout place exists = means_simple schema (select_of copied.Head) _ _
    (texts.all_heads_means schema (keeps_clauses layout) place.at place.tree exists)
whole_simple copied.Plans schema layout place exists = means_simple schema (select_of copied.Plans) _ _
    (texts.all_plans_means schema (keeps_clauses layout) place.at place.tree exists)
whole_simple copied.Batches schema layout place exists = means_simple schema (select_of copied.Batches) _ _
    (texts.all_batches_means schema (keeps_clauses layout) place.at place.tree exists)
whole_simple copied.Grants schema layout place exists = means_simple schema (select_of copied.Grants) _ _
    (texts.all_grants_means schema (keeps_clauses layout) place.at place.tree exists)
whole_simple copied.Requests schema layout place exists = means_simple schema (select_of copied.Requests) _ _
    (texts.all_requests_means schema (keeps_clauses layout) place.at place.tree exists)

-- where a table exists and stores rows, the text shows their columns
pub whole_rows : (x : CopiedTable) (layout : Layout) (old new : State) (rows : List Row)
    → Shown (select_of x) [] old new rows → (place : TablePlace)
    → TableExists old.now.schema place.at (table_in layout (table_copied x) place.tree) → (t : Contents)
    → StoresIn layout (table_copied x) (old.now.trees place.tree) t → rows ≡ cells_of x t
whole_rows copied.Head layout old new rows shown place exists t stored =
    whole_table (select_of copied.Head) (table_in layout our.Head place.tree) head_columns old new
    (texts.all_heads_means old.now.schema (keeps_clauses layout) place.at place.tree exists) stored.are.rise
    rows shown
    ∙ heads_in old.now.trees place.tree t.heads stored
whole_rows copied.Plans layout old new rows shown place exists t stored =
    whole_table (select_of copied.Plans) (table_in layout our.Plans place.tree) plan_columns old new
    (texts.all_plans_means old.now.schema (keeps_clauses layout) place.at place.tree exists) stored.are.rise
    rows shown
    ∙ plans_in old.now.trees place.tree t.plans stored
whole_rows copied.Batches layout old new rows shown place exists t stored =
    whole_table (select_of copied.Batches) (table_in layout our.Batches place.tree) batch_columns old new
    (texts.all_batches_means old.now.schema (keeps_clauses layout) place.at place.tree exists) stored.are.rise
    rows shown
    ∙ batches_in old.now.trees place.tree t.batches stored
whole_rows copied.Grants layout old new rows shown place exists t stored =
    whole_table (select_of copied.Grants) (table_in layout our.Grants place.tree) texts.all_grants_columns old
    new
    (texts.all_grants_means old.now.schema (keeps_clauses layout) place.at place.tree exists) stored.are.rise
    rows shown
    ∙ grants_in old.now.trees place.tree t.grants stored
whole_rows copied.Requests layout old new rows shown place exists t stored =
    whole_table (select_of copied.Requests) (table_in layout our.Requests place.tree) request_columns old new
    (texts.all_requests_means old.now.schema (keeps_clauses layout) place.at place.tree exists)
    stored.are.rise
    rows shown
    ∙ requests_in old.now.trees place.tree t.requests stored

-- ---- those that are read as values

pub all_plans_simple : (schema : Schema) → HasFirst schema → IsSimple (understood schema texts.all_plans_text)
all_plans_simple schema h =
    whole_simple copied.Plans schema h.0 (h.1.0 our.Plans) (h.1.1.tables our.Plans (always _, tt)).exists

pub all_plans_are : (old new : State) (rows : List Row) → Shown texts.all_plans_text [] old new rows
    → (t : Contents) → HoldsFirst old.now t → rows ≡ map plan_cells t.plans
all_plans_are old new rows shown t h =
    whole_rows copied.Plans h.0 old new rows shown (h.1.places our.Plans)
    (h.1.tables_exist.tables our.Plans (always _, tt)).exists t (h.1.store our.Plans (always _, tt))

pub all_batches_taken : (schema : Schema) → HasTables schema → IsTaken texts.all_batches_text [] schema
all_batches_taken schema h = let place = (h.0 our.Batches) in
    texts.all_batches_taken schema (keeps_clauses Together) place.at place.tree
    (h.1.tables our.Batches (always _, tt)).exists

pub all_batches_are : (old new : State) (rows : List Row) → Shown texts.all_batches_text [] old new rows
    → (t : Contents) → Holds old.now t → rows ≡ map batch_cells t.batches
all_batches_are old new rows shown t h =
    whole_rows copied.Batches Together old new rows shown (h.places our.Batches)
    (h.tables_exist.tables our.Batches (always _, tt)).exists t (h.store our.Batches (always _, tt))

pub all_grants_simple : (schema : Schema) → HasFirst schema →
    IsSimple (understood schema texts.all_grants_text)
all_grants_simple schema h =
    whole_simple copied.Grants schema h.0 (h.1.0 our.Grants) (h.1.1.tables our.Grants (always _, tt)).exists

pub all_grants_are : (old new : State) (rows : List Row) → Shown texts.all_grants_text [] old new rows
    → (t : Contents) → HoldsFirst old.now t → rows ≡ map grant_cells t.grants
all_grants_are old new rows shown t h =
    whole_rows copied.Grants h.0 old new rows shown (h.1.places our.Grants)
    (h.1.tables_exist.tables our.Grants (always _, tt)).exists t (h.1.store our.Grants (always _, tt))

-- ---- the vouchers and the sessions, with their counters

pub all_vouchers_simple : (schema : Schema) → HasBare schema →
    IsSimple (understood schema texts.all_vouchers_text)
all_vouchers_simple schema h = let place = h.0 our.Vouchers in
    means_simple schema texts.all_vouchers_text _ _
    (texts.all_vouchers_means schema place.at place.tree (h.1.tables our.Vouchers (always _, tt)).exists)

pub all_vouchers_are : (old new : State) (rows : List Row) → Shown texts.all_vouchers_text [] old new rows
    → (t : Contents) (h : HoldsBare old.now t)
    → rows ≡ map whole_voucher_cells (h.store our.Vouchers (always _, tt)).whole
all_vouchers_are old new rows shown t h =
    let place = h.places our.Vouchers in
    let was = h.store our.Vouchers (always _, tt) in
    whole_table texts.all_vouchers_text (vouchers place.tree) voucher_columns old new
    (texts.all_vouchers_means old.now.schema place.at place.tree
    (h.tables_exist.tables our.Vouchers (always _, tt)).exists) was.stored.are.rise rows shown
    ∙ vouchers_in old.now.trees place.tree was.whole was.stored

pub all_sessions_simple : (schema : Schema) → HasBare schema →
    IsSimple (understood schema texts.all_sessions_text)
all_sessions_simple schema h = let place = h.0 our.Sessions in
    means_simple schema texts.all_sessions_text _ _
    (texts.all_sessions_means schema place.at place.tree (h.1.tables our.Sessions (always _, tt)).exists)

pub all_sessions_are : (old new : State) (rows : List Row) → Shown texts.all_sessions_text [] old new rows
    → (t : Contents) (h : HoldsBare old.now t)
    → rows ≡ map whole_session_cells (h.store our.Sessions (always _, tt)).whole
all_sessions_are old new rows shown t h =
    let place = h.places our.Sessions in
    let was = h.store our.Sessions (always _, tt) in
    whole_table texts.all_sessions_text (sessions place.tree) session_columns old new
    (texts.all_sessions_means old.now.schema place.at place.tree
    (h.tables_exist.tables our.Sessions (always _, tt)).exists) was.stored.are.rise rows shown
    ∙ sessions_in old.now.trees place.tree was.whole was.stored

-- ---- those of schema versions that keep their counters apart, and these

pub old_vouchers_simple : (schema : Schema) → HasApart 1 schema →
    IsSimple (understood schema texts.old_vouchers_text)
old_vouchers_simple schema h = let place = h.1.0 our.Vouchers in
    means_simple schema texts.old_vouchers_text _ _
    (texts.old_vouchers_means schema h.0 place.at place.tree (h.1.1.tables our.Vouchers
    (always _, tt)).exists)

pub old_vouchers_are : (old new : State) (rows : List Row) → Shown texts.old_vouchers_text [] old new rows
    → (t : Contents) → HoldsApart 1 old.now t → rows ≡ map voucher_cells t.vouchers
old_vouchers_are old new rows shown t h =
    let place = h.1.places our.Vouchers in
    let stored = h.1.store our.Vouchers (always _, tt) in
    whole_table texts.old_vouchers_text (old_vouchers h.0 place.tree) texts.old_voucher_columns old new
    (texts.old_vouchers_means old.now.schema h.0 place.at place.tree
    (h.1.tables_exist.tables our.Vouchers (always _, tt)).exists) stored.are.rise rows shown
    ∙ old_vouchers_in h.0 old.now.trees place.tree t.vouchers stored

pub old_sessions_simple : (schema : Schema) → HasApart 1 schema →
    IsSimple (understood schema texts.old_sessions_text)
old_sessions_simple schema h = let place = h.1.0 our.Sessions in
    means_simple schema texts.old_sessions_text _ _
    (texts.old_sessions_means schema h.0 place.at place.tree (h.1.1.tables our.Sessions
    (always _, tt)).exists)

pub old_sessions_are : (old new : State) (rows : List Row) → Shown texts.old_sessions_text [] old new rows
    → (t : Contents) → HoldsApart 1 old.now t → rows ≡ map session_cells t.sessions
old_sessions_are old new rows shown t h =
    let place = h.1.places our.Sessions in
    let stored = h.1.store our.Sessions (always _, tt) in
    whole_table texts.old_sessions_text (old_sessions h.0 place.tree) texts.old_session_columns old new
    (texts.old_sessions_means old.now.schema h.0 place.at place.tree
    (h.1.tables_exist.tables our.Sessions (always _, tt)).exists) stored.are.rise rows shown
    ∙ old_sessions_in h.0 old.now.trees place.tree t.sessions stored

pub old_counts_simple : (schema : Schema) → HasApart 2 schema →
    IsSimple (understood schema texts.old_counts_text)
old_counts_simple schema h = let place = h.1.0 our.Counts in
    means_simple schema texts.old_counts_text _ _
    (texts.old_counts_means schema h.0 place.at place.tree (h.1.1.tables our.Counts (lit≤ tt, tt)).exists)

pub old_counts_are : (old new : State) (rows : List Row) → Shown texts.old_counts_text [] old new rows
    → (t : Contents) → HoldsApart 2 old.now t → rows ≡ map count_cells t.counts
old_counts_are old new rows shown t h =
    let place = h.1.places our.Counts in
    let stored = h.1.store our.Counts (lit≤ tt, tt) in
    whole_table texts.old_counts_text (old_counts h.0 place.tree) texts.count_columns old new
    (texts.old_counts_means old.now.schema h.0 place.at place.tree
    (h.1.tables_exist.tables our.Counts (lit≤ tt, tt)).exists) stored.are.rise rows shown
    ∙ counts_in old.now.trees place.tree t.counts stored

pub old_totals_simple : (schema : Schema) → HasApart 2 schema →
    IsSimple (understood schema texts.old_totals_text)
old_totals_simple schema h = let place = h.1.0 our.Totals in
    means_simple schema texts.old_totals_text _ _
    (texts.old_totals_means schema h.0 place.at place.tree (h.1.1.tables our.Totals (lit≤ tt, tt)).exists)

pub old_totals_are : (old new : State) (rows : List Row) → Shown texts.old_totals_text [] old new rows
    → (t : Contents) → HoldsApart 2 old.now t → rows ≡ map total_cells t.totals
old_totals_are old new rows shown t h =
    let place = h.1.places our.Totals in
    let stored = h.1.store our.Totals (lit≤ tt, tt) in
    whole_table texts.old_totals_text (old_totals h.0 place.tree) texts.total_columns old new
    (texts.old_totals_means old.now.schema h.0 place.at place.tree
    (h.1.tables_exist.tables our.Totals (lit≤ tt, tt)).exists) stored.are.rise rows shown
    ∙ totals_in old.now.trees place.tree t.totals stored
