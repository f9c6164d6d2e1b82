-- The result of the SELECT of the open sessions, by the rows that the tables hold.
use Rattle.portal_tables_rows.proofs.Common.{◌≡◌, ◌<◌, ℕ, ℤ, pos, List, [], ◌∷◌, Bool, true, false, ◌&&◌}
use Rattle.portal_tables_rows.proofs.Common.{nat_lt, map, filter, length, Option, Some, None, refl}
use Rattle.portal_tables_rows.proofs.Common.{sym, ap, ap₂, ◌∙◌, arith, lit<, ints, nat_tests, Null, Int, Row}
use Rattle.portal_tables_rows.proofs.Common.{Value, column, value_cmp, value_cmp-Int, value_cmp-apart}
use Rattle.portal_tables_rows.proofs.Common.{value_cmp-Null, Schema, Table, State, Shown, Binary}
use Rattle.portal_tables_rows.proofs.Common.{filter-map, number, or_null, fields}
use Rattle.portal_tables_rows.proofs.Common.{field_at, passes, all_columns, sessions, Contents}
use Rattle.portal_tables_rows.proofs.Common.{signed_or_null, Holds, HasTables, WholeSession}
use Rattle.portal_tables_rows.proofs.Common.{whole_session_cells, is_open_row, AreOwn, IsOwnWholeSession}
use Rattle.portal_tables_rows.proofs.Common.{has_filtered}
use Rattle.portal_tables_rows.specs.Lists.{is_left}
use Rattle.portal_tables_rows.proofs.Cells.{sessions_in}
use Rattle.portal_tables_rows.proofs.Listing.{and_true, truth_back}
use Rattle.portal_tables_rows.proofs.PageReading.{or_back}
use Rattle.portal_tables_sql.specs.Causes.{IsTaken}
use Rattle.portal_tables_sql.proofs.ListTexts as texts
use Rattle.portal_tables_sql.proofs.SelectTexts.{session_columns}
use Rattle.portal_tables_sql.proofs.TableLemmas.{always}
use Rattle.portal_tables_sql.proofs.WholeTables.{some_columns}
use Rattle.portal_tables_sql.specs.declared.our_tables.OurTable.TheVariants as our
use Rattle.portal_model.specs.History.{is_below}
use Rattle.std.proofs.Common.{map-id}
use Rattle.std.specs.Ordering.{int_cmp, is_eq, is_gt}
use Rattle.std.specs.Prelude.{int_lt, is_none, ◌||◌}
use Rattle.sqlite.specs.Ops.{binary, is_true, from_truth}
use Rattle.sqlite_sql.specs.declared.ops.BinaryOp.TheVariants as by_op
use Rattle.sqlite_sql.specs.declared.ops.CompareOp.TheVariants.{Gt}

-- ---- the tests of WHERE

-- column IS NULL
abbrev sql_null : Value → Value
sql_null v = binary (by_op.Is Binary) v Null

-- column IS NULL OR column > bound
abbrev sql_null_or_above : Value → Value → Bool
sql_null_or_above v bound = is_true (binary by_op.Or (sql_null v) (binary (by_op.Compare Gt Binary) v bound))

abbrev sql_open : Value → Value → Value → Value → Bool
sql_open closed ends remaining at = is_true (sql_null closed)
    && (sql_null_or_above ends at && (sql_null_or_above remaining (Int (pos 0)) && true))

null_tie : is_eq (value_cmp Null Null) ≡ true
null_tie = ap is_eq (value_cmp-Null Null)

int_apart : (n : ℤ) → is_eq (value_cmp (Int n) Null) ≡ false
int_apart n = ap is_eq (value_cmp-apart (Int n) Null (λ e. cc))

null_is : (o : Option ℕ) → is_true (sql_null (or_null o)) ≡ is_none o
unfolding binary
null_is None = truth_back _ ∙ null_tie
null_is (Some at) = truth_back _ ∙ int_apart (pos at)

-- NULL passes, whatever the bound
null_passes : (bound : Value) → sql_null_or_above Null bound ≡ true
unfolding binary
null_passes bound = ap (λ b. is_true (binary by_op.Or (from_truth (Some b)) Null)) null_tie

int_passes : (n bound : ℤ) → sql_null_or_above (Int n) (Int bound) ≡ int_lt bound n
unfolding binary
int_passes n bound = or_back _ _
    ∙ ap₂ ◌||◌ (int_apart n) (ap is_gt (value_cmp-Int n bound) ∙ above n bound)
  where
    above : (a b : ℤ) → is_gt (int_cmp a b) ≡ int_lt b a
    above a b = grind (arith, ints, nat_tests)

below_is : (o : Option ℕ) (at : ℕ) → sql_null_or_above (or_null o) (number at) ≡ is_below at o
below_is None at = null_passes (number at)
below_is (Some ends) at = int_passes (pos ends) (pos at) ∙ natural at ends
  where
    natural : (a b : ℕ) → int_lt (pos a) (pos b) ≡ nat_lt a b
    natural a b = grind (arith, ints, nat_tests)

left_is : (o : Option ℤ) → sql_null_or_above (signed_or_null o) (Int (pos 0)) ≡ is_left o
left_is None = null_passes (Int (pos 0))
left_is (Some left) = int_passes left (pos 0)

-- a row passes if its session is open
abbrev row_passes : ℕ → Row → Bool
row_passes at r = sql_open (column r 5) (column r 6) (column r 7) (number at)

open_is : (at : ℕ) (w : WholeSession) → row_passes at (whole_session_cells w) ≡ is_open_row at w
open_is at w =
    ap₂ ◌&&◌ (null_is w.row.closed) (ap₂ ◌&&◌ (below_is w.ends at) (and_true _ ∙ left_is w.remaining))

open_tests : (table : Table) (at : ℕ) → 7 < length table.columns
    → (r : Row) → passes (texts.open_terms table) (number at ∷ []) r ≡ row_passes at (fields table r)
open_tests table at within r =
    ap₃ (λ u v w. sql_open u v w (number at)) (sym (field_at table 5 r (omega arith)))
    (sym (field_at table 6 r (omega arith))) (sym (field_at table 7 r within))
  where
    ap₃ : {A B C D : Type 0} (f : A → B → C → D) {a a' : A} {b b' : B} {c c' : C} → a ≡ a' → b ≡ b' → c ≡ c'
        → f a b c ≡ f a' b' c'
    ap₃ f p q r = λ i. f (p i) (q i) (r i)

-- ---- the rows

pub open_rows_are : (old new : State) (at : ℕ) (rows : List Row)
    → Shown texts.open_sessions_text (number at ∷ []) old new rows → (t : Contents) (h : Holds old.now t)
    → rows ≡ map whole_session_cells
    (filter (is_open_row at) (h.store our.Sessions (always _, tt)).whole)
open_rows_are old new at rows shown t h =
    let place = (h.places our.Sessions) in
    let table = sessions place.tree in
    let was = h.store our.Sessions (always _, tt) in
    some_columns texts.open_sessions_text table (texts.open_terms table) (all_columns table) (number at ∷ [])
    session_columns old new (row_passes at) (open_tests table at (lit< tt)) (λ r. r) (λ r. refl)
    (texts.open_sessions_means old.now.schema place.at place.tree (h.tables_exist.tables our.Sessions
    (always _, tt)).exists) was.stored.are.rise rows shown
    ∙ map-id _ ∙ ap (filter (row_passes at)) (sessions_in old.now.trees place.tree was.whole was.stored)
    ∙ filter-map (row_passes at) whole_session_cells was.whole
    ∙ (λ i. map whole_session_cells (filter (λ (w : WholeSession). open_is at w i) was.whole))

pub open_taken : (moment : ℕ) → (schema : Schema) → HasTables schema
    → IsTaken texts.open_sessions_text (number moment ∷ []) schema
open_taken moment schema h = let place = (h.0 our.Sessions) in
    texts.open_sessions_taken schema place.at place.tree (h.1.tables our.Sessions (always _, tt)).exists
    moment

-- of those that this product writes
pub own_open : (at : ℕ) (ws : List WholeSession) → AreOwn IsOwnWholeSession ws
    → AreOwn IsOwnWholeSession (filter (is_open_row at) ws)
own_open at ws own w has = own w (has_filtered (is_open_row at) ws w has).0
