-- The result of each SELECT with a LIMIT, and of that of one redemption, by the rows that the tables hold.
use Rattle.portal_tables_rows.proofs.Common.{◌≡◌, ◌<◌, ℕ, List, [], ◌∷◌, ◌++◌, Bool, map, filter, length}
use Rattle.portal_tables_rows.proofs.Common.{take}
use Rattle.portal_tables_rows.proofs.Common.{true, false, ◌&&◌, ◌||◌, refl, sym, ap, ap₂, subst, ◌∙◌, lit<}
use Rattle.portal_tables_rows.proofs.Common.{bytes_eq, nat_le, nat_cmp, is_ge, is_le, Equal, IsPermutation}
use Rattle.portal_tables_rows.proofs.Common.{Some, arith}
use Rattle.portal_tables_rows.proofs.Common.{Ordering, Key, then-Equal, value_cmp-Text, Text, Row, column}
use Rattle.portal_tables_rows.proofs.Common.{value_cmp, Schema, Table, Term, State, Shown}
use Rattle.portal_tables_rows.proofs.Common.{key_tests, number, has_key, by_column, fields}
use Rattle.portal_tables_rows.proofs.Common.{IsSelection, text_test, first_selected, selected}
use Rattle.portal_tables_rows.proofs.Common.{field_at, orders_by, orders_down, by, passes, keys_of}
use Rattle.portal_tables_rows.proofs.Common.{vouchers, batches, Contents, WholeVoucher, whole_voucher_cells}
use Rattle.portal_tables_rows.proofs.Common.{batch_cells, Holds, HasTables, ListsAs, Ge, Le, Binary}
use Rattle.portal_tables_rows.proofs.Cells.{vouchers_in, batches_in, grants_in}
use Rattle.portal_tables_rows.proofs.Listing.{number_order, cells_listed}
use Rattle.portal_tables_rows.specs.Contents.{grant_cells}
use Rattle.portal_tables_rows.specs.Lists.{is_between, is_behind, by_code, by_newest}
use Rattle.portal_tables_sql.specs.Causes.{IsTaken}
use Rattle.portal_tables_sql.proofs.PageTexts as texts
use Rattle.portal_tables_sql.proofs.SelectTexts.{voucher_columns, batch_columns}
use Rattle.portal_tables_sql.proofs.TableLemmas.{always}
use Rattle.portal_tables_sql.specs.Tables.{grants}
use Rattle.portal_tables_sql.specs.declared.our_tables.OurTable.TheVariants as our
use Rattle.portal_model.specs.Batches.{by_issue}
use Rattle.portal_model.specs.Rows.{GrantRow}
use Rattle.portal_model.specs.declared.record.Batch.{Batch}
use Rattle.std.specs.Ordering.{ordering_then, is_lt}
use Rattle.std.specs.Prelude.{nat_lt}
use Rattle.std.proofs.lemmas.Bool.Decides.{nat_tests}
use Rattle.sqlite.specs.Query.{key_cmp}
use Rattle.sqlite.specs.Ops.{binary, is_true, from_truth}
use Rattle.sqlite.specs.declared.types.Value.{Value}
use Rattle.sqlite_sql.specs.declared.ops.BinaryOp.TheVariants as by_op
use Rattle.sqlite_sql.specs.declared.ops.CompareOp.TheVariants.{Lt}

-- ---- comparisons as tests

truth_back : (b : Bool) → is_true (from_truth (Some b)) ≡ b
truth_back true = refl
truth_back false = refl

and_true : (b : Bool) → (b && true) ≡ b
and_true true = refl
and_true false = refl

pub or_back : (a b : Bool) → is_true (binary by_op.Or (from_truth (Some a)) (from_truth (Some b))) ≡ (a || b)
unfolding binary
or_back true true = refl
or_back true false = refl
or_back false true = refl
or_back false false = refl

below : (a b : ℕ) → is_lt (nat_cmp a b) ≡ nat_lt a b
below a b = grind (arith, nat_tests)

at_most : (a b : ℕ) → is_le (nat_cmp a b) ≡ nat_le a b
at_most a b = grind (arith, nat_tests)

-- WHERE column >= ?1 AND column < ?2
abbrev sql_between : Value → Value → Value → Bool
sql_between v low high = is_true (binary (by_op.Compare Ge Binary) v low)
    && (is_true (binary (by_op.Compare Lt Binary) v high) && true)

between_is : (text low high : List ℕ)
    → sql_between (Text text) (Text low) (Text high) ≡ is_between low high text
unfolding binary
between_is text low high =
    ap₂ ◌&&◌ (truth_back _ ∙ ap is_ge (value_cmp-Text text low))
    (and_true _ ∙ truth_back _ ∙ ap is_lt (value_cmp-Text text high))

-- WHERE issued <= ?1 AND (issued < ?1 OR id < ?2)
abbrev sql_behind : Value → Value → Value → Value → Bool
sql_behind issued id at least = is_true (binary (by_op.Compare Le Binary) issued at)
    && (is_true (binary by_op.Or (binary (by_op.Compare Lt Binary) issued at)
    (binary (by_op.Compare Lt Binary) id least)) && true)

behind_is : (b : Batch) (at : ℕ) (id : List ℕ)
    → sql_behind (number b.issued) (Text b.id) (number at) (Text id) ≡ is_behind at id b
unfolding binary
behind_is b at id =
    ap₂ ◌&&◌ (truth_back _ ∙ ap is_le (number_order b.issued at) ∙ at_most b.issued at)
    (and_true _ ∙ or_back _ _ ∙ ap₂ ◌||◌ (ap is_lt (number_order b.issued at) ∙ below b.issued at)
    (ap is_lt (value_cmp-Text b.id id)))

-- ---- vouchers by their codes

between_tests : (table : Table) (low high : List ℕ) → 0 < length table.columns
    → (r : Row) → passes (texts.between_terms table) (Text low ∷ Text high ∷ []) r
    ≡ sql_between (column (fields table r) 0) (Text low) (Text high)
between_tests table low high within r =
    ap (λ v. sql_between v (Text low) (Text high)) (sym (field_at table 0 r within))

pub between_rows_are : (old new : State) (low high : List ℕ) (rows : List Row)
    → Shown texts.between_text (Text low ∷ Text high ∷ []) old new rows → (t : Contents)
    (h : Holds old.now t) → (all : List Row)
    × ListsAs whole_voucher_cells (λ w. is_between low high w.row.code) (λ a b. by_code a.row b.row)
    (h.store our.Vouchers (always _, tt)).whole all × (rows ≡ take 51 all)
between_rows_are old new low high rows shown t h =
    let place = (h.places our.Vouchers) in
    let table = vouchers place.tree in
    let test : Row → Bool = λ r. sql_between (column r 0) (Text low) (Text high) in
    let params = Text low ∷ Text high ∷ [] in
    let it = first_selected texts.between_text table (texts.between_terms table) _ params old new
    voucher_columns test (between_tests table low high (lit< tt)) (by_column 0)
    (orders_by table 0 params (lit< tt)) 51 (texts.between_means old.now.schema place.at place.tree
    (h.tables_exist.tables our.Vouchers (always _, tt)).exists) rows shown in
    let all = subst (λ xs. IsSelection test (by_column 0) xs it.0)
    (vouchers_in old.now.trees place.tree _ (h.store our.Vouchers (always _, tt)).stored) it.1 in (
      it.0,
      cells_listed whole_voucher_cells (λ (w : WholeVoucher). is_between low high w.row.code)
          (λ a b. by_code a.row b.row) (h.store our.Vouchers (always _, tt)).whole test (by_column 0)
          (λ w. between_is w.row.code low high) (λ a b. value_cmp-Text a.row.code b.row.code) it.0 all,
      it.2,
    )

pub between_taken : (low : List ℕ) (high : List ℕ) → (schema : Schema) → HasTables schema
    → IsTaken texts.between_text (Text low ∷ Text high ∷ []) schema
between_taken low high schema h = let place = (h.0 our.Vouchers) in
    texts.between_taken schema place.at place.tree (h.1.tables our.Vouchers (always _, tt)).exists low high

-- ---- batches behind a place in their list

behind_tests : (table : Table) (at : ℕ) (id : List ℕ) → 2 < length table.columns
    → (r : Row) → passes (texts.behind_terms table) (number at ∷ Text id ∷ []) r
    ≡ sql_behind (column (fields table r) 2) (column (fields table r) 0) (number at) (Text id)
behind_tests table at id within r =
    ap₂ (λ u v. sql_behind u v (number at) (Text id)) (sym (field_at table 2 r within))
    (sym (field_at table 0 r (omega arith)))

-- ORDER BY two columns DESC
abbrev down_columns : ℕ → ℕ → Row → Row → Ordering
down_columns first second a b = ordering_then (by_column first b a) (by_column second b a)

orders_down_two : (table : Table) (first second : ℕ) (params : Row) → first < length table.columns
    → second < length table.columns → (a b : Row)
    → key_cmp 0 (map (λ (k : Term × Key). k.1) (by table first true ++ by table second true))
    (keys_of (by table first true ++ by table second true) params a)
    (keys_of (by table first true ++ by table second true) params b)
    ≡ down_columns first second (fields table a) (fields table b)
orders_down_two table first second params in_first in_second a b =
    ap₂ ordering_then
    (ap₂ value_cmp (sym (field_at table first b in_first)) (sym (field_at table first a in_first)))
    (then-Equal _ ∙ ap₂ value_cmp (sym (field_at table second b in_second))
    (sym (field_at table second a in_second)))

pub behind_rows_are : (old new : State) (at : ℕ) (id : List ℕ) (rows : List Row)
    → Shown texts.behind_text (number at ∷ Text id ∷ []) old new rows → (t : Contents) → Holds old.now t
    → (all : List Row) × ListsAs batch_cells (is_behind at id) by_issue t.batches all
    × (rows ≡ take 21 all)
behind_rows_are old new at id rows shown t h =
    let place = (h.places our.Batches) in
    let table = batches place.tree in
    let test : Row → Bool = λ r. sql_behind (column r 2) (column r 0) (number at) (Text id) in
    let params = number at ∷ Text id ∷ [] in
    let it = first_selected texts.behind_text table (texts.behind_terms table) _ params old new
    batch_columns test (behind_tests table at id (lit< tt)) (down_columns 2 0)
    (orders_down_two table 2 0 params (lit< tt) (lit< tt)) 21 (texts.behind_means old.now.schema place.at
    place.tree (h.tables_exist.tables our.Batches (always _, tt)).exists) rows shown in
    let all = subst (λ xs. IsSelection test (down_columns 2 0) xs it.0)
    (batches_in old.now.trees place.tree t.batches (h.store our.Batches (always _, tt))) it.1 in (
      it.0,
      cells_listed batch_cells (is_behind at id) by_issue t.batches test (down_columns 2 0)
          (λ b. behind_is b at id) (λ a b. ap₂ ordering_then (number_order b.issued a.issued)
          (value_cmp-Text b.id a.id)) it.0 all,
      it.2,
    )

pub behind_taken : (moment : ℕ) (id : List ℕ) → (schema : Schema) → HasTables schema
    → IsTaken texts.behind_text (number moment ∷ Text id ∷ []) schema
behind_taken moment id schema h = let place = (h.0 our.Batches) in
    texts.behind_taken schema place.at place.tree (h.1.tables our.Batches (always _, tt)).exists moment id

-- ---- redemptions

pub grant_taken : (key : ℕ) → (schema : Schema) → HasTables schema
    → IsTaken texts.grant_text (number key ∷ []) schema
grant_taken key schema h = let place = (h.0 our.Grants) in
    texts.grant_taken schema place.at place.tree (h.1.tables our.Grants (always _, tt)).exists key

pub grant_rows_are : (old new : State) (id : ℕ) (rows : List Row)
    → Shown texts.grant_text (number id ∷ []) old new rows → (t : Contents) → Holds old.now t
    → IsPermutation (filter (has_key 0 (number id)) (map grant_cells t.grants)) rows
grant_rows_are old new id rows shown t h =
    let place = (h.places our.Grants) in
    let table = grants place.tree in
    let it = selected texts.grant_text table _ [] (number id ∷ []) old new texts.grant_columns
    (has_key 0 (number id)) (key_tests table 0 (number id) [] (lit< tt) refl) (λ _ _. Equal) (λ _ _. refl)
    (texts.grant_means old.now.schema place.at place.tree
    (h.tables_exist.tables our.Grants (always _, tt)).exists) rows shown in
    subst (λ xs. IsPermutation (filter (has_key 0 (number id)) xs) rows)
    (grants_in old.now.trees place.tree t.grants (h.store our.Grants (always _, tt))) it.same

pub last_grants_rows_are : (old new : State) (code : List ℕ) (rows : List Row)
    → Shown texts.last_grants_text (Text code ∷ []) old new rows → (t : Contents) → Holds old.now t
    → (all : List Row) × ListsAs grant_cells (λ g. bytes_eq code g.code) by_newest t.grants all
    × (rows ≡ take 101 all)
last_grants_rows_are old new code rows shown t h =
    let place = (h.places our.Grants) in
    let table = grants place.tree in
    let down : Row → Row → Ordering = λ a b. by_column 0 b a in
    let it = first_selected texts.last_grants_text table _ _ (Text code ∷ []) old new texts.grant_columns
    (has_key 1 (Text code)) (key_tests table 1 (Text code) [] (lit< tt) refl) down
    (orders_down table 0 (Text code ∷ []) (lit< tt)) 101 (texts.last_grants_means old.now.schema place.at
    place.tree (h.tables_exist.tables our.Grants (always _, tt)).exists) rows shown in
    let all = subst (λ xs. IsSelection (has_key 1 (Text code)) down xs it.0)
    (grants_in old.now.trees place.tree t.grants (h.store our.Grants (always _, tt))) it.1 in (
      it.0,
      cells_listed grant_cells (λ (g : GrantRow). bytes_eq code g.code) by_newest t.grants
          (has_key 1 (Text code)) down (λ g. text_test g.code code)
          (λ a b. number_order b.number a.number) it.0 all,
      it.2,
    )

pub last_grants_taken : (code : List ℕ) → (schema : Schema) → HasTables schema
    → IsTaken texts.last_grants_text (Text code ∷ []) schema
last_grants_taken code schema h = let place = (h.0 our.Grants) in
    texts.last_grants_taken schema place.at place.tree (h.1.tables our.Grants (always _, tt)).exists code
