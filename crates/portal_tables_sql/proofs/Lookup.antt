-- A query of all columns of one table.
use Rattle.portal_tables_sql.proofs.Common.{◌≡◌, ◌+◌, ◌<◌, ℕ, ℤ, pos, List, [], ◌∷◌, map, length, take, Bool}
use Rattle.portal_tables_sql.proofs.Common.{true, false, None, Ordering, refl, sym, ap, ap₂, subst, ◌∙◌}
use Rattle.portal_tables_sql.proofs.Common.{arith, cond, nat_le, zero-add, is_lt, is_eq, slice_get, unwrap_or}
use Rattle.portal_tables_sql.proofs.Common.{◌-◌, ◌^◌, range_with_len, IsSorted, get_or-map, length-map, Key}
use Rattle.portal_tables_sql.proofs.Common.{Null, column, Table, Schema, Trees, is_null, Term, col, lit, eval}
use Rattle.portal_tables_sql.proofs.Common.{Binary, then-Equal, overlay, Query, inner, end, IsAnswer, key_cmp}
use Rattle.portal_tables_sql.proofs.Common.{Select, place_of, Has, map-map, State, reads_as, has_key, rows_in}
use Rattle.portal_tables_sql.proofs.Common.{fields, IsSelection, by_column, columns}
use Rattle.std.proofs.lemmas.List.FromFn.{get_or-map-range_with_len}
use Rattle.sqlite_value.specs.declared.value.Value.{Value}
use Rattle.sqlite.specs.Order.{Row, value_cmp}
use Rattle.sqlite.specs.State.{Shown}
use Rattle.portal_tables_sql.proofs.Queries.{simple, equals, unlimited}
use Rattle.portal_tables_sql.proofs.Texts.{Means}
use Rattle.portal_tables_sql.proofs.Scan.{IsScan, env, passes, shown_of, keys_of, scan_all, scan_first}
use Rattle.portal_tables_sql.proofs.FindLemmas.{where_key, scan_rows, has_image}

abbrev pub all_columns : Table → List Term
all_columns table = map (λ at. col 1 (place_of table at)) (range_with_len 0 (length table.columns))

abbrev pub select_from : Table → List Term → List (Term × Key) → ℤ → Query
select_from table terms order limit = simple (inner table.tree end) terms (all_columns table) order limit

abbrev pub column_is : Table → ℕ → Term → Term
column_is table at term = equals (col 1 (place_of table at)) term

shows : (table : Table) (params r : Row) → shown_of (all_columns table) params r ≡ fields table r
shows table params r = map-map (λ t. eval t (env params r)) (λ at. col 1 (place_of table at))
    (range_with_len 0 (length table.columns))

pub field_at : (table : Table) (at : ℕ) (r : Row) → at < length table.columns
    → column (fields table r) at ≡ column r (place_of table at)
field_at table at r within = get_or-map-range_with_len (λ at. column r (place_of table at)) 0
    (length table.columns) at at Null within (zero-add at)

no_tables : (db : Trees) (t : ℕ) → overlay db [] t ≡ db t
no_tables db t =
    elim (nat_le (2 ^ 31) t) as (λ b. unwrap_or (cond b (slice_get [] (t - 2 ^ 31)) None) (db t) ≡ db t) [
      | true ↦ refl
      | false ↦ refl
    ]

sorted_to_map : {A B : Type 0} (f : A → B) (cmp : B → B → Ordering) (xs : List A)
    → IsSorted (λ a b. cmp (f a) (f b)) xs → IsSorted cmp (map f xs)
sorted_to_map f cmp [] h k d low within = absurd (omega arith)
sorted_to_map f cmp (x ∷ xs) h k d low within =
    let inside : k + 1 < length (x ∷ xs) = rw length-map at within in
    rw (get_or-map f (x ∷ xs) (k + 1) x d inside, get_or-map f (x ∷ xs) k x d (omega arith))
    (h k x low inside)

-- what the text means: all columns of the table, of the rows that pass
abbrev pub IsSelect : Schema → List ℕ → ℕ → Table → List Term → List (Term × Key) → ℤ → List (List ℕ) → Type 0
IsSelect schema sql count table terms order limit names =
    Means schema sql count (Select (record { lets = []; body = select_from table terms order limit }) names)

module _ (sql : List ℕ) (table : Table) (terms : List Term) (order : List (Term × Key)) (params : Row)
    (old new : State) (names : List (List ℕ))
    (p : Row → Bool) (tests : (r : Row) → passes terms params r ≡ p (fields table r))
    (cmp : Row → Row → Ordering) (orders : (a b : Row) → key_cmp 0 (map (λ (k : Term × Key). k.1) order)
    (keys_of order params a) (keys_of order params b) ≡ cmp (fields table a) (fields table b)) where
  abbrev IsScanOf : List Row → List Row → Type 0
  IsScanOf = IsScan (passes terms params) (shown_of (all_columns table) params) (keys_of order params)
      (map (λ (k : Term × Key). k.1) order)

  selection : (out : List Row) → IsScanOf (overlay old.now.trees [] table.tree) out
      → IsSelection p cmp (rows_in table old.now.trees) out
  selection out s =
      let s' : IsScan (passes terms params) (fields table) (keys_of order params)
      (map (λ (k : Term × Key). k.1) order) (old.now.trees table.tree) out =
      subst (λ f. IsScan (passes terms params) f (keys_of order params) (map (λ (k : Term × Key). k.1) order)
      (old.now.trees table.tree) out) (λ i r. shows table params r i)
      (subst (λ rows. IsScanOf rows out) (no_tables old.now.trees table.tree) s) in
      let sorted : IsSorted (λ a b. cmp (fields table a) (fields table b)) s'.ordered =
      λ k d low within. ap is_lt (sym (orders _ _)) ∙ s'.sorted k d low within in
      record {
        same = scan_rows (passes terms params) p (fields table) (keys_of order params) _
            (old.now.trees table.tree) out tests s';
        sorted = subst (IsSorted cmp) (sym s'.shown) (sorted_to_map (fields table) cmp s'.ordered sorted);
      }

  pub selected : {n : ℕ} → IsSelect old.now.schema sql n table terms order unlimited names → (rows : List Row)
      → Shown sql params old new rows → IsSelection p cmp (rows_in table old.now.trees) rows
  selected s rows h =
      let read = reads_as sql params old new old.now.schema refl _ s.is s.plain s.unlisted rows h in
      let a : IsAnswer (select_from table terms order unlimited) (overlay old.now.trees []) params rows =
      read.answer Null in
      selection rows
      (scan_all table.tree terms (all_columns table) order (overlay old.now.trees []) params rows a)

  -- with LIMIT
  pub first_selected : (count : ℕ) → {n : ℕ}
      → IsSelect old.now.schema sql n table terms order (pos count) names
      → (rows : List Row) → Shown sql params old new rows
      → (all : List Row) × IsSelection p cmp (rows_in table old.now.trees) all × (rows ≡ take count all)
  first_selected count s rows h =
      let read = reads_as sql params old new old.now.schema refl _ s.is s.plain s.unlisted rows h in
      let a : IsAnswer (select_from table terms order (pos count)) (overlay old.now.trees []) params rows =
      read.answer Null in
      let it =
      scan_first table.tree terms (all_columns table) order (overlay old.now.trees []) params count rows a in
      (it.0, selection it.0 it.1, it.2)

-- WHERE column = ?1
pub key_tests : (table : Table) (at : ℕ) (key : Value) (more : Row)
    → at < length table.columns → is_null key ≡ false → (r : Row)
    → passes (column_is table at (col 0 0) ∷ []) (key ∷ more) r ≡ has_key at key (fields table r)
key_tests table at key more within some r = where_key (column r (place_of table at)) key some
    ∙ ap (λ v. is_eq (value_cmp v key)) (sym (field_at table at r within))

-- WHERE column = a number or a text that is written out
pub literal_tests : (table : Table) (at : ℕ) (key : Value) (params : Row)
    → at < length table.columns → is_null key ≡ false → (r : Row)
    → passes (column_is table at (lit key) ∷ []) params r ≡ has_key at key (fields table r)
literal_tests table at key params within some r = where_key (column r (place_of table at)) key some
    ∙ ap (λ v. is_eq (value_cmp v key)) (sym (field_at table at r within))

abbrev pub by : Table → ℕ → Bool → List (Term × Key)
by table at descending =
    (col 1 (place_of table at), record { collation = Binary; descending = descending }) ∷ []

-- ORDER BY column
pub orders_by : (table : Table) (at : ℕ) (params : Row) → at < length table.columns → (a b : Row)
    → key_cmp 0 (map (λ (k : Term × Key). k.1) (by table at false)) (keys_of (by table at false) params a)
    (keys_of (by table at false) params b) ≡ by_column at (fields table a) (fields table b)
orders_by table at params within a b =
    then-Equal _ ∙ ap₂ value_cmp (sym (field_at table at a within)) (sym (field_at table at b within))

-- ORDER BY column DESC
pub orders_down : (table : Table) (at : ℕ) (params : Row) → at < length table.columns → (a b : Row)
    → key_cmp 0 (map (λ (k : Term × Key). k.1) (by table at true)) (keys_of (by table at true) params a)
    (keys_of (by table at true) params b) ≡ by_column at (fields table b) (fields table a)
orders_down table at params within a b =
    then-Equal _ ∙ ap₂ value_cmp (sym (field_at table at b within)) (sym (field_at table at a within))

-- a row of the table is its columns, which `refl` proves for a table that is written out
pub whole : (table : Table) (db : Trees) (n : ℕ) → ((r : Row) → columns n (fields table r) ≡ fields table r)
    → (row : Row) → Has (rows_in table db) row → columns n row ≡ row
whole table db n all row has =
    let it = has_image (fields table) (db table.tree) row has in
    subst (λ r. columns n r ≡ r) (sym it.2) (all it.0)
