-- The result of each SELECT of a list, by the rows that the tables hold.
use Rattle.portal_tables_rows.proofs.Common.{◌≡◌, ◌<◌, ℕ, List, [], ◌∷◌, ◌++◌, Bool, map, filter, length}
use Rattle.portal_tables_rows.proofs.Common.{false, refl, sym, ap, ap₂, subst, ◌∙◌, lit<, bytes_eq}
use Rattle.portal_tables_rows.proofs.Common.{Ordering, Key, then-Equal, value_cmp-Text, Text, Row}
use Rattle.portal_tables_rows.proofs.Common.{column, value_cmp, Schema, Table, Term, State, Shown}
use Rattle.portal_tables_rows.proofs.Common.{key_tests, map-map, filter-map, number, has_key}
use Rattle.portal_tables_rows.proofs.Common.{by_column, fields, IsSelection, text_test, selected, field_at}
use Rattle.portal_tables_rows.proofs.Common.{orders_by, by, passes, keys_of, VoucherRow, vouchers}
use Rattle.portal_tables_rows.proofs.Common.{Contents, Holds, HasTables, WholeVoucher}
use Rattle.portal_tables_rows.proofs.Common.{whole_voucher_cells}
use Rattle.portal_tables_rows.proofs.Common.{ListsAs, is_within, by_place, by_refund, by_sale}
use Rattle.portal_tables_rows.proofs.Common.{sale_columns, sale_cells}
use Rattle.portal_tables_rows.proofs.Cells.{vouchers_in}
use Rattle.portal_tables_sql.specs.Causes.{IsTaken}
use Rattle.portal_tables_sql.proofs.SelectTexts.{voucher_columns}
use Rattle.std.specs.Ordering.{ordering_then}
use Rattle.sqlite.specs.Query.{key_cmp}
use Rattle.portal_tables_rows.proofs.Listing.{number_order, option_order, sql_within, within_is, cells_listed}
use Rattle.portal_tables_sql.proofs.WholeTables.{some_columns}
use Rattle.portal_tables_sql.proofs.ListTexts as texts
use Rattle.portal_tables_sql.specs.declared.our_tables.OurTable.TheVariants as our
use Rattle.portal_tables_sql.proofs.TableLemmas.{always}

-- ---- two columns

abbrev by_columns : ℕ → ℕ → Row → Row → Ordering
by_columns first second a b = ordering_then (by_column first a b) (by_column second a b)

-- ORDER BY two columns
orders_by_two : (table : Table) (first second : ℕ) (params : Row) → first < length table.columns
    → second < length table.columns → (a b : Row)
    → key_cmp 0 (map (λ (k : Term × Key). k.1) (by table first false ++ by table second false))
    (keys_of (by table first false ++ by table second false) params a)
    (keys_of (by table first false ++ by table second false) params b)
    ≡ by_columns first second (fields table a) (fields table b)
orders_by_two table first second params in_first in_second a b =
    ap₂ ordering_then
    (ap₂ value_cmp (sym (field_at table first a in_first)) (sym (field_at table first b in_first)))
    (then-Equal _ ∙ ap₂ value_cmp (sym (field_at table second a in_second))
    (sym (field_at table second b in_second)))

-- WHERE column >= ?1 AND column <= ?2
within_tests : (table : Table) (at from to : ℕ) → at < length table.columns
    → (r : Row) → passes (texts.within_terms table at) (number from ∷ number to ∷ []) r
    ≡ sql_within (column (fields table r) at) (number from) (number to)
within_tests table at from to within r =
    ap (λ v. sql_within v (number from) (number to)) (sym (field_at table at r within))

-- ---- the vouchers of a batch

pub batch_rows_are : (old new : State) (batch : List ℕ) (rows : List Row)
    → Shown texts.batch_vouchers_text (Text batch ∷ []) old new rows → (t : Contents) (h : Holds old.now t)
    → ListsAs whole_voucher_cells (λ w. bytes_eq batch w.row.batch) (λ a b. by_place a.row b.row)
    (h.store our.Vouchers (always _, tt)).whole rows
batch_rows_are old new batch rows shown t h =
    let place = (h.places our.Vouchers) in
    let table = vouchers place.tree in
    let it = selected texts.batch_vouchers_text table _ _ (Text batch ∷ []) old new voucher_columns
    (has_key 1 (Text batch)) (key_tests table 1 (Text batch) [] (lit< tt) refl) (by_column 2)
    (orders_by table 2 (Text batch ∷ []) (lit< tt))
    (texts.batch_vouchers_means old.now.schema place.at place.tree
    (h.tables_exist.tables our.Vouchers (always _, tt)).exists) rows shown in
    let all = subst (λ xs. IsSelection (has_key 1 (Text batch)) (by_column 2) xs rows)
    (vouchers_in old.now.trees place.tree _ (h.store our.Vouchers (always _, tt)).stored) it in
    cells_listed whole_voucher_cells (λ (w : WholeVoucher). bytes_eq batch w.row.batch)
    (λ a b. by_place a.row b.row)
    (h.store our.Vouchers (always _, tt)).whole (has_key 1 (Text batch)) (by_column 2)
    (λ w. text_test w.row.batch batch) (λ a b. number_order a.row.place b.row.place) rows all

pub batch_taken : (batch : List ℕ) → (schema : Schema) → HasTables schema
    → IsTaken texts.batch_vouchers_text (Text batch ∷ []) schema
batch_taken batch schema h = let place = (h.0 our.Vouchers) in
    texts.batch_vouchers_taken schema place.at place.tree (h.1.tables our.Vouchers (always _, tt)).exists
    batch

-- ---- the vouchers with a time between two

module _ (old new : State) (from to : ℕ) (rows : List Row) (t : Contents) (h : Holds old.now t) where
  abbrev params : Row
  params = number from ∷ number to ∷ []

  pub sold_rows_are : Shown texts.sold_text params old new rows
      → rows ≡ map sale_cells (map sale_columns (filter (λ v. is_within from to v.sold) t.vouchers))
  sold_rows_are shown =
      let place = (h.places our.Vouchers) in
      let table = vouchers place.tree in
      let sold : Row → Bool = λ r. sql_within (column r 3) (number from) (number to) in
      let two : Row → Row = λ r. column r 1 ∷ column r 3 ∷ [] in
      let was = h.store our.Vouchers (always _, tt) in
      let passing : WholeVoucher → Bool = λ w. is_within from to w.row.sold in
      let listed = filter (λ (v : VoucherRow). is_within from to v.sold) t.vouchers in
      some_columns texts.sold_text table (texts.within_terms table 3) (texts.sold_terms table) params
      texts.sold_columns old new sold (within_tests table 3 from to (lit< tt)) two
      (λ r. ap₂ (λ a b. a ∷ b ∷ []) (sym (field_at table 1 r (lit< tt))) (sym (field_at table 3 r (lit< tt))))
      (texts.sold_means old.now.schema place.at place.tree (h.tables_exist.tables our.Vouchers
      (always _, tt)).exists) was.stored.are.rise rows shown
      ∙ ap (λ xs. map two (filter sold xs)) (vouchers_in old.now.trees place.tree was.whole was.stored)
      ∙ ap (map two) (filter-map sold whole_voucher_cells was.whole
      ∙ (λ i. map whole_voucher_cells
      (filter (λ (w : WholeVoucher). within_is w.row.sold from to i) was.whole)))
      ∙ map-map two whole_voucher_cells (filter passing was.whole)
      ∙ sym (map-map (λ v. sale_cells (sale_columns v)) (λ (w : WholeVoucher). w.row)
      (filter passing was.whole))
      ∙ ap (map (λ v. sale_cells (sale_columns v)))
      (sym (filter-map (λ (v : VoucherRow). is_within from to v.sold) (λ (w : WholeVoucher). w.row) was.whole)
      ∙ ap (filter (λ (v : VoucherRow). is_within from to v.sold)) was.their_rows)
      ∙ sym (map-map sale_cells sale_columns listed)

  pub ordered_rows_are : Shown texts.ordered_text params old new rows
      → ListsAs whole_voucher_cells (λ w. is_within from to w.row.sold) (λ a b. by_sale a.row b.row)
      (h.store our.Vouchers (always _, tt)).whole rows
  ordered_rows_are shown =
      let place = (h.places our.Vouchers) in
      let table = vouchers place.tree in
      let it = selected texts.ordered_text table (texts.within_terms table 3) _ params
      old new voucher_columns (λ r. sql_within (column r 3) (number from) (number to))
      (within_tests table 3 from to (lit< tt)) (by_columns 3 0)
      (orders_by_two table 3 0 params (lit< tt) (lit< tt)) (texts.ordered_means old.now.schema place.at
      place.tree (h.tables_exist.tables our.Vouchers (always _, tt)).exists) rows shown in
      let all = subst (λ xs.
      IsSelection (λ r. sql_within (column r 3) (number from) (number to)) (by_columns 3 0) xs rows)
      (vouchers_in old.now.trees place.tree _ (h.store our.Vouchers (always _, tt)).stored) it in
      cells_listed whole_voucher_cells (λ (w : WholeVoucher). is_within from to w.row.sold)
      (λ a b. by_sale a.row b.row) (h.store our.Vouchers (always _, tt)).whole
      (λ r. sql_within (column r 3) (number from) (number to)) (by_columns 3 0)
      (λ w. within_is w.row.sold from to)
      (λ a b. ap₂ ordering_then (option_order a.row.sold b.row.sold)
      (value_cmp-Text a.row.code b.row.code)) rows all

  pub refunded_rows_are : Shown texts.refunded_text params old new rows
      → ListsAs whole_voucher_cells (λ w. is_within from to w.row.refunded) (λ a b. by_refund a.row b.row)
      (h.store our.Vouchers (always _, tt)).whole rows
  refunded_rows_are shown =
      let place = (h.places our.Vouchers) in
      let table = vouchers place.tree in
      let it = selected texts.refunded_text table (texts.within_terms table 4) _ params
      old new voucher_columns (λ r. sql_within (column r 4) (number from) (number to))
      (within_tests table 4 from to (lit< tt)) (by_columns 4 0)
      (orders_by_two table 4 0 params (lit< tt) (lit< tt)) (texts.refunded_means old.now.schema place.at
      place.tree (h.tables_exist.tables our.Vouchers (always _, tt)).exists) rows shown in
      let all = subst (λ xs.
      IsSelection (λ r. sql_within (column r 4) (number from) (number to)) (by_columns 4 0) xs rows)
      (vouchers_in old.now.trees place.tree _ (h.store our.Vouchers (always _, tt)).stored) it in
      cells_listed whole_voucher_cells (λ (w : WholeVoucher). is_within from to w.row.refunded)
      (λ a b. by_refund a.row b.row) (h.store our.Vouchers (always _, tt)).whole
      (λ r. sql_within (column r 4) (number from) (number to)) (by_columns 4 0)
      (λ w. within_is w.row.refunded from to)
      (λ a b. ap₂ ordering_then (option_order a.row.refunded b.row.refunded)
      (value_cmp-Text a.row.code b.row.code)) rows all

pub sold_taken : (start : ℕ) (last : ℕ) → (schema : Schema) → HasTables schema
    → IsTaken texts.sold_text (number start ∷ number last ∷ []) schema
sold_taken start last schema h = let place = (h.0 our.Vouchers) in
    texts.sold_taken schema place.at place.tree (h.1.tables our.Vouchers (always _, tt)).exists start last

pub ordered_taken : (start : ℕ) (last : ℕ) → (schema : Schema) → HasTables schema
    → IsTaken texts.ordered_text (number start ∷ number last ∷ []) schema
ordered_taken start last schema h = let place = (h.0 our.Vouchers) in
    texts.ordered_taken schema place.at place.tree (h.1.tables our.Vouchers (always _, tt)).exists start last

pub refunded_taken : (start : ℕ) (last : ℕ) → (schema : Schema) → HasTables schema
    → IsTaken texts.refunded_text (number start ∷ number last ∷ []) schema
refunded_taken start last schema h = let place = (h.0 our.Vouchers) in
    texts.refunded_taken schema place.at place.tree (h.1.tables our.Vouchers (always _, tt)).exists start last
