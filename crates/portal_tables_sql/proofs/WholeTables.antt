-- A query for all rows of a table gives them in the order of their rowids.
use Rattle.portal_tables_sql.proofs.Common.{◌≡◌, ℕ, List, [], ◌∷◌, map, filter, Bool, true, false, Ordering}
use Rattle.portal_tables_sql.proofs.Common.{Less, Equal, Greater, ◌+◌, refl, sym, ap, subst, ◌∙◌, arith}
use Rattle.portal_tables_sql.proofs.Common.{add-one, get_or, true≢false, nat_le, nat_lt, ◌^◌, ◌-◌, cond}
use Rattle.portal_tables_sql.proofs.Common.{unwrap_or, slice_get, None, length, is_lt, is_eq, inl, inr}
use Rattle.portal_tables_sql.proofs.Common.{range_with_len, cases_Bool, nat_tests, IsPermutation, IsSorted}
use Rattle.portal_tables_sql.proofs.Common.{IsPermutation-sym, sorted_far, ranks_by, Key, Binary}
use Rattle.portal_tables_sql.proofs.Common.{value_cmp_total, then-Equal, Null, Row, value_cmp, Table, Trees}
use Rattle.portal_tables_sql.proofs.Common.{rowid, IsTable, Term, col, eval, Select, Schema, State, reads_as}
use Rattle.portal_tables_sql.proofs.Common.{place_of, map-map, filter-map, all_has, all_from, contains_had}
use Rattle.portal_tables_sql.proofs.Common.{has_filtered, rows_in, fields}
use Rattle.portal_tables_sql.proofs.FindLemmas.{has_along}
use Rattle.portal_tables_sql.proofs.Queries.{simple, unlimited}
use Rattle.portal_tables_sql.proofs.RowLemmas.{same_rows}
use Rattle.portal_tables_sql.proofs.Scan.{env, passes, shown_of, scan_all}
use Rattle.portal_tables_sql.proofs.Texts.{Means}
use Rattle.portal_tables_sql.proofs.Lookup.{IsSelect, all_columns, select_from}
use Rattle.std.specs.List.{IsDistinct}
use Rattle.std.specs.Ordering.{ordering_reverse}
use Rattle.std.proofs.lemmas.Map.Keys.{IsDistinct-IsPermutation}
use Rattle.sqlite.specs.Program.{overlay}
use Rattle.sqlite.specs.Query.{IsAnswer, inner, end}
use Rattle.sqlite.specs.State.{Shown}

-- ORDER BY the rowid
abbrev pub by_rowid : List (Term × Key)
by_rowid = (col 1 0, record { collation = Binary; descending = false }) ∷ []

-- two rows of one rowid
abbrev tied : Row → Row → Bool
tied a b = is_eq (value_cmp (rowid a) (rowid b))

apart_from_table : (rows : List Row) → IsTable rows → IsDistinct tied rows
unfolding IsDistinct
apart_from_table [] up = tt
apart_from_table (x ∷ xs) up =
    (all_from _ xs (λ r h. ap is_eq (all_has _ xs r up.0 h)), apart_from_table xs up.1)

flips : (a b : Row) → tied a b ≡ tied b a
flips a b = ap is_eq (value_cmp_total.antisymm (rowid a) (rowid b)) ∙ turned (value_cmp (rowid b) (rowid a))
  where
    turned : (o : Ordering) → is_eq (ordering_reverse o) ≡ is_eq o
    turned Less = refl
    turned Equal = refl
    turned Greater = refl

-- one is below the other where it neither ties nor is above it
below : (a b : Row) → tied a b ≡ false → is_lt (value_cmp (rowid b) (rowid a)) ≡ false
    → value_cmp (rowid a) (rowid b) ≡ Less
below a b apart above = go (value_cmp (rowid a) (rowid b)) refl
  where
    go : (o : Ordering) → value_cmp (rowid a) (rowid b) ≡ o → value_cmp (rowid a) (rowid b) ≡ Less
    go Less e = e
    go Equal e = let no : is_eq (value_cmp (rowid a) (rowid b)) ≡ true = ap is_eq e in
        absurd (true≢false (sym no ∙ apart))
    go Greater e = let no : is_lt (value_cmp (rowid b) (rowid a)) ≡ true =
        ap is_lt (value_cmp_total.antisymm (rowid b) (rowid a) ∙ ap ordering_reverse e) in
        absurd (true≢false (sym no ∙ above))

later : (x : Row) (xs : List Row) (i : ℕ) (d : Row) → get_or (x ∷ xs) (i + 1) d ≡ get_or xs i d
later x xs i d = rw add-one refl

-- rows that are sorted, and of which no two have one rowid, are a table
table_from_sorted : (rows : List Row) → IsDistinct tied rows
    → IsSorted (λ a b. value_cmp (rowid a) (rowid b)) rows → IsTable rows
unfolding IsDistinct
table_from_sorted [] apart sorted = tt
table_from_sorted (x ∷ xs) apart sorted =
    let order = ranks_by value_cmp_total rowid in (
      all_from _ xs (λ r h.
          let it = contains_had xs r h in
          below x r (all_has _ xs r apart.0 h) (subst (λ y. is_lt (value_cmp (rowid y) (rowid x)) ≡ false)
          (later x xs it.0 r ∙ it.2) (sorted_far (λ a b. is_lt (value_cmp (rowid a) (rowid b))) order (x ∷ xs)
          sorted 0 (it.0 + 1) r (omega arith) (omega (arith, it.1))))),
      table_from_sorted xs apart.1 (λ k d low within.
          rw (later x xs (k + 1) d, later x xs k d) at (sorted (k + 1) d (omega arith) (omega arith))),
    )

-- the rows of a table, sorted by their rowids, are those rows
pub in_order : (rows ordered : List Row) → IsTable rows → IsPermutation rows ordered
    → IsSorted (λ a b. value_cmp (rowid a) (rowid b)) ordered → ordered ≡ rows
in_order rows ordered up same sorted =
    let table = table_from_sorted ordered
    (IsDistinct-IsPermutation tied flips rows ordered same (apart_from_table rows up)) sorted in
    same_rows ordered rows table up (λ r h. has_along r ordered rows (IsPermutation-sym rows ordered same) h)
    (λ r h. has_along r rows ordered same h)

no_tables : (db : Trees) (t : ℕ) → overlay db [] t ≡ db t
no_tables db t =
    elim (nat_le (2 ^ 31) t) as (λ b. unwrap_or (cond b (slice_get [] (t - 2 ^ 31)) None) (db t) ≡ db t) [
      | true ↦ refl
      | false ↦ refl
    ]

shows : (table : Table) (params r : Row) → shown_of (all_columns table) params r ≡ fields table r
shows table params r = map-map (λ t. eval t (env params r)) (λ at. col 1 (place_of table at))
    (range_with_len 0 (length table.columns))

-- a tree of the store has a rowid
pub has_rowids : (tree : ℕ) → nat_le (2 ^ 31) tree ≡ false → nat_lt tree (2 ^ 31) ≡ true
has_rowids tree low = grind (arith, nat_tests)

all_pass : (rows : List Row) → filter (λ _. true) rows ≡ rows
all_pass [] = refl
all_pass (r ∷ rows) = ap (λ xs. r ∷ xs) (all_pass rows)

module _ (sql : List ℕ) (table : Table) (names : List (List ℕ)) (old new : State) where
  -- a text that means all columns of the table in the order of the rowids gives the rows of the table
  pub whole_table : {n : ℕ} → IsSelect old.now.schema sql n table [] by_rowid unlimited names
      → IsTable (old.now.trees table.tree) → (rows : List Row) → Shown sql [] old new rows
      → rows ≡ rows_in table old.now.trees
  whole_table s up rows h =
      let read = reads_as sql [] old new old.now.schema refl _ s.is s.plain s.unlisted rows h in
      let a : IsAnswer (select_from table [] by_rowid unlimited) (overlay old.now.trees []) [] rows =
      read.answer Null in
      let scan = scan_all table.tree [] (all_columns table) by_rowid (overlay old.now.trees []) [] rows a in
      let kept = subst (λ xs. IsPermutation xs scan.ordered)
      (all_pass _ ∙ no_tables old.now.trees table.tree) scan.same in
      let sorted : IsSorted (λ a b. value_cmp (rowid a) (rowid b)) scan.ordered =
      λ k d low within. ap is_lt (sym (then-Equal _)) ∙ scan.sorted k d low within in
      scan.shown ∙ ap (map (shown_of (all_columns table) []))
      (in_order (old.now.trees table.tree) scan.ordered up kept sorted)
      ∙ (λ i. map (λ r. shows table [] r i) (old.now.trees table.tree))

-- ---- some columns of the rows that pass, in the order of the rowids

-- what such a text means
abbrev pub IsSelectOf : Schema → List ℕ → ℕ → Table → List Term → List Term → List (List ℕ) → Type 0
IsSelectOf schema sql count table terms shows names = Means schema sql count
    (Select (record { lets = []; body = simple (inner table.tree end) terms shows by_rowid unlimited }) names)

kept_table : (p : Row → Bool) (rows : List Row) → IsTable rows → IsTable (filter p rows)
kept_table p [] up = tt
kept_table p (r ∷ rows) up = elim (cases_Bool (p r)) [
  | inl e ↦ rw e (
    all_from _ (filter p rows) (λ y h. all_has _ rows y up.0 (has_filtered p rows y h).0),
    kept_table p rows up.1,
  )
  | inr e ↦ rw e (kept_table p rows up.1)
]

module _ (sql : List ℕ) (table : Table) (terms shows : List Term) (params : Row)
    (names : List (List ℕ)) (old new : State)
    (p : Row → Bool) (tests : (r : Row) → passes terms params r ≡ p (fields table r)) (f : Row → Row)
    (shown : (r : Row) → shown_of shows params r ≡ f (fields table r)) where
  pub some_columns : {n : ℕ} → IsSelectOf old.now.schema sql n table terms shows names
      → IsTable (old.now.trees table.tree) → (rows : List Row) → Shown sql params old new rows
      → rows ≡ map f (filter p (rows_in table old.now.trees))
  some_columns s up rows h =
      let read = reads_as sql params old new old.now.schema refl _ s.is s.plain s.unlisted rows h in
      let a : IsAnswer (simple (inner table.tree end) terms shows by_rowid unlimited)
      (overlay old.now.trees []) params rows = read.answer Null in
      let scan = scan_all table.tree terms shows by_rowid (overlay old.now.trees []) params rows a in
      let passing = filter (passes terms params) (old.now.trees table.tree) in
      let kept : IsPermutation passing scan.ordered =
      subst (λ xs. IsPermutation (filter (passes terms params) xs) scan.ordered)
      (no_tables old.now.trees table.tree) scan.same in
      let sorted : IsSorted (λ a b. value_cmp (rowid a) (rowid b)) scan.ordered =
      λ k d low within. ap is_lt (sym (then-Equal _)) ∙ scan.sorted k d low within in
      let ordered = in_order passing scan.ordered
      (kept_table (passes terms params) (old.now.trees table.tree) up) kept sorted in
      let alike : passing ≡ filter (λ r. p (fields table r)) (old.now.trees table.tree) =
      λ i. filter (λ r. tests r i) (old.now.trees table.tree) in
      scan.shown ∙ ap (map (shown_of shows params)) (ordered ∙ alike)
      ∙ (λ i. map (λ r. shown r i) (filter (λ r. p (fields table r)) (old.now.trees table.tree)))
      ∙ sym (map-map f (fields table) (filter (λ r. p (fields table r)) (old.now.trees table.tree)))
      ∙ ap (map f) (sym (filter-map p (fields table) (old.now.trees table.tree)))
