-- The tables are made anew with the rows that were read of them.
use Rattle.portal_tables_rows.proofs.Common.{◌≡◌, ◌≤◌, ◌<◌, lit≤, ℕ, ◌+◌, List, [], ◌∷◌, ◌++◌, map, fold}
use Rattle.portal_tables_rows.proofs.Common.{refl}
use Rattle.portal_tables_rows.proofs.Common.{sym, ap, subst, ◌∙◌, arith, ints, nat_tests, append-nil}
use Rattle.portal_tables_rows.proofs.Common.{append_assoc, Less, AllByRecursion, Row, Has, State, Database}
use Rattle.portal_tables_rows.proofs.Common.{value_cmp, value_cmp-Int, number, put_by, all_has}
use Rattle.portal_tables_rows.proofs.Common.{Contents, no_rows, HoldsIn, StoresRows, Layout, Apart, Together}
use Rattle.portal_tables_rows.proofs.Common.{IsTableIn, layout_of, copied_tables, with_copied}
use Rattle.portal_tables_rows.proofs.Common.{AreNamesFree, OldSchema, Rebuilds, version_number}
use Rattle.portal_tables_rows.proofs.Common.{First, Second, Third, Fourth, Fifth, Sixth, HeadRow}
use Rattle.portal_tables_rows.proofs.Common.{SessionRow, GrantRow, RequestRow, head_cells}
use Rattle.portal_tables_rows.proofs.Common.{plan_cells, batch_cells, grant_cells, request_cells, head_stored}
use Rattle.portal_tables_rows.proofs.Common.{session_stored, grant_stored, WholeSession, whole_session_stored}
use Rattle.portal_tables_rows.proofs.Common.{tables_of, whole_row, TablePlaces, Trees}
use Rattle.sqlite.specs.Tree.{IsTable, rowid}
use Rattle.portal_tables_sql.specs.Copies.{table_copied}
use Rattle.portal_tables_sql.specs.Stored.{Keeps}
use Rattle.portal_tables_sql.specs.Tables.{since}
use Rattle.portal_tables_sql.specs.declared.copied_tables.CopiedTable.{CopiedTable}
use Rattle.portal_tables_sql.specs.declared.copied_tables.CopiedTable.TheVariants as copied
use Rattle.portal_tables_sql.specs.declared.our_tables.OurTable.{OurTable}
use Rattle.portal_tables_sql.specs.declared.our_tables.OurTable.TheVariants as our
use Rattle.portal_tables_sql.proofs.TableLemmas.{always}
use Rattle.portal_tables_rows.specs.Copying.{Adds, AddsRow, AddsRows, AddsTables, AreRead, cells_of}
use Rattle.portal_tables_rows.specs.Copying.{table_read}
use Rattle.portal_tables_rows.specs.Creation.{AreDistinct, AreStanding, CreatesEmpty, DropsTables}
use Rattle.portal_tables_rows.specs.Holds.{SessionsIn}
use Rattle.portal_tables_rows.specs.Migrations.{first_tables, second_tables, first_copied}
use Rattle.portal_tables_rows.specs.declared.copies.WholeTable.{WholeTable}
use Rattle.portal_tables_rows.proofs.OthersLemmas.{others_then}

-- ---- rows in the order in which they were read

-- each is put after those that are there
module _ {P : Type 0} (x : CopiedTable) (cells : P → Row) (set : List P → Contents)
    (one : (p : P) (qs : List P) → AddsRow x (cells p) (set qs) (set (qs ++ p ∷ []))) where
  pub rows_added : (ps qs : List P) → AddsRows x (map cells ps) (set qs) (set (qs ++ ps))
  rows_added [] qs = ap set (append-nil qs)
  rows_added (p ∷ ps) qs = (
    set (qs ++ p ∷ []),
    one p qs,
    subst (λ l. AddsRows x (map cells ps) (set (qs ++ p ∷ [])) (set l)) (append_assoc qs (p ∷ []) ps)
        (rows_added ps (qs ++ p ∷ [])),
  )

-- the numbers rise from this one on
abbrev pub RisesFrom : {P : Type 0} → (P → ℕ) → ℕ → List P → Type 0
RisesFrom key low [] = Unit {0}
RisesFrom key low (p ∷ ps) = (low ≤ key p) × RisesFrom key (key p + 1) ps

abbrev AreBelow : {P : Type 0} → (P → ℕ) → ℕ → List P → Type 0
AreBelow key limit rows = AllByRecursion (λ p. key p < limit) rows

module _ {P : Type 0} (key : P → ℕ) where
  less : (a b : ℕ) → a < b → value_cmp (number a) (number b) ≡ Less
  less a b low = value_cmp-Int _ _ ∙ grind (arith, ints, nat_tests)

  higher : (a b : ℕ) → value_cmp (number a) (number b) ≡ Less → a < b
  higher a b h = let k = rw (value_cmp-Int _ _) at h in grind (arith, ints, nat_tests)

  put_last : (limit : ℕ) (p : P) (rows : List P) → limit ≤ key p → AreBelow key limit rows
      → put_by key p rows ≡ rows ++ p ∷ []
  put_last limit p [] low below = refl
  put_last limit p (x ∷ rows) low below =
      let first : key x < key p = omega (arith, below.0) in
      rw (less (key x) (key p) first) (ap (λ l. x ∷ l) (put_last limit p rows low below.1))

  below_next : (limit : ℕ) (p : P) (rows : List P) → limit ≤ key p → AreBelow key limit rows
      → AreBelow key (key p + 1) (rows ++ p ∷ [])
  below_next limit p [] low below = (omega arith, tt)
  below_next limit p (x ∷ rows) low below = (omega (arith, below.0), below_next limit p rows low below.1)

  -- each is put after those that are there
  pub put_all : (limit : ℕ) (ps rows : List P) → RisesFrom key limit ps → AreBelow key limit rows
      → fold (λ l p. put_by key p l) rows ps ≡ rows ++ ps
  put_all limit [] rows rise below = sym (append-nil rows)
  put_all limit (p ∷ ps) rows rise below =
      ap (λ l. fold (λ m q. put_by key q m) l ps) (put_last limit p rows rise.0 below)
      ∙ put_all (key p + 1) ps (rows ++ p ∷ []) rise.1 (below_next limit p rows rise.0 below)
      ∙ append_assoc rows (p ∷ []) ps

  -- the numbers of parts
  pub rises_of_parts : {A : Type 0} (part : A → P) (low : ℕ) (xs : List A)
      → RisesFrom (λ a. key (part a)) low xs → RisesFrom key low (map part xs)
  rises_of_parts part low [] rise = tt
  rises_of_parts part low (x ∷ xs) rise = (rise.0, rises_of_parts part (key (part x) + 1) xs rise.1)

  pub rises_of_wholes : {A : Type 0} (part : A → P) (low : ℕ) (xs : List A)
      → RisesFrom key low (map part xs) → RisesFrom (λ a. key (part a)) low xs
  rises_of_wholes part low [] rise = tt
  rises_of_wholes part low (x ∷ xs) rise = (rise.0, rises_of_wholes part (key (part x) + 1) xs rise.1)

  -- rowids rise
  module _ (stored : P → Row) (ids : (p : P) → rowid (stored p) ≡ number (key p)) where
    rises_from : (low : ℕ) (p : P) (ps : List P) → low ≤ key p → IsTable (map stored (p ∷ ps))
        → RisesFrom key low (p ∷ ps)
    rises_from low p [] above up = (above, tt)
    rises_from low p (q ∷ ps) above up =
        let next : key p < key q = higher (key p) (key q) (rw (ids p, ids q) at up.0.0) in
        (above, rises_from (key p + 1) q ps (omega arith) up.1)

    pub rises : (ps : List P) → IsTable (map stored ps) → RisesFrom key 0 ps
    rises [] up = tt
    rises (p ∷ ps) up = rises_from 0 p ps (omega arith) up

  module _ (x : CopiedTable) (cells : P → Row) (set : List P → Contents)
      (one : (p : P) (qs : List P) → AddsRow x (cells p) (set qs) (set (put_by key p qs))) where
    pub rows_put : (limit : ℕ) (ps qs : List P) → RisesFrom key limit ps → AreBelow key limit qs
        → AddsRows x (map cells ps) (set qs) (set (qs ++ ps))
    rows_put limit [] qs rise below = ap set (append-nil qs)
    rows_put limit (p ∷ ps) qs rise below =
        let last = put_last limit p qs rise.0 below in (
          set (qs ++ p ∷ []),
          subst (λ l. AddsRow x (cells p) (set qs) (set l)) last (one p qs),
          subst (λ l. AddsRows x (map cells ps) (set (qs ++ p ∷ [])) (set l)) (append_assoc qs (p ∷ []) ps)
              (rows_put (key p + 1) ps (qs ++ p ∷ []) rise.1 (below_next limit p qs rise.0 below)),
        )

-- ---- one table after another

abbrev read_of : List CopiedTable → Contents → List (CopiedTable × List Row)
read_of tables t = map (λ x. (x, cells_of x t)) tables

-- what a table with numbers stores rises by them
stored_rise : {P : Type 0} (key : P → ℕ) (stored : P → Row) → ((p : P) → rowid (stored p) ≡ number (key p))
    → (rows : List Row) (ps : List P) → Keeps whole_row rows (map stored ps) → RisesFrom key 0 ps
stored_rise key stored ids rows ps h =
    rises key stored ids ps (subst IsTable (sym (whole_is rows) ∙ h.is) h.are.rise)
  where
    whole_is : (rs : List Row) → map whole_row rs ≡ rs
    whole_is [] = refl
    whole_is (r ∷ rs) = ap (λ l. r ∷ l) (whole_is rs)

-- the numbers of the sessions rise
sessions_rise : (layout : Layout) (rows : List Row) (t : Contents) → SessionsIn layout rows t
    → RisesFrom (λ (s : SessionRow). s.number) 0 t.sessions
sessions_rise (Apart keyed) rows t h =
    stored_rise (λ (s : SessionRow). s.number) session_stored (λ x. refl) rows t.sessions h
sessions_rise Together rows t h =
    subst (RisesFrom (λ (s : SessionRow). s.number) 0) h.their_rows
    (rises_of_parts (λ (s : SessionRow). s.number) (λ (w : WholeSession). w.row) 0 h.whole
    (stored_rise (λ (w : WholeSession). w.row.number) whole_session_stored (λ x. refl) rows h.whole h.stored))

pub held_rise : (from : OldSchema) (db : Database) (t : Contents) → HoldsIn (version_number from) [] db t
    → RisesFrom (λ (s : SessionRow). s.number) 0 t.sessions
held_rise from db t h =
    sessions_rise (layout_of (version_number from)) _ t (h.store our.Sessions (always _, tt))

module _ (layout : Layout) (v : ℕ) (places : TablePlaces) (trees : Trees) (t : Contents)
    (store : StoresRows layout v places trees t) where
  -- those of schema version 1
  first_added : (requests : List RequestRow)
      → AddsTables (read_of first_copied t) (record no_rows { requests = requests })
      (record t { vouchers = []; counts = []; sessions = []; totals = []; requests = requests })
  first_added requests =
      let b : Contents = record no_rows { requests = requests } in
      let b1 : Contents = record b { grants = t.grants } in
      let b2 : Contents = record b1 { batches = t.batches } in
      let b3 : Contents = record b2 { plans = t.plans } in
      let grants = stored_rise (λ (x : GrantRow). x.number) grant_stored (λ x. refl) _ t.grants
      (store our.Grants (always v, tt)) in
      let heads = stored_rise (λ (x : HeadRow). x.id) head_stored (λ x. refl) _ t.heads
      (store our.Head (always v, tt)) in (
        b1,
        rows_put (λ (x : GrantRow). x.number) copied.Grants grant_cells (λ l. record b { grants = l })
            (λ p qs. (p, refl, refl)) 0 t.grants [] grants tt,
        (
          b2,
          rows_added copied.Batches batch_cells (λ l. record b1 { batches = l }) (λ p qs. (p, refl, refl))
              t.batches [],
          (
            b3,
            rows_added copied.Plans plan_cells (λ l. record b2 { plans = l }) (λ p qs. (p, refl, refl))
                t.plans [],
            (
              record b3 { heads = t.heads },
              rows_put (λ (x : HeadRow). x.id) copied.Head head_cells (λ l. record b3 { heads = l })
                  (λ p qs. (p, refl, refl)) 0 t.heads [] heads tt,
              refl,
            ),
          ),
        ),
      )

  -- and that of schema version 3
  all_added : AddsTables (read_of (copied.Requests ∷ first_copied) t) no_rows
      (record t { vouchers = []; counts = []; sessions = []; totals = [] })
  all_added = (
    record no_rows { requests = t.requests },
    rows_added copied.Requests request_cells (λ l. record no_rows { requests = l }) (λ p qs. (p, refl, refl))
        t.requests [],
    first_added t.requests,
  )

tables_added : (from : OldSchema) (places : TablePlaces) (trees : Trees) (t : Contents)
    → StoresRows (layout_of (version_number from)) (version_number from) places trees t
    → AddsTables (read_of (copied_tables from) t) no_rows (with_copied from t)
tables_added First places trees t store = first_added (layout_of 1) 1 places trees t store []
tables_added Second places trees t store = first_added (layout_of 2) 2 places trees t store []
tables_added Third places trees t store = all_added (layout_of 3) 3 places trees t store
tables_added Fourth places trees t store = all_added (layout_of 4) 4 places trees t store
tables_added Fifth places trees t store = all_added (layout_of 5) 5 places trees t store
tables_added Sixth places trees t store = all_added (layout_of 6) 6 places trees t store

-- ---- the tables of each schema version

abbrev IsThere : OldSchema → OurTable → Type 0
IsThere from x = IsTableIn (layout_of (version_number from)) (version_number from) x

had : (from : OldSchema) → AllByRecursion (IsThere from) (tables_of from)
had First =
    ((lit≤ tt, tt), ((lit≤ tt, tt), ((lit≤ tt, tt), ((lit≤ tt, tt), ((lit≤ tt, tt), ((lit≤ tt, tt), tt))))))
had Second = (
  (lit≤ tt, tt),
  (
    (lit≤ tt, tt),
    ((lit≤ tt, tt), ((lit≤ tt, tt), ((lit≤ tt, tt), ((lit≤ tt, tt), ((lit≤ tt, tt), ((lit≤ tt, tt), tt)))))),
  ),
)
had Third = (
  (lit≤ tt, tt),
  (
    (lit≤ tt, tt),
    (
      (lit≤ tt, tt),
      (
        (lit≤ tt, tt),
        ((lit≤ tt, tt), ((lit≤ tt, tt), ((lit≤ tt, tt), ((lit≤ tt, tt), ((lit≤ tt, tt), tt))))),
      ),
    ),
  ),
)
had Fourth = (
  (lit≤ tt, tt),
  (
    (lit≤ tt, tt),
    (
      (lit≤ tt, tt),
      (
        (lit≤ tt, tt),
        ((lit≤ tt, tt), ((lit≤ tt, tt), ((lit≤ tt, tt), ((lit≤ tt, tt), ((lit≤ tt, tt), tt))))),
      ),
    ),
  ),
)
had Fifth = (
  (lit≤ tt, tt),
  (
    (lit≤ tt, tt),
    (
      (lit≤ tt, tt),
      (
        (lit≤ tt, tt),
        ((lit≤ tt, tt), ((lit≤ tt, tt), ((lit≤ tt, tt), ((lit≤ tt, tt), ((lit≤ tt, tt), tt))))),
      ),
    ),
  ),
)
had Sixth = (
  (lit≤ tt, tt),
  (
    (lit≤ tt, tt),
    ((lit≤ tt, tt), ((lit≤ tt, tt), ((lit≤ tt, tt), ((lit≤ tt, tt), ((lit≤ tt, tt), tt))))),
  ),
)

has_table : (from : OldSchema) (x : OurTable) → Has (tables_of from) x → IsThere from x
has_table from x has = all_has (IsThere from) (tables_of from) x (had from) has

had_copied : (from : OldSchema)
    → AllByRecursion (λ x. since (table_copied x) ≤ version_number from) (copied_tables from)
had_copied First = (lit≤ tt, (lit≤ tt, (lit≤ tt, (lit≤ tt, tt))))
had_copied Second = (lit≤ tt, (lit≤ tt, (lit≤ tt, (lit≤ tt, tt))))
had_copied Third = (lit≤ tt, (lit≤ tt, (lit≤ tt, (lit≤ tt, (lit≤ tt, tt)))))
had_copied Fourth = (lit≤ tt, (lit≤ tt, (lit≤ tt, (lit≤ tt, (lit≤ tt, tt)))))
had_copied Fifth = (lit≤ tt, (lit≤ tt, (lit≤ tt, (lit≤ tt, (lit≤ tt, tt)))))
had_copied Sixth = (lit≤ tt, (lit≤ tt, (lit≤ tt, (lit≤ tt, (lit≤ tt, tt)))))

pub has_copied : (from : OldSchema) (x : CopiedTable) → Has (copied_tables from) x
    → since (table_copied x) ≤ version_number from
has_copied from x has =
    all_has (λ y. since (table_copied y) ≤ version_number from) (copied_tables from) x (had_copied from) has

distinct_first : AreDistinct first_tables
distinct_first = (
  (refl, (refl, (refl, (refl, (refl, tt))))),
  (
    (refl, (refl, (refl, (refl, tt)))),
    (
      (refl, (refl, (refl, tt))),
      ((refl, (refl, tt)), ((refl, tt), (tt, tt))),
    ),
  ),
)

distinct_second : AreDistinct second_tables
distinct_second = (
  (refl, (refl, (refl, (refl, (refl, (refl, (refl, tt))))))),
  ((refl, (refl, (refl, (refl, (refl, (refl, tt)))))), distinct_first),
)

distinct_third : AreDistinct (our.Requests ∷ second_tables)
distinct_third = ((refl, (refl, (refl, (refl, (refl, (refl, (refl, (refl, tt)))))))), distinct_second)

distinct_tables : (from : OldSchema) → AreDistinct (tables_of from)
distinct_tables First = distinct_first
distinct_tables Second = distinct_second
distinct_tables Third = distinct_third
distinct_tables Fourth = distinct_third
distinct_tables Fifth = distinct_third
distinct_tables Sixth = ((refl, (refl, (refl, (refl, (refl, (refl, tt)))))), distinct_first)

standing : (from : OldSchema) (db : Database) (t : Contents) (h : HoldsIn (version_number from) [] db t)
    → AreStanding (layout_of (version_number from)) (tables_of from) db.schema
standing from db t h x has = (h.places x, (h.tables_exist.tables x (has_table from x has)).exists)

-- ---- dropped, created and filled

pub restored : (from : OldSchema) (read : List WholeTable) (a b c d : State) → AreNamesFree a.now.schema
    → DropsTables (tables_of from) a b → CreatesEmpty b c → Adds (AddsTables (map table_read read)) c d
    → Rebuilds from read (with_copied from) a d
restored from read a b c d free drops creates adds =
    let dropped = λ (t : Contents) (h : HoldsIn (version_number from) [] a.now t).
    drops.drops (layout_of (version_number from)) (distinct_tables from) (standing from a.now t h) free in
    let added = λ (t : Contents) (h : HoldsIn (version_number from) [] a.now t)
    (is : AreRead read (copied_tables from) t).
    subst (λ ws. AddsTables ws no_rows (with_copied from t)) (sym is)
    (tables_added from h.places a.now.trees t h.store) in
    record {
      holds = λ t h is. adds.holds no_rows (with_copied from t) (added t h is)
          (creates.holds (dropped t h).0);
      others = λ t h is.
          let it = dropped t h in
          others_then a.now b.now d.now it.1 (others_then b.now c.now d.now (creates.others it.0)
          (adds.others no_rows (with_copied from t) (added t h is) (creates.holds it.0)));
      committed = adds.committed ∙ creates.committed ∙ drops.committed;
      mode = adds.mode;
    }
