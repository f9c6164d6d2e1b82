-- A statement on one table does not change the others.
use Rattle.portal_tables_rows.proofs.Common.{◌≡◌, ◌==◌, ℕ, Bool, List, true, false, cond, inl, inr, refl}
use Rattle.portal_tables_rows.proofs.Common.{map, sym, ap, subst, ◌∙◌, true≢false, slice_index_or, eq-eqb}
use Rattle.portal_tables_rows.proofs.Common.{eqb-true, cases_Bool, Schema, Table, Row, Database, IsDatabase}
use Rattle.portal_tables_rows.proofs.Common.{State, Has, TableExists, Stores, whole_row, less_rowid, Plan}
use Rattle.portal_tables_rows.proofs.Common.{VoucherRow, SessionRow, GrantRow, CountRow, TotalRow, head}
use Rattle.portal_tables_rows.proofs.Common.{plans, batches, vouchers, sessions, grants, requests, Contents}
use Rattle.portal_tables_rows.proofs.Common.{HeadRow, head_stored, plan_cells, batch_cells, grant_stored}
use Rattle.portal_tables_rows.proofs.Common.{request_cells, RequestRow, HoldsTables, TablesExist}
use Rattle.portal_tables_rows.proofs.Common.{WholeVoucher, WholeSession, whole_voucher_cells}
use Rattle.portal_tables_rows.proofs.Common.{whole_session_stored, count_of, total_of}
use Rattle.portal_tables_sql.specs.Tables.{Layout, Together, IsTableIn, table_in, name_of}
use Rattle.portal_tables_sql.specs.declared.our_indexes.OurIndex.{OurIndex}
use Rattle.portal_tables_sql.specs.declared.our_tables.OurTable.{OurTable}
use Rattle.portal_tables_sql.specs.declared.our_tables.OurTable.TheVariants as our
use Rattle.portal_tables_sql.proofs.TableLemmas.{for_each, name_is, tree_is}
use Rattle.portal_tables_rows.specs.Holds.{StoresIn}
use Rattle.sqlite_rules.specs.Edit.{Edit}
use Rattle.sqlite_rules.proofs.ListLemmas.{all_has}
use Rattle.sqlite_catalog.proofs.AlterLemmas.{place_has}
use Rattle.portal_tables_sql.proofs.Writes.{Edits}
use Rattle.portal_model.specs.declared.record.Batch.{Batch}

-- the names of the tables differ after `portal_`
abbrev pub initial : Table → ℕ
initial t = slice_index_or t.name 7 0

pub apart : (schema : Schema) (a b : ℕ) (x y : Table) → TableExists schema a x → TableExists schema b y
    → (initial x == initial y) ≡ false → x.tree ≡ y.tree → ⊥
apart schema a b x y p q off same =
    let e = q.only x (place_has schema.tables a x p.there) (eq-eqb _ _ same) in
    true≢false (sym (eq-eqb (initial x) (initial y) (ap initial e)) ∙ off)

-- the statement did not change the schema, the tables of other names and each table but this one
pub record Touches (db : Database) (table : Table) (after : Database) : Type 0 where
  pub schema : after.schema ≡ db.schema
  pub others : (a : ℕ) (x : Table) → TableExists db.schema a x → (initial x == initial table) ≡ false
      → after.trees x.tree ≡ db.trees x.tree
  pub beside : (x : Table) → Has db.schema.tables x → (x ≡ table → ⊥) → after.trees x.tree ≡ db.trees x.tree
  pub sound : IsDatabase after

pub touches : {old new : State} {edit : Edit} (b : ℕ) → TableExists old.now.schema b edit.table
    → Edits old new old.now.schema edit → Touches old.now edit.table new.now
touches {old = old} {edit = edit} b here e = record {
  schema = e.schema_is;
  others = λ a x exists off. all_has _ old.now.schema.tables x e.applies.tables (place_has
      old.now.schema.tables a x exists.there) (apart old.now.schema a b x edit.table exists here off);
  beside = λ x has other. all_has _ old.now.schema.tables x e.applies.tables has
      (λ same. other (here.only x has (eq-eqb _ _ same)));
  sound = e.sound;
}

-- ---- each table but the one that was touched stores the rows that it stored

abbrev initial_of : OurTable → ℕ
initial_of x = slice_index_or (name_of x) 7 0

abbrev by_initial : ℕ → OurTable
by_initial n =
    cond (n == 104) our.Head (cond (n == 112) our.Plans
    (cond (n == 98) our.Batches (cond (n == 118) our.Vouchers (cond (n == 115) our.Sessions
    (cond (n == 103) our.Grants (cond (n == 99) our.Counts (cond (n == 116) our.Totals (our.Requests))))))))

named_so : (x : OurTable) → by_initial (initial_of x) ≡ x
named_so = for_each _ refl refl refl refl refl refl refl refl refl

same_table : (x y : OurTable) → (initial_of x == initial_of y) ≡ true → x ≡ y
same_table x y same =
    sym (named_so x) ∙ ap by_initial (eqb-true (initial_of x) (initial_of y) same) ∙ named_so y

abbrev Unless : Bool → Type 0 → Type 0
Unless true P = Unit {0}
Unless false P = P

-- what stores the rows of the other tables, stores them still
abbrev Differ : Layout → ℕ → OurTable → Contents → Contents → Type 0
Differ layout v y t now = (x : OurTable) → IsTableIn layout v x → Unless (initial_of x == initial_of y)
    ((rows : List Row) → StoresIn layout x rows t → StoresIn layout x rows now)

module _ {layout : Layout} {v : ℕ} {indexes : List OurIndex} {db after : Database} {t : Contents}
    (h : HoldsTables layout v indexes db t)
    (y : OurTable) (k : Touches db (table_in layout y (h.places y).tree) after) where
  initials : (x z : OurTable) (n m : ℕ) → (initial_of x == initial_of z) ≡ false
      → (initial (table_in layout x n) == initial (table_in layout z m)) ≡ false
  initials x z n m off = rw (name_is layout x n, name_is layout z m) off

  stays : (x : OurTable) → IsTableIn layout v x → (initial_of x == initial_of y) ≡ false
      → StoresIn layout x (after.trees (h.places x).tree) t
  stays x on off =
      let table = table_in layout x (h.places x).tree in
      let same : after.trees table.tree ≡ db.trees table.tree =
      k.others (h.places x).at table (h.tables_exist.tables x on).exists (initials x y _ _ off) in
      subst (λ rows. StoresIn layout x rows t)
      (sym (subst (λ n. after.trees n ≡ db.trees n) (tree_is layout x (h.places x).tree) same)) (h.store x on)

  -- the touched table stores these rows now
  holds_now : (now : Contents) → StoresIn layout y (after.trees (h.places y).tree) now
      → Differ layout v y t now → HoldsTables layout v indexes after now
  holds_now now stored differ = record {
    places = h.places;
    tables_exist = subst (λ s. TablesExist layout v indexes s h.places) (sym k.schema) h.tables_exist;
    store = λ x on. elim (cases_Bool (initial_of x == initial_of y)) [
      | inl same ↦ subst (λ z. StoresIn layout z (after.trees (h.places z).tree) now)
          (sym (same_table x y same)) stored
      | inr off ↦ (rw off at (differ x on)) (after.trees (h.places x).tree) (stays x on off)
    ];
    sound = k.sound;
  }

-- ---- the touched table stores these rows now

module _ {v : ℕ} {indexes : List OurIndex} {db after : Database} {t : Contents}
    (h : HoldsTables Together v indexes db t) where
  pub heads_now : (now : List HeadRow) → Touches db (head (h.places our.Head).tree) after
      → Stores whole_row head_stored (after.trees (h.places our.Head).tree) now
      → HoldsTables Together v indexes after (record t { heads = now })
  heads_now now k stored = holds_now h our.Head k _ stored
      (for_each _ (λ on. tt) (λ on rows stored. stored) (λ on rows stored. stored)
      (λ on rows stored. stored) (λ on rows stored. stored) (λ on rows stored. stored)
      (λ on. absurd on.1) (λ on. absurd on.1) (λ on rows stored. stored))

  pub plans_now : (now : List Plan) → Touches db (plans (h.places our.Plans).tree) after
      → Stores less_rowid plan_cells (after.trees (h.places our.Plans).tree) now
      → HoldsTables Together v indexes after (record t { plans = now })
  plans_now now k stored = holds_now h our.Plans k _ stored
      (for_each _ (λ on rows stored. stored) (λ on. tt) (λ on rows stored. stored)
      (λ on rows stored. stored) (λ on rows stored. stored) (λ on rows stored. stored)
      (λ on. absurd on.1) (λ on. absurd on.1) (λ on rows stored. stored))

  pub batches_now : (now : List Batch) → Touches db (batches (h.places our.Batches).tree) after
      → Stores less_rowid batch_cells (after.trees (h.places our.Batches).tree) now
      → HoldsTables Together v indexes after (record t { batches = now })
  batches_now now k stored = holds_now h our.Batches k _ stored
      (for_each _ (λ on rows stored. stored) (λ on rows stored. stored) (λ on. tt)
      (λ on rows stored. stored) (λ on rows stored. stored) (λ on rows stored. stored)
      (λ on. absurd on.1) (λ on. absurd on.1) (λ on rows stored. stored))

  pub vouchers_now : (vs : List VoucherRow) (ks : List CountRow) (now : List WholeVoucher)
      → map (λ (w : WholeVoucher). w.row) now ≡ vs → map count_of now ≡ ks
      → Touches db (vouchers (h.places our.Vouchers).tree) after
      → Stores less_rowid whole_voucher_cells (after.trees (h.places our.Vouchers).tree) now
      → HoldsTables Together v indexes after (record t { vouchers = vs; counts = ks })
  vouchers_now vs ks now rows counts k stored = holds_now h our.Vouchers k _
      (record { whole = now; stored = stored; their_rows = rows; their_counts = counts })
      (for_each _ (λ on rows stored. stored) (λ on rows stored. stored) (λ on rows stored. stored)
      (λ on. tt) (λ on rows stored. stored) (λ on rows stored. stored)
      (λ on. absurd on.1) (λ on. absurd on.1) (λ on rows stored. stored))

  pub sessions_now : (ss : List SessionRow) (ms : List TotalRow) (now : List WholeSession)
      → map (λ (w : WholeSession). w.row) now ≡ ss → map total_of now ≡ ms
      → Touches db (sessions (h.places our.Sessions).tree) after
      → Stores whole_row whole_session_stored (after.trees (h.places our.Sessions).tree) now
      → HoldsTables Together v indexes after (record t { sessions = ss; totals = ms })
  sessions_now ss ms now rows totals k stored = holds_now h our.Sessions k _
      (record { whole = now; stored = stored; their_rows = rows; their_totals = totals })
      (for_each _ (λ on rows stored. stored) (λ on rows stored. stored) (λ on rows stored. stored)
      (λ on rows stored. stored) (λ on. tt) (λ on rows stored. stored)
      (λ on. absurd on.1) (λ on. absurd on.1) (λ on rows stored. stored))

  pub grants_now : (now : List GrantRow) → Touches db (grants (h.places our.Grants).tree) after
      → Stores whole_row grant_stored (after.trees (h.places our.Grants).tree) now
      → HoldsTables Together v indexes after (record t { grants = now })
  grants_now now k stored = holds_now h our.Grants k _ stored
      (for_each _ (λ on rows stored. stored) (λ on rows stored. stored) (λ on rows stored. stored)
      (λ on rows stored. stored) (λ on rows stored. stored) (λ on. tt)
      (λ on. absurd on.1) (λ on. absurd on.1) (λ on rows stored. stored))

  pub requests_now : (now : List RequestRow) → Touches db (requests (h.places our.Requests).tree) after
      → Stores less_rowid request_cells (after.trees (h.places our.Requests).tree) now
      → HoldsTables Together v indexes after (record t { requests = now })
  requests_now now k stored = holds_now h our.Requests k _ stored
      (for_each _ (λ on rows stored. stored) (λ on rows stored. stored) (λ on rows stored. stored)
      (λ on rows stored. stored) (λ on rows stored. stored) (λ on rows stored. stored)
      (λ on. absurd on.1) (λ on. absurd on.1) (λ on. tt))
