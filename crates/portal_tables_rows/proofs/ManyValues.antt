-- From what a text means to the values that are read of its rows, and to what is made of them.
use Rattle.portal_tables_rows.proofs.Common.{◌≡◌, ℕ, List, map, take, Bool, Result, Ok, Err, IfOk, IsErrAnd}
use Rattle.portal_tables_rows.proofs.Common.{Vec}
use Rattle.portal_tables_rows.proofs.Common.{Global, refl, sym, ap, subst, ◌∙◌, IfOk-weaker}
use Rattle.portal_tables_rows.proofs.Common.{err_from_is_err_and, Ordering, map-map, Schema, Database, Row}
use Rattle.portal_tables_rows.proofs.Common.{Held, state, HasCleanDisk, Shown, understood, looks_read}
use Rattle.portal_tables_rows.proofs.Common.{looks_weaker, columns, Anything, Asks, IsSimple, OnlyAsks}
use Rattle.portal_tables_rows.proofs.Common.{simple_asks, VoucherRow, SessionRow, CountRow, TotalRow}
use Rattle.portal_tables_rows.proofs.Common.{VoucherValue, voucher_read, voucher_count, whole_voucher_read}
use Rattle.portal_tables_rows.proofs.Common.{WholeVoucher, WholeSession, whole_voucher_cells, count_of}
use Rattle.portal_tables_rows.proofs.Common.{total_of}
use Rattle.portal_tables_rows.proofs.Common.{Contents, Holds, HoldsFirst, HasTables, HasFirst, HoldsApart}
use Rattle.portal_tables_rows.proofs.Common.{HasApart, HoldsBare, HasBare, subst₂}
use Rattle.portal_tables_rows.proofs.Common.{IsOfOwn, AreOwn, IsOwnVoucher, BlamesForeign}
use Rattle.portal_tables_rows.proofs.Common.{IsOwnSession, IsOwnTotal, IsOwnWholeVoucher, IsOwnWholeSession}
use Rattle.portal_tables_rows.proofs.Common.{RowError, ReadsMany, ReadsRow, ReadsTables, Lists, ListsAs}
use Rattle.portal_tables_rows.proofs.Cells.{exact_whole_voucher}
use Rattle.portal_tables_rows.proofs.Parts.{part_has, parts_listed, listed_among, others_among}
use Rattle.sqlite.specs.Store.{Ghosts}
use Rattle.portal_tables_rows.specs.Audit.{AreAmong}
use Rattle.portal_tables_rows.specs.Selects.{ReadsFirst, ReadsApart, ReadsBare}
use Rattle.portal_tables_sql.proofs.TableLemmas.{always}
use Rattle.portal_tables_sql.specs.declared.our_tables.OurTable.TheVariants as our
use Rattle.portal_tables_sql.specs.Causes.{IsTaken}
use Rattle.portal_tables_sql.proofs.Causes.{taken_asks, taken_simple}
use Rattle.portal_tables_rows.specs.Foreign.{IsOwnRow, OnlyMemory}
use Rattle.portal_tables_rows.proofs.Caused.{memory_caused}
use Rattle.portal_tables_rows.specs.Lists.{ListsFirst}
use Rattle.portal_tables_rows.proofs.Listing.{read_listed, read_first}
use Rattle.portal_tables_rows.proofs.OwnRows.{has_taken, own_rows, own_listed, own_first}
use Rattle.std.proofs.lemmas.List.{take-map}
use Rattle.portal_tables_rows.proofs.Common.{Has}
use Rattle.portal_tables_rows.proofs.SumLemmas.{rows_exact}

-- what the rows of a result tell, if values with their cells are read
pub record TellsAll {T : Type 0} (cells : T → Row) (width : ℕ) (own : Row → Type 0) (rows : List Row)
    (Is : Vec T Global → Type 0) (Own : Type 0) : Type 0 where
  pub is : (values : Vec T Global) → map cells values.items ≡ map (columns width) rows → Is values
  pub owns : Own → AreOwn (IsOwnRow own width) rows

module _ {P : Type 0} (cells : P → Row) (n : ℕ) (all : (p : P) → columns n (cells p) ≡ cells p)
    (exact : (a b : P) → cells a ≡ cells b → a ≡ b) (IsOwn : P → Type 0) where
  -- all rows of a table
  pub tells_whole : {V : Type 0} {made : V → Row} (values : Vec V Global → List P)
      → ((vs : Vec V Global) → map cells (values vs) ≡ map made vs.items)
      → (ps : List P) (rows : List Row) → rows ≡ map cells ps
      → TellsAll made n (IsOfOwn cells IsOwn) rows (λ vs. values vs ≡ ps) (AreOwn IsOwn ps)
  tells_whole values is_made ps rows are = record {
    is = λ vs cut. rows_exact cells n all exact (values vs) ps rows (is_made vs ∙ cut) are;
    owns = own_rows cells n all IsOwn ps rows are;
  }

  -- those that pass a test, in an order
  pub tells_listed : {V : Type 0} (read : V → P) (passes : P → Bool) (cmp : P → P → Ordering) (ps : List P)
      (rows : List Row) → ListsAs cells passes cmp ps rows
      → TellsAll (λ (v : V). cells (read v)) n (IsOfOwn cells IsOwn) rows
      (λ vs. Lists passes cmp ps (map read vs.items)) (AreOwn IsOwn ps)
  tells_listed read passes cmp ps rows listed = record {
    is = λ vs cut. read_listed cells passes cmp ps n all exact rows listed (map read vs.items)
        (map-map cells read vs.items ∙ cut);
    owns = λ own. own_listed cells n all IsOwn passes cmp ps rows listed (λ p has on. own p has);
  }

  -- the first of those
  pub tells_first : {V : Type 0} (read : V → P) (passes : P → Bool) (cmp : P → P → Ordering) (limit : ℕ)
      (ps : List P) (all_rows rows : List Row) → ListsAs cells passes cmp ps all_rows
      → rows ≡ take limit all_rows → TellsAll (λ (v : V). cells (read v)) n (IsOfOwn cells IsOwn) rows
      (λ vs. ListsFirst limit passes cmp ps (map read vs.items)) (AreOwn IsOwn ps)
  tells_first read passes cmp limit ps all_rows rows listed first = record {
    is = λ vs cut. read_first cells passes cmp ps n all exact limit all_rows rows listed first
        (map read vs.items) (map-map cells read vs.items ∙ cut);
    owns = λ own. own_first cells n all IsOwn passes cmp ps limit all_rows rows listed first
        (λ p has on. own p has);
  }

module _ {S T : Type 0} (g : Ghosts S) {old new : Held S} {cells : T → Row} {width : ℕ}
    {own : Row → Type 0} (sql : List ℕ) (params : Row) {result : Result (Vec T Global) RowError}
    {Is : Contents → Vec T Global → Type 0} {Own : Contents → Type 0} where
  module _ (Hold : Database → Contents → Type 0)
      (simple : (t : Contents) → Hold (state g old).now t
      → IsSimple (understood (state g old).now.schema sql))
      (tells : (rows : List Row) → Shown sql params (state g old) (state g new) rows → (t : Contents)
      → Hold (state g old).now t → TellsAll cells width own rows (Is t) (Own t))
      (many : ReadsMany g cells width own sql params old new result) where
    many_found : HasCleanDisk (state g new) → (t : Contents) → Hold (state g old).now t → IfOk result (Is t)
    many_found clean t h = IfOk-weaker result _ _ (λ values it. (tells it.rows it.shown t h).is values it.are)
        (many.rows clean (simple_asks sql _ (simple t h)))

    many_foreign : BlamesForeign Hold Own (state g old) (state g new) result
    many_foreign clean t h owns = many.own clean (simple t h) (λ rows shown. (tells rows shown t h).owns owns)

  -- of the tables of this schema version
  pub reads_many : ((schema : Schema) → HasTables schema → IsTaken sql params schema)
      → ((rows : List Row) → Shown sql params (state g old) (state g new) rows → (t : Contents)
      → Holds (state g old).now t → TellsAll cells width own rows (Is t) (Own t))
      → ReadsMany g cells width own sql params old new result → ReadsRow g old new result Is Own
  reads_many taken tells many = record {
    found = many_found Holds (λ t h. taken_simple sql params _ (taken _ (h.places, h.tables_exist))) tells
        many;
    looks = looks_weaker (Asks sql) HasTables
        (λ schema has. taken_asks sql params schema (taken schema has)) result _ _ many.looks;
    caused = λ clean t h own. many.caused clean (taken _ (h.places, h.tables_exist))
        (λ rows shown. (tells rows shown t h).owns own);
  }

  -- of tables of other schema versions
  pub reads_tables : (Has : Schema → Type 0) (Hold : Database → Contents → Type 0)
      → ((db : Database) (t : Contents) → Hold db t → Has db.schema) → OnlyAsks sql
      → ((schema : Schema) → Has schema → IsSimple (understood schema sql))
      → ((rows : List Row) → Shown sql params (state g old) (state g new) rows → (t : Contents)
      → Hold (state g old).now t → TellsAll cells width own rows (Is t) (Own t))
      → ReadsMany g cells width own sql params old new result → ReadsTables g Has Hold old new result Is Own
  reads_tables Has Hold there asks simple tells many = record {
    found = many_found Hold (λ t h. simple _ (there _ t h)) tells many;
    looks = looks_weaker (Asks sql) Has (λ schema has. asks schema) result _ _ many.looks;
    always = looks_weaker (Asks sql) Anything (λ schema has. asks schema) result _ _ many.looks;
    foreign = many_foreign Hold (λ t h. simple _ (there _ t h)) tells many;
  }

  -- of those that each schema version has
  pub reads_first : OnlyAsks sql → ((schema : Schema) → HasFirst schema → IsSimple (understood schema sql))
      → ((rows : List Row) → Shown sql params (state g old) (state g new) rows → (t : Contents)
      → HoldsFirst (state g old).now t → TellsAll cells width own rows (Is t) (Own t))
      → ReadsMany g cells width own sql params old new result → ReadsFirst g old new result Is Own
  reads_first =
      reads_tables HasFirst HoldsFirst (λ db t h. (h.0, (h.1.places, h.1.tables_exist)))

  -- of those that keep their counters apart
  pub reads_apart : (v : ℕ) → OnlyAsks sql
      → ((schema : Schema) → HasApart v schema → IsSimple (understood schema sql))
      → ((rows : List Row) → Shown sql params (state g old) (state g new) rows → (t : Contents)
      → HoldsApart v (state g old).now t → TellsAll cells width own rows (Is t) (Own t))
      → ReadsMany g cells width own sql params old new result → ReadsApart g v old new result Is Own
  reads_apart v =
      reads_tables (HasApart v) (HoldsApart v) (λ db t h. (h.0, (h.1.places, h.1.tables_exist)))

  -- of this one, whatever indexes it has
  pub reads_bare : OnlyAsks sql → ((schema : Schema) → HasBare schema → IsSimple (understood schema sql))
      → ((rows : List Row) → Shown sql params (state g old) (state g new) rows → (t : Contents)
      → HoldsBare (state g old).now t → TellsAll cells width own rows (Is t) (Own t))
      → ReadsMany g cells width own sql params old new result → ReadsBare g old new result Is Own
  reads_bare = reads_tables HasBare HoldsBare (λ db t h. (h.places, h.tables_exist))

-- ---- vouchers with their counts, and sessions with their totals

pub own_vouchers : (ws : List WholeVoucher) (vs : List VoucherRow) → map (λ (w : WholeVoucher). w.row) ws ≡ vs
    → AreOwn IsOwnVoucher vs → AreOwn IsOwnWholeVoucher ws
own_vouchers ws vs are own w has = own w.row (part_has (λ (x : WholeVoucher). x.row) ws vs are w has)

pub own_sessions : (ws : List WholeSession) (ss : List SessionRow) (ms : List TotalRow)
    → map (λ (w : WholeSession). w.row) ws ≡ ss → map total_of ws ≡ ms → AreOwn IsOwnSession ss
    → AreOwn IsOwnTotal ms → AreOwn IsOwnWholeSession ws
own_sessions ws ss ms rows totals own_rows own_totals w has = (
  own_rows w.row (part_has (λ (x : WholeSession). x.row) ws ss rows w has),
  own_totals (total_of w) (part_has total_of ws ms totals w has),
)

pub counts_of_read : (vs : List VoucherValue)
    → map count_of (map whole_voucher_read vs) ≡ map voucher_count vs
counts_of_read vs = map-map count_of whole_voucher_read vs

pub rows_of_read : (vs : List VoucherValue)
    → map (λ (w : WholeVoucher). w.row) (map whole_voucher_read vs) ≡ map voucher_read vs
rows_of_read vs = map-map (λ (w : WholeVoucher). w.row) whole_voucher_read vs

-- what is listed of the whole rows is listed of their parts
whole_listed : (passes : VoucherRow → Bool) (cmp : VoucherRow → VoucherRow → Ordering)
    (ws : List WholeVoucher)
    (vs : List VoucherRow) (ks : List CountRow) → map (λ (w : WholeVoucher). w.row) ws ≡ vs
    → map count_of ws ≡ ks → (values : List VoucherValue)
    → Lists (λ (w : WholeVoucher). passes w.row) (λ a b. cmp a.row b.row) ws (map whole_voucher_read values)
    → Lists passes cmp vs (map voucher_read values) × AreAmong (map voucher_count values) ks
whole_listed passes cmp ws vs ks rows counts values l = (
  subst₂ (Lists passes cmp) rows (rows_of_read values)
      (parts_listed (λ (w : WholeVoucher). w.row) passes cmp ws (map whole_voucher_read values) l),
  subst (λ cs. AreAmong cs ks) (counts_of_read values)
      (others_among count_of ws (map whole_voucher_read values) ks counts
      (listed_among (λ (w : WholeVoucher). passes w.row) (λ a b. cmp a.row b.row) ws
      (map whole_voucher_read values) l)),
)

-- the same of the first of them
pub first_listed : (limit : ℕ) (passes : VoucherRow → Bool) (cmp : VoucherRow → VoucherRow → Ordering)
    (ws : List WholeVoucher) (vs : List VoucherRow) (ks : List CountRow)
    → map (λ (w : WholeVoucher). w.row) ws ≡ vs → map count_of ws ≡ ks → (values : List VoucherValue)
    → ListsFirst limit (λ (w : WholeVoucher). passes w.row) (λ a b. cmp a.row b.row) ws
    (map whole_voucher_read values)
    → ListsFirst limit passes cmp vs (map voucher_read values) × AreAmong (map voucher_count values) ks
first_listed limit passes cmp ws vs ks rows counts values l =
    let row = λ (w : WholeVoucher). w.row in (
      record {
        all = map row l.all;
        lists = subst (λ ps. Lists passes cmp ps (map row l.all)) rows
            (parts_listed row passes cmp ws l.all l.lists);
        first = sym (rows_of_read values) ∙ ap (map row) l.first ∙ sym (take-map row limit l.all);
      },
      subst (λ cs. AreAmong cs ks) (counts_of_read values)
          (others_among count_of ws (map whole_voucher_read values) ks counts
          (λ x has. listed_among (λ (w : WholeVoucher). passes w.row) (λ a b. cmp a.row b.row) ws l.all
          l.lists x
          (has_taken limit l.all x (subst (λ xs. Has xs x) l.first has)))),
    )

-- the vouchers that pass a test, in an order
pub lists_vouchers : {S : Type 0} (g : Ghosts S) {old new : Held S} (sql : List ℕ) (params : Row)
    {result : Result (Vec VoucherValue Global) RowError} (passes : VoucherRow → Bool)
    (cmp : VoucherRow → VoucherRow → Ordering)
    → ((schema : Schema) → HasTables schema → IsTaken sql params schema)
    → ((rows : List Row) → Shown sql params (state g old) (state g new) rows → (t : Contents)
    (h : Holds (state g old).now t) → ListsAs whole_voucher_cells (λ w. passes w.row)
    (λ a b. cmp a.row b.row) (h.store our.Vouchers (always _, tt)).whole rows)
    → ReadsMany g (λ (v : VoucherValue). whole_voucher_cells (whole_voucher_read v)) 7
    (IsOfOwn whole_voucher_cells IsOwnWholeVoucher) sql params old new result
    → ReadsRow g old new result (λ t vs. Lists passes cmp t.vouchers (map voucher_read vs.items)
    × AreAmong (map voucher_count vs.items) t.counts) (λ t. AreOwn IsOwnVoucher t.vouchers)
lists_vouchers g sql params passes cmp taken listed many =
    reads_many g sql params taken (λ rows shown t h.
    let was = h.store our.Vouchers (always _, tt) in
    let it = tells_listed whole_voucher_cells 7 (λ v. refl) exact_whole_voucher IsOwnWholeVoucher
    whole_voucher_read (λ (w : WholeVoucher). passes w.row) (λ a b. cmp a.row b.row) was.whole rows
    (listed rows shown t h) in
    record {
      is = λ vs cut. whole_listed passes cmp was.whole t.vouchers t.counts was.their_rows was.their_counts
          vs.items (it.is vs cut);
      owns = λ own. it.owns (own_vouchers was.whole t.vouchers was.their_rows own);
    }) many

module _ {S A B : Type 0} (g : Ghosts S) {old new : Held S} {P : Contents → A → Type 0}
    {Q : Contents → B → Type 0} {Own : Contents → Type 0} where
  -- what is made of what was read
  pub row_made : {x : A} {Before : Contents → Type 0} (result : Result B RowError)
      → ReadsRow g old new (Ok x) P Before → ((t : Contents) → P t x → IfOk result (Q t))
      → ((t : Contents) → P t x → Own t → OnlyMemory result) → ReadsRow g old new result Q Own
  row_made result r is own = record {
    found = λ clean t h. is t (r.found clean t h);
    looks = looks_read HasTables result _ _ r.looks;
    caused = λ clean t h owns. memory_caused (state g old) (state g new) result
        (own t (r.found clean t h) owns);
  }

  -- a `?` on a reading that failed
  pub row_fails : {e : RowError} (result : Result B RowError) → IsErrAnd result (λ f. f ≡ e)
      → ReadsRow g old new (Err e) P Own → ReadsRow g old new result Q Own
  row_fails result fails r =
      let told = err_from_is_err_and result fails in
      subst (λ (it : Result B RowError). ReadsRow g old new it Q Own) (sym (told.1 ∙ ap Err told.2))
      (record { found = λ clean t h. tt; looks = r.looks; caused = r.caused })
