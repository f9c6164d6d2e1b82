-- CREATE INDEX keeps all that the tables hold, and the index exists after it.
use Rattle.portal_tables_rows.proofs.Common.{◌≡◌, inl, inr, lit≤, ℕ, List, [], ◌∷◌, ◌++◌, Ok}
use Rattle.portal_tables_rows.proofs.Common.{Result, Error, Ghosts, refl, sym, ap, subst, ◌∙◌, Schema}
use Rattle.portal_tables_rows.proofs.Common.{Table, Database, State, Index, next_tree, Has, all_has}
use Rattle.portal_tables_rows.proofs.Common.{Contents, TablePlace, IsTableAt, HoldsIn, KeepsOthers}
use Rattle.portal_tables_rows.proofs.Common.{this_schema_version}
use Rattle.sqlite.specs.declared.transaction.Transaction.{Transaction}
use Rattle.sqlite_catalog.specs.Change.{with_index}
use Rattle.portal_tables_sql.specs.Indexes.{described_index, HasOurIndex}
use Rattle.portal_tables_sql.specs.Inside.{Inside, Runs}
use Rattle.portal_tables_sql.specs.Tables.{IsTableIn, Together, table_of}
use Rattle.portal_tables_sql.specs.declared.our_indexes.OurIndex.{OurIndex}
use Rattle.portal_tables_sql.specs.declared.our_indexes.OurIndex.TheVariants as by
use Rattle.portal_tables_sql.proofs.IndexLemmas.{HasIndexed, indexes, still_stands_indexed, rows_indexed}
use Rattle.portal_tables_sql.proofs.IndexTexts.{index_at, index_defined, index_names_itself, makes_index}
use Rattle.portal_tables_sql.proofs.InsideLemmas.{inside_none, inside_then}
use Rattle.portal_tables_sql.proofs.Named.{has_part}
use Rattle.portal_tables_sql.proofs.TableExistsLemmas.{has_last}
use Rattle.portal_tables_sql.proofs.TableLemmas.{tree_is}
use Rattle.portal_tables_sql.proofs.Texts.{same_value}
use Rattle.portal_tables_rows.specs.Creation.{Indexes}
use Rattle.portal_tables_rows.specs.Holds.{StoresIn}
use Rattle.portal_tables_rows.proofs.OthersLemmas.{others_none, others_then}
use Rattle.portal_tables_rows.proofs.OthersMade.{has_more}

still_at : (schema : Schema) (index : Index) (table : ℕ → Table) (place : TablePlace)
    → IsTableAt schema table place → IsTableAt (with_index schema index) table place
still_at schema index table place h = record {
  exists = still_stands_indexed schema index place.at (table place.tree) h.exists;
  unacted = h.unacted;
}

-- the table of the index, by the number of its tree
abbrev on_table : OurIndex → ℕ → Table
on_table x = table_of (described_index x).table

abbrev IsMade : OurIndex → Database → ℕ → Database → Type 0
IsMade x db tree after = HasIndexed db (on_table x tree) (described_index x).create after

-- this version has the table of each index
pub is_there : (x : OurIndex) → IsTableIn Together this_schema_version (described_index x).table
is_there by.PlansById = (lit≤ tt, tt)
is_there by.BatchesById = (lit≤ tt, tt)
is_there by.BatchesByIssue = (lit≤ tt, tt)
is_there by.VouchersByCode = (lit≤ tt, tt)
is_there by.VouchersByBatch = (lit≤ tt, tt)
is_there by.SessionsByDevice = (lit≤ tt, tt)
is_there by.GrantsByCode = (lit≤ tt, tt)
is_there by.RequestsByKey = (lit≤ tt, tt)

-- the index exists
now_indexed : (x : OurIndex) (db : Database) (tree : ℕ) (after : Database) → IsMade x db tree after
    → HasOurIndex x after.schema tree
now_indexed x db tree after k =
    let defined = index_defined x tree in
    let bare : k.index ≡ index_at x tree defined.0 = same_value (sym k.defined ∙ defined.1) in
    let made : Index = record (index_at x tree defined.0) { tree = next_tree db.schema; table = tree } in
    let is : after.schema ≡ with_index db.schema made =
    k.is ∙ ap (λ (i : Index). with_index db.schema
    (record i { tree = next_tree db.schema; table = (on_table x tree).tree })) bare
    ∙ ap (λ (n : ℕ). with_index db.schema (record (index_at x tree defined.0)
    { tree = next_tree db.schema; table = n })) (tree_is Together (described_index x).table tree) in
    subst (λ (s : Schema). HasOurIndex x s tree) (sym is) (
      made,
      has_last db.schema.indexes made,
      record
          { name = index_names_itself x; table = refl; columns = refl },
    )

-- an index stays where another is made
still_indexed : (x y : OurIndex) (db : Database) (tree other : ℕ) (after : Database) → IsMade x db other after
    → HasOurIndex y db.schema tree → HasOurIndex y after.schema tree
still_indexed x y db tree other after k it =
    subst (λ (s : Schema). HasOurIndex y s tree) (sym k.is)
    (it.0, has_more db.schema.indexes _ it.0 it.1, it.2)

still_holds : (xs : List OurIndex) (x : OurIndex) (db after : Database) (t : Contents)
    (h : HoldsIn this_schema_version xs db t) → IsMade x db (h.places (described_index x).table).tree after
    → HoldsIn this_schema_version (xs ++ x ∷ []) after t
still_holds xs x db after t h k =
    let on : TablePlace = h.places (described_index x).table in
    let index : Index = record k.index { tree = next_tree db.schema; table = (on_table x on.tree).tree } in
    record {
      places = h.places;
      tables_exist = record {
        tables = λ y has. subst (λ s. IsTableAt s (table_of y) (h.places y)) (sym k.is)
            (still_at db.schema index (table_of y) (h.places y) (h.tables_exist.tables y has));
        indexed = λ y has. elim (has_part xs (x ∷ []) y has) [
          | inl was ↦ still_indexed x y db (h.places (described_index y).table).tree on.tree after k
              (h.tables_exist.indexed y was)
          | inr (inl same) ↦ subst (λ z. HasOurIndex z after.schema (h.places (described_index z).table).tree)
              (sym same) (now_indexed x db on.tree after k)
          | inr (inr none) ↦ absurd none
        ];
      };
      store = λ y has.
          let same = rows_indexed db _ _ after (h.places y).at (table_of y (h.places y).tree) k
          (h.tables_exist.tables y has).exists in
          subst (λ rows. StoresIn Together y rows t)
          (sym (subst (λ n. after.trees n ≡ db.trees n) (tree_is Together y (h.places y).tree) same))
          (h.store y has);
      sound = k.sound;
    }

others_indexed : (db : Database) (on : Table) (sql : List ℕ) (after : Database)
    → HasIndexed db on sql after → KeepsOthers db after
others_indexed db on sql after k x has other =
    (subst (λ (s : Schema). Has s.tables x) (sym k.is) has, all_has _ db.schema.tables x k.rows has)

-- ---- one statement after another

pub none_indexed : {S : Type 0} (g : Ghosts S) (at : Transaction S) → Inside g (Indexes []) at at (Ok tt)
none_indexed g at = inside_none g {Does = Indexes []} at (λ s inside. record {
  holds = λ t h. h;
  others = λ t h. others_none s.now;
  committed = refl;
  mode = inside;
})

indexed_then : (xs : List OurIndex) (x : OurIndex) {sql : List ℕ} → sql ≡ (described_index x).create
    → (a b c : State) → Indexes xs a b → Runs sql [] b c → Indexes (xs ++ x ∷ []) a c
indexed_then xs x {sql = sql} is a b c one ran =
    let made = λ (t : Contents) (h : HoldsIn this_schema_version xs b.now t).
    indexes (described_index x).create (on_table x) (h.places (described_index x).table).at
    (h.places (described_index x).table).tree b c ran.count (makes_index x)
    (h.tables_exist.tables (described_index x).table (is_there x)).exists (rw is at ran.executes.0) in
    record {
      holds = λ t h. let mid = one.holds t h in still_holds xs x b.now c.now t mid (made t mid);
      others = λ t h.
          let mid = one.holds t h in
          others_then a.now b.now c.now (one.others t h)
          (others_indexed b.now _ (described_index x).create c.now (made t mid));
      committed = ran.executes.1.committed_is ∙ one.committed;
      mode = ran.executes.1.mode;
    }

pub one_more_indexed : {S : Type 0} (g : Ghosts S) (xs : List OurIndex) (x : OurIndex) {sql : List ℕ}
    {a b c : Transaction S} {result : Result (Unit {0}) Error}
    → sql ≡ (described_index x).create → Inside g (Indexes xs) a b (Ok tt) → Inside g (Runs sql []) b c result
    → Inside g (Indexes (xs ++ x ∷ [])) a c result
one_more_indexed g xs x {sql = sql} is one two = inside_then g {First = Indexes xs} {Second = Runs sql []}
    (Indexes (xs ++ x ∷ [])) (λ p q made. made.mode) (indexed_then xs x is) one two
