-- Tables that are dropped one after another, beside others.
use Rattle.portal_tables_rows.proofs.Common.{◌≡◌, inl, inr, ◌==◌, Result, Ok, ℕ, true, false, codes}
use Rattle.portal_tables_rows.proofs.Common.{List, [], ◌∷◌, refl, sym, ap, subst, ◌∙◌, true≢false, cases_Bool}
use Rattle.portal_tables_rows.proofs.Common.{Error, Ghosts, State, Schema, Table, Database}
use Rattle.portal_tables_rows.proofs.Common.{Has, all_has, place_has}
use Rattle.portal_tables_rows.proofs.Common.{TableExists, TablePlace, KeepsOthers, AreNamesFree}
use Rattle.portal_tables_rows.proofs.Common.{is_own, bytes_eq}
use Rattle.portal_tables_rows.proofs.Common.{IsUnactedBy}
use Rattle.std.proofs.lemmas.Slice.Eq.{bytes_eq-Decides}
use Rattle.sqlite.specs.declared.transaction.Transaction.{Transaction}
use Rattle.sqlite_schema.specs.Names.{same_name}
use Rattle.sqlite_rules.proofs.ListLemmas.{has_kept}
use Rattle.sqlite_catalog.specs.Change.{without_table}
use Rattle.portal_tables_sql.specs.Dropped.{HasDropped}
use Rattle.portal_tables_sql.specs.Inside.{Inside, Runs}
use Rattle.portal_tables_sql.specs.Tables.{Layout, Apart, Together, drop_of, name_of, table_in}
use Rattle.portal_tables_sql.specs.declared.our_tables.OurTable.{OurTable}
use Rattle.portal_tables_sql.specs.declared.our_tables.OurTable.TheVariants as our
use Rattle.portal_tables_sql.proofs.DropTexts.{drops_table}
use Rattle.portal_tables_sql.proofs.Drops.{IsDrop, drops}
use Rattle.portal_tables_sql.proofs.DroppedLemmas.{dropped_counts, dropped_stands, dropped_unacted, is_left}
use Rattle.portal_tables_sql.proofs.DroppedLemmas.{left_on}
use Rattle.portal_tables_sql.proofs.InsideLemmas.{inside_by, inside_none, inside_then}
use Rattle.portal_tables_sql.proofs.TableLemmas.{for_each, name_is}
use Rattle.portal_tables_rows.specs.Creation.{AreDistinct, AreStanding, DropsTables}
use Rattle.portal_tables_rows.proofs.OthersLemmas.{others_none, others_then, own_named}

plain_in : (layout : Layout) (x : OurTable) (n : ℕ) → (table_in layout x n).is_counted ≡ false
plain_in (Apart keyed) x n = for_each (λ y. (table_in (Apart keyed) y n).is_counted ≡ false)
    refl refl refl refl refl refl refl refl refl x
plain_in Together x n = for_each (λ y. (table_in Together y n).is_counted ≡ false)
    refl refl refl refl refl refl refl refl refl x

is_no_sequence : (x : OurTable) → same_name (name_of x) (codes "sqlite_sequence") ≡ false
unfolding same_name
is_no_sequence our.Head = refl
is_no_sequence our.Plans = refl
is_no_sequence our.Batches = refl
is_no_sequence our.Vouchers = refl
is_no_sequence our.Sessions = refl
is_no_sequence our.Grants = refl
is_no_sequence our.Counts = refl
is_no_sequence our.Totals = refl
is_no_sequence our.Requests = refl

-- these tables are left of those that were there, and the other tables are kept
pub record AreLeft (layout : Layout) (left : List OurTable) (old new : Database) : Type 0 where
  pub distinct : AreDistinct left
  pub standing : AreStanding layout left new.schema
  pub free : AreNamesFree new.schema
  pub others : KeepsOthers old new

module _ (layout : Layout) (x : OurTable) (left : List OurTable) (db after : Database) (place : TablePlace)
    (distinct : AreDistinct (x ∷ left))
    (standing : AreStanding layout (x ∷ left) db.schema) (free : AreNamesFree db.schema)
    (exists : TableExists db.schema place.at (table_in layout x place.tree))
    (k : HasDropped db (table_in layout x place.tree).tree after) where
  abbrev gone : ℕ
  gone = (table_in layout x place.tree).tree

  -- what has its tree is the table that goes
  is_it : (t : Table) → Has db.schema.tables t → (t.tree == gone) ≡ true → t.name ≡ name_of x
  is_it t has same =
      ap (λ (u : Table). u.name) (exists.only t has same) ∙ name_is layout x place.tree

  differs : (y : OurTable) → Has left y → (at tree : ℕ) → TableExists db.schema at (table_in layout y tree)
      → ((table_in layout y tree).tree == gone) ≡ false
  differs y has at tree there = elim (cases_Bool ((table_in layout y tree).tree == gone)) [
    | inl same ↦
        let e : name_of y ≡ name_of x = sym (name_is layout y tree)
        ∙ is_it (table_in layout y tree) (place_has db.schema.tables at _ there.there) same in
        let off : bytes_eq (name_of x) (name_of y) ≡ false =
        all_has (λ z. bytes_eq (name_of x) (name_of z) ≡ false) left y distinct.0 has in
        let on : bytes_eq (name_of x) (name_of y) ≡ true =
        (bytes_eq-Decides (name_of x) (name_of y)).1 (sym e) in
        absurd (true≢false (sym on ∙ off))
    | inr off ↦ off
  ]

  left_standing : AreStanding layout left after.schema
  left_standing y has =
      let was = standing y (inr has) in
      let other = differs y has was.0.at was.0.tree was.1 in
      let now = dropped_stands db.schema gone was.0.at (table_in layout y was.0.tree) was.1 other in (
        record { at = now.0; tree = was.0.tree },
        subst (λ (s : Schema). TableExists s now.0 (table_in layout y was.0.tree)) (sym k.is) now.1,
      )

  left_free : AreNamesFree after.schema
  left_free = subst AreNamesFree (sym k.is) (record {
    numbered = dropped_counts db.schema place.at (table_in layout x place.tree) exists
        (subst (λ n. same_name n (codes "sqlite_sequence") ≡ false) (sym (name_is layout x place.tree))
        (is_no_sequence x)) free.numbered;
    unacted = λ y. dropped_unacted db.schema gone (name_of y) (free.unacted y);
  })

  left_others : KeepsOthers db after
  left_others t has other =
      let apart : (t.tree == gone) ≡ false = elim (cases_Bool (t.tree == gone)) [
        | inl same ↦ absurd (true≢false (sym (own_named x) ∙ ap is_own (sym (is_it t has same)) ∙ other))
        | inr off ↦ off
      ] in
      let stays : Has (without_table db.schema gone).tables t =
      has_kept (is_left gone) db.schema.tables t has (left_on gone t apart) in (
        subst (λ (s : Schema). Has s.tables t) (sym k.is) stays,
        all_has _ (without_table db.schema gone).tables t k.others stays,
      )

-- ---- one statement after another

-- of these tables, those are left
pub record DropsSome (xs left : List OurTable) (old new : State) : Type 0 where
  pub leaves : (layout : Layout) → AreDistinct xs → AreStanding layout xs old.now.schema
      → AreNamesFree old.now.schema → AreLeft layout left old.now new.now
  pub committed : new.committed ≡ old.committed
  pub mode : new.in_transaction ≡ true

abbrev pub DropsInside : {S : Type 0} → Ghosts S → List OurTable → List OurTable → Transaction S →
    Transaction S
    → Result (Unit {0}) Error → Type 0
DropsInside g xs left = Inside g (DropsSome xs left)

pub none_dropped : {S : Type 0} (g : Ghosts S) (xs : List OurTable) (at : Transaction S)
    → DropsInside g xs xs at at (Ok tt)
none_dropped g xs at = inside_none g {Does = DropsSome xs xs} at (λ s inside. record {
  leaves = λ layout distinct standing free.
      record { distinct = distinct; standing = standing; free = free; others = others_none s.now };
  committed = refl;
  mode = inside;
})

dropped_then : (xs : List OurTable) (x : OurTable) (left : List OurTable) {sql : List ℕ} → sql ≡ drop_of x
    → (a b c : State) → DropsSome xs (x ∷ left) a b → Runs sql [] b c → DropsSome xs left a c
dropped_then xs x left {sql = sql} is a b c one ran = record {
  leaves = λ layout distinct standing free.
      let mid = one.leaves layout distinct standing free in
      let it = mid.standing x (inl refl) in
      let t = table_in layout x it.0.tree in
      let named = name_is layout x it.0.tree in
      let k = drops (drop_of x) it.0.at t b c ran.count
      (subst (IsDrop (drop_of x)) (sym named) (drops_table x))
      it.1 (plain_in layout x it.0.tree) (subst (IsUnactedBy b.now.schema) (sym named) (mid.free.unacted x))
      (rw is at ran.executes.0) in
      record {
        distinct = mid.distinct.1;
        standing = left_standing layout x left b.now c.now it.0 mid.distinct mid.standing mid.free it.1 k;
        free = left_free layout x left b.now c.now it.0 mid.distinct mid.standing mid.free it.1 k;
        others = others_then a.now b.now c.now mid.others
            (left_others layout x left b.now c.now it.0 mid.distinct mid.standing mid.free it.1 k);
      };
  committed = ran.executes.1.committed_is ∙ one.committed;
  mode = ran.executes.1.mode;
}

pub one_more_dropped : {S : Type 0} (g : Ghosts S) (xs : List OurTable) (x : OurTable) (left : List OurTable)
    {sql : List ℕ} {a b c : Transaction S} {result : Result (Unit {0}) Error}
    → sql ≡ drop_of x → DropsInside g xs (x ∷ left) a b (Ok tt) → Inside g (Runs sql []) b c result
    → DropsInside g xs left a c result
one_more_dropped g xs x left {sql = sql} is one two =
    inside_then g {First = DropsSome xs (x ∷ left)} {Second = Runs sql []}
    (DropsSome xs left) (λ p q some. some.mode) (dropped_then xs x left is) one two

pub all_dropped : {S : Type 0} (g : Ghosts S) (xs : List OurTable) {a b : Transaction S}
    {result : Result (Unit {0}) Error} → DropsInside g xs [] a b result → Inside g (DropsTables xs) a b result
all_dropped g xs one = inside_by g (λ p q some. record {
  drops = λ layout distinct standing free.
      let it = some.leaves layout distinct standing free in (it.free, it.others);
  committed = some.committed;
  mode = some.mode;
}) one
