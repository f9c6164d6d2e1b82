-- A row more in a table, and rows that change in place.
use Rattle.portal_tables_sql.proofs.Common.{◌≡◌, inl, inr, ℕ, ℤ, pos, Bool, true, false, cond, ◌&&◌, List, []}
use Rattle.portal_tables_sql.proofs.Common.{◌∷◌, ◌++◌, map, Option, Some, None, option_map, IsTrue, refl, sym}
use Rattle.portal_tables_sql.proofs.Common.{ap, ap₂, subst, ◌∙◌, Less, Equal, Greater, Null, Int, cast}
use Rattle.portal_tables_sql.proofs.Common.{cast_row, Table, Schema, overlay, IsAnswer, State, Has, id_in}
use Rattle.portal_tables_sql.proofs.Common.{next_rowid, ids_of, Given, all_has, int_is, is_int}
use Rattle.portal_tables_sql.proofs.Common.{IsTable-put_row, all-put_row, Term, col, eval_all, number}
use Rattle.portal_tables_sql.proofs.Common.{or_null, Stores, less_rowid, put_by}
use Rattle.std.specs.Ordering.{match_ordering}
use Rattle.sqlite.specs.declared.types.Value.{Value}
use Rattle.sqlite.specs.Kind.TheVariants.{Integer}
use Rattle.sqlite.specs.Order.{Row, value_cmp}
use Rattle.sqlite.specs.Tree.{rowid, put_row}
use Rattle.sqlite.specs.Values.{or_null as nullable, bound_value}
use Rattle.sqlite_sql.specs.Ops.{unary, is_true, from_truth}
use Rattle.sqlite_rules.specs.Edit.{edit_of}
use Rattle.portal_tables_sql.specs.Stored.{whole_row}
use Rattle.portal_tables_sql.proofs.RowLemmas.{more_rows, changed_if, still_rows}
use Rattle.portal_tables_sql.proofs.Queries.{over}
use Rattle.portal_tables_sql.proofs.Writes.{Edits, rows_changed, simple, meant}

either : (b : Bool) (x : Value) → cond b x x ≡ x
either true x = refl
either false x = refl

pub cast_null : cast Integer Null ≡ Null
unfolding unary
cast_null = either _ Null

pub cast_int : (n : ℤ) → cast Integer (Int n) ≡ Int n
unfolding unary
cast_int n = either _ (Int n)

pub cast_or_null : (o : Option ℕ) → cast Integer (or_null o) ≡ or_null o
cast_or_null None = cast_null
cast_or_null (Some n) = cast_int (pos n)

pub cast_signed_or_null : (o : Option ℤ) → cast Integer (nullable Int o) ≡ nullable Int o
cast_signed_or_null None = cast_null
cast_signed_or_null (Some n) = cast_int n

-- a number that may be NULL, as it is bound
pub bound_signed : (o : Option ℤ) → bound_value (nullable Int o) ≡ nullable Int o
bound_signed None = refl
bound_signed (Some n) = refl

pub bound_number : (o : Option ℕ) → bound_value (nullable Int (option_map pos o)) ≡ or_null o
bound_number None = refl
bound_number (Some n) = refl

pub truth_is : (b : Bool) → (is_true (from_truth (Some b)) && true) ≡ b
truth_is true = refl
truth_is false = refl

-- ---- a row more

map_last : {X Y : Type 0} (f : X → Y) (xs : List X) (x : X) → map f (xs ++ x ∷ []) ≡ map f xs ++ f x ∷ []
map_last f [] x = refl
map_last f (y ∷ xs) x = ap (λ l. f y ∷ l) (map_last f xs x)

-- a row with the next rowid
pub appended : {P : Type 0} (cells : P → Row) (rows now : List Row) (ps : List P) (p : P)
    → Stores less_rowid cells rows ps → now ≡ rows ++ (Int (next_rowid rows) ∷ cells p) ∷ []
    → Stores less_rowid cells now (ps ++ p ∷ [])
appended cells rows now ps p h is = subst (λ r. Stores less_rowid cells r (ps ++ p ∷ [])) (sym is) (record {
  are = more_rows rows (cells p) h.are;
  is = map_last less_rowid rows _ ∙ ap (λ l. l ++ cells p ∷ []) h.is ∙ sym (map_last cells ps p);
})

module _ {P : Type 0} (key : P → ℕ) (stored : P → Row)
    (ids : (p : P) → rowid (stored p) ≡ number (key p)) where
  put_mapped : (new : P) (ps : List P) → put_row (stored new) (map stored ps) ≡ map stored (put_by key new ps)
  put_mapped new [] = refl
  put_mapped new (p ∷ ps) = rw (ids p, ids new)
      (elim (value_cmp (number (key p)) (number (key new))) as (λ o. match_ordering o (stored p ∷ put_row
      (stored new) (map stored ps)) (stored new ∷ map stored ps) (stored new ∷ stored p ∷ map stored ps)
      ≡ map stored (match_ordering o (p ∷ put_by key new ps) (new ∷ ps) (new ∷ p ∷ ps))) [
        | Less ↦ ap (λ l. stored p ∷ l) (put_mapped new ps)
        | Equal ↦ refl
        | Greater ↦ refl
      ])

  whole_is : (rows : List Row) → map whole_row rows ≡ rows
  whole_is [] = refl
  whole_is (r ∷ rows) = ap (λ l. r ∷ l) (whole_is rows)

  -- a row with a rowid of its own
  pub put_in : (rows now : List Row) (ps : List P) (new : P) → Stores whole_row stored rows ps
      → now ≡ put_row (stored new) rows → Stores whole_row stored now (put_by key new ps)
  put_in rows now ps new h is = subst (λ r. Stores whole_row stored r (put_by key new ps)) (sym is) (record {
    are = record {
      rise = IsTable-put_row (stored new) rows h.are.rise;
      keyed = all-put_row _ (stored new) rows (rw (ids new) refl) h.are.keyed;
    };
    is = whole_is _ ∙ ap (put_row (stored new)) (sym (whole_is rows) ∙ h.is) ∙ put_mapped new ps;
  })

-- ---- rows that change in place

-- what is done to each row is done to each value
carried : {P : Type 0} (cut : Row → Row) (cells : P → Row) (F : Row → Row) (G : P → P) (rows : List Row)
    (ps : List P) → map cut rows ≡ map cells ps
    → ((r : Row) (p : P) → Has rows r → cut r ≡ cells p → cut (F r) ≡ cells (G p))
    → map cut (map F rows) ≡ map cells (map G ps)
carried cut cells F G [] [] is each = refl
carried cut cells F G [] (p ∷ ps) is each = absurd (cc)
carried cut cells F G (r ∷ rows) [] is each = absurd (cc)
carried cut cells F G (r ∷ rows) (p ∷ ps) is each =
    let first : cut r ≡ cells p = cc in
    let rest : map cut rows ≡ map cells ps = cc in
    ap₂ ◌∷◌ (each r p (inl refl) first) (carried cut cells F G rows ps rest (λ x q h. each x q (inr h)))

-- each row is that of some value
cells_at : {P : Type 0} (cut : Row → Row) (cells : P → Row) (rows : List Row) (ps : List P)
    → map cut rows ≡ map cells ps → (r : Row) → Has rows r → (p : P) × (cut r ≡ cells p)
cells_at cut cells [] ps is r h = absurd h
cells_at cut cells (x ∷ rows) [] is r h = absurd (cc)
cells_at cut cells (x ∷ rows) (p ∷ ps) is r (inl same) = (p, rw same (cc))
cells_at cut cells (x ∷ rows) (p ∷ ps) is r (inr h) = cells_at cut cells rows ps (cc) r h

-- a row with an integer rowid is that and its columns
pub opens_keyed : {P : Type 0} (cells : P → Row) (r : Row) (p : P) → IsTrue (is_int (rowid r))
    → less_rowid r ≡ cells p → (n : ℤ) × (r ≡ Int n ∷ cells p)
opens_keyed cells [] p keyed is = absurd (cc)
opens_keyed cells (v ∷ r) p keyed is = (id_in v, ap₂ ◌∷◌ (int_is v keyed) is)

pub opens_numbered : {P : Type 0} (stored : P → Row) (r : Row) (p : P) → IsTrue (is_int (rowid r))
    → whole_row r ≡ stored p → (n : ℤ) × (r ≡ stored p)
opens_numbered stored r p keyed is = (pos 0, is)

module _ {P : Type 0} (cut : Row → Row) (stored : P → Row) (row_of : ℤ → P → Row)
    (opens : (r : Row) (p : P) → IsTrue (is_int (rowid r)) → cut r ≡ stored p → (n : ℤ) × (r ≡ row_of n p))
    (cuts : (n : ℤ) (p : P) → cut (row_of n p) ≡ stored p) (t : Table) (test terms : List Term) (params : Row)
    (passes : P → Bool) (set : P → P)
    (keeps : (r : Row) → rowid (eval_all terms (params ∷ r ∷ [])) ≡ rowid r)
    (tests : (n : ℤ) (p : P) → meant t.tree test (col 1 0 ∷ terms) params (row_of n p) ≡ passes p)
    (sets : (n : ℤ) (p : P) → eval_all terms (params ∷ row_of n p ∷ []) ≡ row_of n (set p))
    (casts : (n : ℤ) (p : P) → cast_row (simple t) (row_of n (set p)) ≡ row_of n (set p)) where
  abbrev pub set_if : P → P
  set_if p = cond (passes p) (set p) p

  one_set : (n : ℤ) (p : P) (b : Bool) → b ≡ passes p
      → cut (cond b (eval_all terms (params ∷ row_of n p ∷ [])) (row_of n p)) ≡ stored (set_if p)
  one_set n p true is = rw (← is) (ap cut (sets n p) ∙ cuts n (set p))
  one_set n p false is = rw (← is) (cuts n p)

  -- an UPDATE sets the values that pass
  pub rows_set : {schema : Schema} {old new : State} (ps : List P)
      → Stores cut stored (old.now.trees t.tree) ps → (rows : List Row)
      → IsAnswer (over t.tree test (col 1 0 ∷ terms)) (overlay old.now.trees []) params rows
      → Edits old new schema (edit_of old.now.trees (simple t) (ids_of rows) Given 1 rows)
      → Stores cut stored (new.now.trees t.tree) (map set_if ps)
  rows_set {schema = schema} {old = old} {new = new} ps h rows answer e =
      let was = old.now.trees t.tree in
      let change : Row → Row = λ r. eval_all terms (params ∷ r ∷ []) in
      let F = changed_if (meant t.tree test (col 1 0 ∷ terms) params) change in
      let row_is : (r : Row) → Has was r → (p : P) × (n : ℤ) × (r ≡ row_of n p) = λ r k.
      let p = cells_at cut stored was ps h.is r k in
      let o = opens r p.0 (all_has _ was r h.are.keyed k) p.1 in
      (p.0, o.0, o.1) in
      let makes : (r : Row) → Has was r → cast_row (simple t) (change r) ≡ change r = λ r k.
      let o = row_is r k in
      subst (λ x. cast_row (simple t) (change x) ≡ change x) (sym o.2)
      (subst (λ x. cast_row (simple t) x ≡ x) (sym (sets o.1 o.0)) (casts o.1 o.0)) in
      let now = rows_changed t test terms params change keeps h.are makes rows answer e in
      let each : (r : Row) (p : P) → Has was r → cut r ≡ stored p → cut (F r) ≡ stored (set_if p) =
      λ r p k is.
      let o = opens r p (all_has _ was r h.are.keyed k) is in
      subst (λ x. cut (F x) ≡ stored (set_if p)) (sym o.1) (one_set o.0 p _ (tests o.0 p)) in
      subst (λ r. Stores cut stored r (map set_if ps)) (sym now) (record {
        are = still_rows (meant t.tree test (col 1 0 ∷ terms) params) change keeps was h.are;
        is = carried cut stored F set_if was ps h.is each;
      })
