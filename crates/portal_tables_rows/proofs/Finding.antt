-- From the first row of a result to the value that is read.
use Rattle.portal_tables_rows.proofs.Common.{◌≡◌, ℕ, List, map, filter, take, slice_get, Option, Some, None}
use Rattle.portal_tables_rows.proofs.Common.{Result, is_eq, true, IfOk-weaker, IsPermutation, Schema, Shown}
use Rattle.portal_tables_rows.proofs.Common.{looks_weaker, Value, Row, column, value_cmp}
use Rattle.portal_tables_rows.proofs.Common.{Ghosts, Held, state, number, Finds, FindsLast, IsSelection}
use Rattle.portal_tables_rows.proofs.Common.{by_column, columns, has_key, finds_some, finds_none, finds_last}
use Rattle.portal_tables_rows.proofs.Common.{finds_no_last, Contents, AreOwn, IsOfOwn, Holds, HasTables}
use Rattle.std.specs.Prelude.{MatchOption}
use Rattle.portal_tables_rows.specs.declared.rows.RowError.{RowError}
use Rattle.portal_tables_rows.specs.Selects.{ReadsOne, ReadsRow}
use Rattle.portal_tables_sql.specs.Asks.{Asks}
use Rattle.portal_tables_sql.specs.Causes.{IsTaken}
use Rattle.portal_tables_sql.proofs.Causes.{taken_asks}
use Rattle.portal_tables_rows.specs.Foreign.{IsOwnRow}
use Rattle.portal_tables_rows.proofs.Foreign.{of_first, of_last}

-- what the first row gives, if it is read as a value with its cells
pub record Tells {T : Type 0} (cells : T → Row) (width : ℕ) (own : Row → Type 0) (rows : List Row)
    (Is : Option T → Type 0) (Own : Type 0) : Type 0 where
  pub some : (row : Row) (x : T) → slice_get rows 0 ≡ Some row → cells x ≡ columns width row → Is (Some x)
  pub none : slice_get rows 0 ≡ None → Is None
  pub owns : Own → (row : Row) → slice_get rows 0 ≡ Some row → IsOwnRow own width row

-- the same where more is known of the rows
pub tells_of : {T : Type 0} {cells : T → Row} {width : ℕ} {own : Row → Type 0} {rows : List Row}
    {Is : Option T → Type 0} {Own Whole : Type 0} → (Whole → Own) → Tells cells width own rows Is Own
    → Tells cells width own rows Is Whole
tells_of owns t = record { some = t.some; none = t.none; owns = λ whole. t.owns (owns whole) }

-- the row that was found, by what it tells
told : {T : Type 0} {cells : T → Row} {width : ℕ} {own : Row → Type 0} {rows : List Row}
    {Is : Option T → Type 0} {Own : Type 0} → Tells cells width own rows Is Own → (found : Option T)
    → MatchOption found (slice_get rows 0 ≡ None)
    (λ x. (row : Row) × (slice_get rows 0 ≡ Some row) × (cells x ≡ columns width row)) → Is found
told tells None none = tells.none none
told tells (Some x) it = tells.some it.0 x it.1 it.2

-- from what a text means to the row that is read
pub reads_one : {S T : Type 0} (g : Ghosts S) {old new : Held S} {cells : T → Row}
    {width : ℕ} {proper : T → Type 0} {own : Row → Type 0} (sql : List ℕ) (params : Row)
    {result : Result (Option T) RowError}
    {Is : Contents → Option T → Type 0} {Own : Contents → Type 0}
    → ((schema : Schema) → HasTables schema → IsTaken sql params schema)
    → ((rows : List Row) → Shown sql params (state g old) (state g new) rows → (t : Contents)
    → Holds (state g old).now t → Tells cells width own rows (Is t) (Own t))
    → ReadsOne g cells width proper own sql params old new result → ReadsRow g old new result Is Own
reads_one g sql params {result = result} taken tells one = record {
  found = λ clean t h.
      IfOk-weaker result _ _ (λ found it. told (tells it.0 it.1 t h) found it.2) (one.rows clean);
  looks = looks_weaker (Asks sql) HasTables
      (λ schema has. taken_asks sql params schema (taken schema has)) result _ _ one.looks;
  caused = λ clean t h own. one.caused clean (taken _ (h.places, h.tables_exist))
      (λ rows shown. (tells rows shown t h).owns own);
}

module _ {P T K : Type 0} (cells : P → Row) (n : ℕ) (all : (p : P) → columns n (cells p) ≡ cells p)
    (exact : (a b : P) → cells a ≡ cells b → a ≡ b) (read : T → P) (IsOwn : P → Type 0)
    (at : ℕ) (key : P → K) (k : K) (cell : K → Value) (keyed : (p : P) → column (cells p) at ≡ cell (key p))
    (same : (a b : K) → is_eq (value_cmp (cell a) (cell b)) ≡ true → a ≡ b)
    (itself : (a : K) → is_eq (value_cmp (cell a) (cell a)) ≡ true) (ps : List P)
    (Is : Option T → Type 0) where
  -- of the rows with the key the first
  pub by_key : (rows : List Row) → IsPermutation (filter (has_key at (cell k)) (map cells ps)) rows
      → ((x : T) → Finds key k ps (Some (read x)) → Is (Some x)) → (Finds key k ps None → Is None)
      → Tells (λ x. cells (read x)) n (IsOfOwn cells IsOwn) rows Is (AreOwn IsOwn ps)
  by_key rows answer some none = record {
    some = λ row x got is. some x
        (finds_some cells at key k cell keyed same itself n all exact ps rows answer row (read x) got is);
    none = λ got. none (finds_none cells at key k cell keyed same itself n all exact ps rows answer got);
    owns = λ own row got.
        of_first cells n all IsOwn ps own _ rows answer row got;
  }

  -- and the one with the greatest number, with ORDER BY DESC LIMIT 1
  pub by_last : (order : ℕ) (number_of : P → ℕ)
      (ordered : (p : P) → column (cells p) order ≡ number (number_of p)) (sel rows : List Row)
      → IsSelection (has_key at (cell k)) (λ a b. by_column order b a) (map cells ps) sel
      → rows ≡ take 1 sel → ((x : T) → FindsLast key k number_of ps (Some (read x)) → Is (Some x))
      → (FindsLast key k number_of ps None → Is None)
      → Tells (λ x. cells (read x)) n (IsOfOwn cells IsOwn) rows Is (AreOwn IsOwn ps)
  by_last order number_of ordered sel rows answer one some none = record {
    some = λ row x got is. some x (finds_last cells at key k cell keyed same itself n all exact ps order
        number_of ordered sel rows answer one row (read x) got is);
    none = λ got. none (finds_no_last cells at key k cell keyed same itself n all exact ps order number_of
        ordered sel rows answer one got);
    owns = λ own row got.
        of_last cells n all IsOwn ps own _ order sel rows answer one row got;
  }
