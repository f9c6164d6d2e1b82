-- Finding by any test that decides on the key, and a test of two columns.
use Rattle.portal_tables_rows.proofs.Common.{◌≡◌, ℕ, ◌<◌, List, [], ◌∷◌, ◌&&◌, map, filter, slice_get, length}
use Rattle.portal_tables_rows.proofs.Common.{Bool, true, false, Some, None, refl, sym, ap, ap₂, subst, ◌∙◌}
use Rattle.portal_tables_rows.proofs.Common.{is_eq, true≢false, IsPermutation, Value, Text, Row, column}
use Rattle.portal_tables_rows.proofs.Common.{value_cmp, Table, col, Has, Finds, columns, fields, has_keys}
use Rattle.portal_tables_rows.proofs.Common.{found_some, found_none, has_image, equal_is, where_key}
use Rattle.portal_tables_rows.proofs.Common.{has_mapped, same_text, text_itself, column_is, field_at}
use Rattle.sqlite.specs.Ops.{is_null}
use Rattle.sqlite_schema.specs.Names.{place_of}
use Rattle.portal_tables_sql.proofs.Scan.{passes}

module _ {P K : Type 0} (cells : P → Row) (key : P → K) (k : K) (test : Row → Bool)
    (only : (p : P) → test (cells p) ≡ true → key p ≡ k) (meets : (p : P) → key p ≡ k → test (cells p) ≡ true)
    (n : ℕ) (all : (p : P) → columns n (cells p) ≡ cells p) (exact : (a b : P) → cells a ≡ cells b → a ≡ b)
    (ps : List P) (rows : List Row) (answer : IsPermutation (filter test (map cells ps)) rows) where
  the_value : (row : Row) (x : P) → Has (map cells ps) row → cells x ≡ columns n row
      → Has ps x × (row ≡ cells x)
  the_value row x has read =
      let it = has_image cells ps row has in
      let e : it.0 ≡ x = exact it.0 x (sym (read ∙ ap (columns n) it.2 ∙ all it.0)) in
      (subst (Has ps) e it.1, it.2 ∙ ap cells e)

  pub tested_some : (row : Row) (x : P) → slice_get rows 0 ≡ Some row → cells x ≡ columns n row
      → Finds key k ps (Some x)
  tested_some row x got read =
      let it = found_some test (map cells ps) rows answer 0 row got in
      let v = the_value row x it.0 read in
      (v.0, only x (subst (λ r. test r ≡ true) v.1 it.1))

  pub tested_none : slice_get rows 0 ≡ None → Finds key k ps None
  tested_none none p has e = true≢false (sym (meets p e)
      ∙ found_none test (map cells ps) rows answer none (cells p) (has_mapped cells ps p has))

both : (a b : Bool) → (a && b) ≡ true → (a ≡ true) × (b ≡ true)
both true true e = (refl, refl)
both true false e = cc
both false b e = cc

-- a pair of texts in two columns
module _ {P : Type 0} (cells : P → Row) (i j : ℕ) (first second : P → List ℕ)
    (one : (p : P) → column (cells p) i ≡ Text (first p))
    (two : (p : P) → column (cells p) j ≡ Text (second p)) (a b : List ℕ) where
  pub pair_only : (p : P) → has_keys i (Text a) j (Text b) (cells p) ≡ true
      → ◌≡◌ {A = List ℕ × List ℕ} (first p, second p) (a, b)
  pair_only p h =
      let it = both _ _ h in
      let x : first p ≡ a =
      same_text (first p) a (ap (λ v. is_eq (value_cmp v (Text a))) (sym (one p)) ∙ it.0) in
      let y : second p ≡ b =
      same_text (second p) b (ap (λ v. is_eq (value_cmp v (Text b))) (sym (two p)) ∙ it.1) in
      λ t. (x t, y t)

  pub pair_meets : (p : P) → ◌≡◌ {A = List ℕ × List ℕ} (first p, second p) (a, b)
      → has_keys i (Text a) j (Text b) (cells p) ≡ true
  pair_meets p e =
      let x : first p ≡ a = λ t. (e t).0 in
      let y : second p ≡ b = λ t. (e t).1 in
      ap₂ ◌&&◌ (ap (λ v. is_eq (value_cmp v (Text a))) (one p ∙ ap Text x) ∙ text_itself a)
      (ap (λ v. is_eq (value_cmp v (Text b))) (two p ∙ ap Text y) ∙ text_itself b)

-- WHERE one column = ?1 AND another = ?2
pub pair_tests : (table : Table) (i j : ℕ) (a b : Value) (more : Row) → i < length table.columns
    → j < length table.columns → is_null a ≡ false → is_null b ≡ false → (r : Row)
    → passes (column_is table i (col 0 0) ∷ column_is table j (col 0 1) ∷ []) (a ∷ b ∷ more) r
    ≡ has_keys i a j b (fields table r)
pair_tests table i j a b more low high some other r =
    ap₂ ◌&&◌ (equal_is (column r (place_of table i)) a some
    ∙ ap (λ v. is_eq (value_cmp v a)) (sym (field_at table i r low)))
    (where_key (column r (place_of table j)) b other
    ∙ ap (λ v. is_eq (value_cmp v b)) (sym (field_at table j r high)))
