-- No row that this product writes gives ForeignRow.
use Rattle.portal_tables_rows.proofs.Common.{◌≡◌, ℕ, List, map, filter, take, slice_get, Bool, Some, sym, ap}
use Rattle.portal_tables_rows.proofs.Common.{◌∙◌, IsPermutation, Row, Has, columns, by_column, IsSelection}
use Rattle.portal_tables_rows.proofs.Common.{found_some, has_image, first_of_one, AreOwn, IsOfOwn}
use Rattle.portal_tables_rows.specs.Foreign.{IsOwnRow}
use Rattle.portal_tables_rows.proofs.OwnRows.{own_row}

module _ {P : Type 0} (cells : P → Row) (n : ℕ) (all : (p : P) → columns n (cells p) ≡ cells p)
    (IsOwn : P → Type 0) (ps : List P) (own : AreOwn IsOwn ps) where
  -- a row with the cells of one of these has the cells of a value that this product writes
  pub of_one : (row : Row) → Has (map cells ps) row → IsOwnRow (IsOfOwn cells IsOwn) n row
  of_one row has =
      let it = has_image cells ps row has in
      own_row cells n all IsOwn row it.0 (own it.0 it.1) it.2

  -- the first row of those that pass
  pub of_first : (test : Row → Bool) (rows : List Row) → IsPermutation (filter test (map cells ps)) rows
      → (row : Row) → slice_get rows 0 ≡ Some row → IsOwnRow (IsOfOwn cells IsOwn) n row
  of_first test rows answer row got = of_one row (found_some test (map cells ps) rows answer 0 row got).0

  -- with ORDER BY and LIMIT 1
  pub of_last : (test : Row → Bool) (at : ℕ) (sel rows : List Row)
      → IsSelection test (λ a b. by_column at b a) (map cells ps) sel → rows ≡ take 1 sel → (row : Row)
      → slice_get rows 0 ≡ Some row → IsOwnRow (IsOfOwn cells IsOwn) n row
  of_last test at sel rows answer one row got =
      let first : slice_get sel 0 ≡ Some row =
      sym (first_of_one sel) ∙ ap (λ xs. slice_get xs 0) (sym one) ∙ got in
      of_one row (found_some test (map cells ps) sel answer.same 0 row first).0
