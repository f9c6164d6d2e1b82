-- The rows of one of the product's tables after one statement on it.
use Rattle.portal_tables_rows.proofs.Common.{◌≡◌, ℕ, ℤ, pos, ◌/◌, Bool, cond, IsTrue, List, [], ◌∷◌, ◌++◌}
use Rattle.portal_tables_rows.proofs.Common.{map, drop, take, length, refl, sym, ap, ◌∙◌, Ok, Null, Row}
use Rattle.portal_tables_rows.proofs.Common.{Table, Term, col, eval_all, rowid, put_row, Values, Insert}
use Rattle.portal_tables_rows.proofs.Common.{State, Executes, TableExists, IsUnacted, Stores, number, put_by}
use Rattle.portal_tables_rows.proofs.Common.{less_rowid, whole_row, appended, put_in, rows_set, Means}
use Rattle.portal_tables_rows.proofs.Common.{Contents, Holds, KeepsOthers}
use Rattle.sqlite.specs.Cast.{cast_row}
use Rattle.sqlite_trees.specs.View.{is_int}
use Rattle.portal_tables_sql.proofs.Writes.{insert_edits, meant, row_added, row_put, simple, update_edits}
use Rattle.portal_tables_rows.proofs.HoldsLemmas.{Touches, touches}
use Rattle.portal_tables_sql.proofs.UpdateTexts.{IsSet}

-- a statement that changes the rows by f and keeps the other tables
abbrev pub LeadsTo : List ℕ → Row → (Contents → Contents) → Type 1
LeadsTo sql params f = (old new : State) (count : ℕ) → Executes sql params old new (Ok count) → (t : Contents)
    → Holds old.now t → Holds new.now (f t) × KeepsOthers old.now new.now

module _ (sql : List ℕ) (params : Row) (old new : State) (count : ℕ)
    (ran : Executes sql params old new (Ok count)) (table : Table) {at : ℕ}
    (exists : TableExists old.now.schema at (simple table)) where
  module _ {P : Type 0} (terms : List Term) (width : ℕ)
      {n : ℕ} (means : Means old.now.schema sql n (Insert at (Values terms width)))
      (one : length terms / width ≡ 1) where
    -- an INSERT of a row with the next rowid
    pub adds : (cells : P → Row) (ps : List P) (p : P) → Stores less_rowid cells (old.now.trees table.tree) ps
        → cast_row (simple table) (eval_all (take width terms) (params ∷ [])) ≡ Null ∷ cells p
        → Touches old.now (simple table) new.now
        × Stores less_rowid cells (new.now.trees table.tree) (ps ++ p ∷ [])
    adds cells ps p stored is =
        let e = insert_edits sql params old new at table exists.there count ran terms width means one in (
          touches at exists e,
          appended cells _ _ ps p stored
              (row_added table (eval_all (take width terms) (params ∷ [])) (cells p) is stored.are e),
        )

    -- an INSERT of a row with a rowid of its own
    pub puts : (key : P → ℕ) (cells : P → Row) → ((p : P) → cells p ≡ number (key p) ∷ drop 1 (cells p))
        → (ps : List P) (p : P) → Stores whole_row cells (old.now.trees table.tree) ps
        → cast_row (simple table) (eval_all (take width terms) (params ∷ []))
        ≡ number (key p) ∷ drop 1 (cells p)
        → Touches old.now (simple table) new.now
        × Stores whole_row cells (new.now.trees table.tree) (put_by key p ps)
    puts key cells opens ps p stored is =
        let e = insert_edits sql params old new at table exists.there count ran terms width means one in
        let now =
        row_put table (eval_all (take width terms) (params ∷ [])) (drop 1 (cells p)) (pos (key p)) is e in (
          touches at exists e,
          put_in key cells (λ x. rw (opens x) refl) _ _ ps p stored
              (now ∙ ap (λ r. put_row r (old.now.trees table.tree)) (sym (opens p))),
        )

  -- an UPDATE of the rows that pass a test
  pub sets : {P : Type 0} (cut : Row → Row) (cells : P → Row) (row_of : ℤ → P → Row)
      (opens : (r : Row) (p : P) → IsTrue (is_int (rowid r)) → cut r ≡ cells p → (n : ℤ) × (r ≡ row_of n p))
      (cuts : (n : ℤ) (p : P) → cut (row_of n p) ≡ cells p) (test terms : List Term)
      → IsUnacted old.now.schema table.tree → {n : ℕ} → IsSet old.now.schema sql n at table.tree test terms
      → (ps : List P) → Stores cut cells (old.now.trees table.tree) ps → (passes : P → Bool) (set : P → P)
      → ((r : Row) → rowid (eval_all terms (params ∷ r ∷ [])) ≡ rowid r)
      → ((n : ℤ) (p : P) → meant table.tree test (col 1 0 ∷ terms) params (row_of n p) ≡ passes p)
      → ((n : ℤ) (p : P) → eval_all terms (params ∷ row_of n p ∷ []) ≡ row_of n (set p))
      → ((n : ℤ) (p : P) → cast_row (simple table) (row_of n (set p)) ≡ row_of n (set p))
      → Touches old.now (simple table) new.now
      × Stores cut cells (new.now.trees table.tree) (map (λ p. cond (passes p) (set p) p) ps)
  sets cut cells row_of opens cuts test terms unacted means ps stored passes set keeps tests is_set casts =
      let u = update_edits sql params old new at table exists.there count ran _ means unacted in (
        touches at exists u.2,
        rows_set cut cells row_of opens cuts table test terms params passes set keeps tests is_set
            casts ps stored u.0 u.1 u.2,
      )
