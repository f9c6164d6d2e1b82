-- What an INSERT of one row and an UPDATE of one table do to a database, for any text, schema and table.
use Rattle.portal_tables_sql.proofs.Common.{◌≡◌, inl, inr, ℕ, ℤ, ◌/◌, Bool, true, false, cond, nat_le, ◌-◌}
use Rattle.portal_tables_sql.proofs.Common.{◌^◌, List, [], ◌∷◌, ◌++◌, length, map, filter, drop, take, subst₂}
use Rattle.portal_tables_sql.proofs.Common.{ap₂, slice_get, append-nil, Some, None, Option, Ok, refl, sym, ap}
use Rattle.portal_tables_sql.proofs.Common.{subst, ◌∙◌, unwrap_or, list_all, IsPermutation, IsPermutation-sym}
use Rattle.portal_tables_sql.proofs.Common.{Contains-permutation, Null, Int, Term, col, eval_all, holds}
use Rattle.portal_tables_sql.proofs.Common.{Query, IsAnswer, output, Output, overlay, Insert, Update, Table}
use Rattle.portal_tables_sql.proofs.Common.{Schema, Trees, cast_row, Chosen, Given, Database, IsDatabase}
use Rattle.portal_tables_sql.proofs.Common.{value_rows, Tally, OnRows, AtPlace, State, mode_of, Executes}
use Rattle.portal_tables_sql.proofs.Common.{Shows, runs_as, one_step, map-map, pull_back, Enforced, ids_of}
use Rattle.portal_tables_sql.proofs.Common.{taken_by, with_rowid, Applies, next_rowid, id_in, without_all}
use Rattle.portal_tables_sql.proofs.Common.{put_all, are_fresh, Has, has_filtered, has_kept, has_contained}
use Rattle.portal_tables_sql.proofs.Common.{contains_had, IsUnacted, AreRows}
use Rattle.std.proofs.Common.{flat_map}
use Rattle.sqlite.specs.Source.TheVariants.{Values}
use Rattle.sqlite.specs.declared.run.Mode.{Mode}
use Rattle.sqlite.specs.Edit.{Edit, edit_of}
use Rattle.sqlite.specs.Rows.{Written, Task}
use Rattle.sqlite_value.specs.Order.{Row}
use Rattle.sqlite_trees.specs.Tree.{rowid, put_row}
use Rattle.sqlite_rules.proofs.PlaceLemmas.{given}
use Rattle.portal_tables_sql.proofs.Queries.{over}
use Rattle.portal_tables_sql.proofs.Acts.{no_works, no_takers}
use Rattle.portal_tables_sql.proofs.Texts.{Means, went, same_value}
use Rattle.portal_tables_sql.proofs.RowLemmas.{changed_if, updates, inserts}

-- a table with no AUTOINCREMENT and no default that reads the time
abbrev pub simple : Table → Table
simple t = record t { stamps = record { places = []; terms = []; formats = [] }; is_counted = false }

-- the statement made one edit of one table
pub record Edits (old new : State) (schema : Schema) (edit : Edit) : Type 0 where
  pub schema_is : new.now.schema ≡ schema
  pub applies : Applies schema Enforced old.now.trees edit new.now.trees
  pub shown : Shows old new new.now (cond old.in_transaction old.committed new.now) old.in_transaction
  pub sound : IsDatabase new.now

one_row : (params : Row) (terms : List Term) (width : ℕ) (rows : List Row)
    → length terms / width ≡ 1 → rows ≡ value_rows (params ++ []) width (length terms / width) terms
    → rows ≡ eval_all (take width terms) (params ∷ []) ∷ []
one_row params terms width rows one is = is ∙ rw (one, append-nil params)

abbrev task_of : Option ℕ → Schema → Table → Row → Task
task_of limit schema table params =
    record { limit = limit; keys = Enforced; schema = schema; table = table; params = params }

module _ (limit : Option ℕ) (mode : Mode) (schema : Schema) (t : Table) (params : Row) (db : Trees)
    (tally : Tally) (after : Database) (at : ℕ) where
  inserted : (terms : List Term) (width : ℕ) → length terms / width ≡ 1
      → OnRows (task_of limit schema (simple t) params) mode None (Insert at (Values terms width)) db (Ok (
        tally,
        after,
      ))
      → (after.schema ≡ schema) × Applies schema Enforced db
      (edit_of db (simple t) [] Chosen 0 (eval_all (take width terms) (params ∷ []) ∷ [])) after.trees
  inserted terms width one does =
      let done = went does in
      let now = ap (λ (p : Tally × Database). p.1) (same_value (went (went done.2).2).2) in
      let given_rows = went done.1 in
      let written = went (went given_rows.2).2 in
      let counted = went written.2 in
      let trees : done.0.trees ≡ written.0 =
      ap (λ (it : Written). it.trees) (same_value counted.2) ∙ same_value counted.1 in
      let sources = one_row params terms width given_rows.0 one given_rows.1.1 in
      let edit = edit_of db (simple t) [] Chosen 0 given_rows.0 in
      let applied =
      one_step schema Enforced db written.0 edit (no_takers schema Enforced 0 t.tree edit.news) written.1 in
      let same_trees : after.trees ≡ written.0 = ap (λ (d : Database). d.trees) now ∙ trees in (
        ap (λ (d : Database). d.schema) now,
        subst₂ (λ rows next. Applies schema Enforced db (edit_of db (simple t) [] Chosen 0 rows) next) sources
            (sym same_trees) applied,
      )

  -- the rows that an UPDATE finds
  updated : (q : Query) → IsUnacted schema t.tree → OnRows (task_of limit schema (simple t) params) mode None
      (Update at (record { lets = []; body = q })) db (Ok (tally, after))
      → (rows : List Row) × IsAnswer q (overlay db []) params rows × (after.schema ≡ schema)
      × Applies schema Enforced db (edit_of db (simple t) (ids_of rows) Given 1 rows) after.trees
  updated q unacted does =
      let done = went does in
      let now = ap (λ (p : Tally × Database). p.1) (same_value (went (went done.2).2).2) in
      let found = went done.1 in
      let written = went found.2 in
      let trees : done.0.trees ≡ written.0 = ap (λ (it : Written). it.trees) (same_value written.2) in
      let edit = edit_of db (simple t) (ids_of found.0) Given 1 found.0 in
      let applied = one_step schema Enforced db written.0 edit
      (no_works schema Enforced 0 t.tree (taken_by db edit) edit.news unacted) written.1 in
      let same_trees : after.trees ≡ written.0 = ap (λ (d : Database). d.trees) now ∙ trees in (
        found.0,
        found.1.answer Null,
        ap (λ (d : Database). d.schema) now,
        subst (Applies schema Enforced db (edit_of db (simple t) (ids_of found.0) Given 1 found.0))
            (sym same_trees) applied,
      )

module _ (sql : List ℕ) (params : Row) (old new : State) (at : ℕ) (t : Table)
    (there : slice_get old.now.schema.tables at ≡ Some (simple t)) (count : ℕ)
    (ran : Executes sql params old new (Ok count)) where
  pub insert_edits : (terms : List Term) (width : ℕ)
      → {n : ℕ} → Means old.now.schema sql n (Insert at (Values terms width)) → length terms / width ≡ 1
      → Edits old new old.now.schema
      (edit_of old.now.trees (simple t) [] Chosen 0 (eval_all (take width terms) (params ∷ []) ∷ []))
  insert_edits terms width means one =
      let w = runs_as sql params old new old.now.schema refl (Insert at (Values terms width)) means.is
      means.plain count ran in
      let it = inserted old.step_limit (mode_of old) old.now.schema t params old.now.trees w.tally
      new.now at terms width one
      (subst (λ o. AtPlace (λ table. OnRows (task_of old.step_limit old.now.schema table params) (mode_of old)
      None (Insert at (Values terms width)) old.now.trees) o (Ok (w.tally, new.now))) there w.changed) in
      record { schema_is = it.0; applies = it.1; shown = w.shown; sound = w.sound }

  pub update_edits : (q : Query) → {n : ℕ}
      → Means old.now.schema sql n (Update at (record { lets = []; body = q }))
      → IsUnacted old.now.schema t.tree
      → (rows : List Row) × IsAnswer q (overlay old.now.trees []) params rows
      × Edits old new old.now.schema (edit_of old.now.trees (simple t) (ids_of rows) Given 1 rows)
  update_edits q means unacted =
      let command = Update at (record { lets = []; body = q }) in
      let w = runs_as sql params old new old.now.schema refl command means.is means.plain count ran in
      let it =
      updated old.step_limit (mode_of old) old.now.schema t params old.now.trees w.tally new.now at q unacted
      (subst (λ o. AtPlace (λ table. OnRows (task_of old.step_limit old.now.schema table params) (mode_of old)
      None command old.now.trees) o (Ok (w.tally, new.now))) there w.changed) in
      (it.0, it.1, record { schema_is = it.2; applies = it.3; shown = w.shown; sound = w.sound })

-- ---- what the edits make of the rows

module _ {schema : Schema} {old new : State} (t : Table) where
  -- the new row comes last
  pub row_added : (source rest : Row) → cast_row (simple t) source ≡ Null ∷ rest
      → AreRows (old.now.trees t.tree)
      → Edits old new schema (edit_of old.now.trees (simple t) [] Chosen 0 (source ∷ []))
      → new.now.trees t.tree ≡ old.now.trees t.tree ++ (Int (next_rowid (old.now.trees t.tree)) ∷ rest) ∷ []
  row_added source rest is are e =
      let rows = old.now.trees t.tree in
      e.applies.rows ∙ ap (λ r. put_row (with_rowid Chosen rows r) rows) is ∙ inserts rows rest are

module _ {schema : Schema} {old new : State} (t : Table) where
  -- a row with a rowid of its own is put in its place
  pub row_put : (source rest : Row) (n : ℤ) → cast_row (simple t) source ≡ Int n ∷ rest
      → Edits old new schema (edit_of old.now.trees (simple t) [] Chosen 0 (source ∷ []))
      → new.now.trees t.tree ≡ put_row (Int n ∷ rest) (old.now.trees t.tree)
  row_put source rest n is e =
      let rows = old.now.trees t.tree in e.applies.rows ∙ ap (λ r. put_row (with_rowid Chosen rows r) rows) is

overlay_none : (db : Trees) (tree : ℕ) → overlay db [] tree ≡ db tree
overlay_none db tree = elim (nat_le (2 ^ 31) tree) as (λ b.
    unwrap_or (cond b (slice_get [] (tree - 2 ^ 31)) None) (db tree) ≡ db tree) [ true ↦ refl | false ↦ refl ]

module _ (tree : ℕ) (test project : List Term) (params : Row) where
  abbrev pub meant : Row → Bool
  meant r = list_all (holds (params ∷ r ∷ [])) test

  abbrev pub shown_as : Row → Row
  shown_as r = eval_all project (params ∷ r ∷ [])

  staged_are : (rows : List Row) → flat_map (λ r. cond (meant r) ((params ∷ r ∷ []) ∷ []) []) rows
      ≡ map (λ r. params ∷ r ∷ []) (filter meant rows)
  staged_are [] = refl
  staged_are (r ∷ rows) = elim (meant r) as (λ b.
      cond b ((params ∷ r ∷ []) ∷ []) [] ++ flat_map (λ r. cond (meant r) ((params ∷ r ∷ []) ∷ []) []) rows
      ≡ map (λ r. params ∷ r ∷ []) (cond b (r ∷ filter meant rows) (filter meant rows))) [
        | true ↦ ap (λ l. (params ∷ r ∷ []) ∷ l) (staged_are rows)
        | false ↦ staged_are rows
      ]

  -- the result has the rows that are meant, in some order
  pub answer_shows : (db : Trees) (rows : List Row)
      → IsAnswer (over tree test project) (overlay db []) params rows
      → (found : List Row) × IsPermutation (filter meant (db tree)) found × (rows ≡ map shown_as found)
  answer_shows db rows a =
      let q = over tree test project in
      let f : Row → Output = λ r. ([], shown_as r) in
      let staged : a.staged ≡ map (λ r. params ∷ r ∷ []) (filter meant (db tree)) =
      a.grouped ∙ rw (overlay_none db tree) (staged_are (db tree)) in
      let kept : a.kept ≡ map f (filter meant (db tree)) = a.distinct ∙ ap (map (output q)) staged
      ∙ map-map (output q) (λ r. params ∷ r ∷ []) (filter meant (db tree)) in
      let back = pull_back f a.kept a.ordered a.same (filter meant (db tree)) kept in (
        back.0,
        back.1,
        a.shown ∙ ap (map (λ (o : Output). o.1)) back.2 ∙ map-map (λ (o : Output). o.1) f back.0,
      )

same_on : (f g : Row → Row) (rows : List Row) → ((r : Row) → Has rows r → f r ≡ g r) → map f rows ≡ map g rows
same_on f g [] each = refl
same_on f g (r ∷ rows) each = ap₂ ◌∷◌ (each r (inl refl)) (same_on f g rows (λ x h. each x (inr h)))

module _ {schema : Schema} {old new : State} (t : Table) (test terms : List Term) (params : Row)
    (change : Row → Row) (keeps : (r : Row) → rowid (change r) ≡ rowid r)
    (are : AreRows (old.now.trees t.tree))
    (makes : (r : Row) → Has (old.now.trees t.tree) r
    → cast_row (simple t) (drop 1 (shown_as t.tree test (col 1 0 ∷ terms) params r)) ≡ change r) where
  -- the rows that are meant change in place
  pub rows_changed : (rows : List Row)
      → IsAnswer (over t.tree test (col 1 0 ∷ terms)) (overlay old.now.trees []) params rows
      → Edits old new schema (edit_of old.now.trees (simple t) (ids_of rows) Given 1 rows)
      → new.now.trees t.tree
      ≡ map (changed_if (meant t.tree test (col 1 0 ∷ terms) params) change) (old.now.trees t.tree)
  rows_changed rows answer e =
      let was = old.now.trees t.tree in
      let is_meant = meant t.tree test (col 1 0 ∷ terms) params in
      let shown = shown_as t.tree test (col 1 0 ∷ terms) params in
      let it = answer_shows t.tree test (col 1 0 ∷ terms) params old.now.trees rows answer in
      let found = it.0 in
      let only : (r : Row) → Has found r → Has was r × (is_meant r ≡ true) = λ r h.
      has_filtered is_meant was r (has_contained _ r (Contains-permutation found (filter is_meant was) r
      (IsPermutation-sym _ _ it.1) (contains_had found r h))) in
      let each : (r : Row) → Has was r → is_meant r ≡ true → Has found r =
      λ r h m. has_contained found r (Contains-permutation (filter is_meant was) found r it.1
      (contains_had _ r (has_kept is_meant was r h m))) in
      let ids : ids_of rows ≡ ids_of found = ap ids_of it.2 ∙ map-map (λ r. id_in (rowid r)) shown found in
      let left = without_all was (ids_of found) in
      let news : (edit_of old.now.trees (simple t) (ids_of rows) Given 1 rows).news ≡ map change found =
      given _ (map (λ s. cast_row (simple t) (drop 1 s)) rows)
      ∙ ap (map (λ s. cast_row (simple t) (drop 1 s))) it.2
      ∙ map-map (λ s. cast_row (simple t) (drop 1 s)) shown found
      ∙ same_on (λ r. cast_row (simple t) (drop 1 (shown r))) change found (λ r h. makes r (only r h).0) in
      let fresh : are_fresh left (map change found) ≡ true =
      subst₂ (λ gone new. are_fresh (without_all was gone) new ≡ true) ids news e.applies.fresh in
      e.applies.rows ∙ ap₂ (λ gone new. put_all (without_all was gone) new) ids news
      ∙ updates is_meant change keeps was found are only each fresh
