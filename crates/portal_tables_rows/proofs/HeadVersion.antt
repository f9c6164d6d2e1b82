-- The query of the schema version: what it means, what it gives, and that it changes nothing.
use Rattle.portal_tables_rows.proofs.Common.{◌≡◌, inl, inr, ◌≤◌, ℕ, pos, negsuc, true, false, List, [], ◌∷◌}
use Rattle.portal_tables_rows.proofs.Common.{map, length, codes, Option, Some, None, IsSome, Ok, Err, Result}
use Rattle.portal_tables_rows.proofs.Common.{IfOk, IfErr, OnErr, refl, sym, ap, subst, ◌∙◌, arith, cond}
use Rattle.portal_tables_rows.proofs.Common.{nat_le, slice_get, unwrap_or, ◌-◌, ◌^◌, IsPermutation}
use Rattle.portal_tables_rows.proofs.Common.{length_permutation, IsPermutation-sym, Null, Int, Error, Row}
use Rattle.portal_tables_rows.proofs.Common.{column, lit, col, Schema, Select, Rows, overlay, IsAnswer}
use Rattle.portal_tables_rows.proofs.Common.{Database, RefusesToRead, understood, IsSourceOf, State}
use Rattle.portal_tables_rows.proofs.Common.{IsUnchanged, Survives, FailsToShow, store_error, IsPlain}
use Rattle.portal_tables_rows.proofs.Common.{command_of, survives_weaker, Compiled, CompileError, Has}
use Rattle.portal_tables_rows.proofs.Common.{TableExists, IsUndone, Stores, number, drafted, over, unlimited}
use Rattle.portal_tables_rows.proofs.Common.{IsScan, scan_all, passes, shown_of, keys_of, select_of}
use Rattle.portal_tables_rows.proofs.Common.{select_means, IsText, Means, head, head_name, HeadRow}
use Rattle.portal_tables_rows.proofs.Common.{head_stored, schema_version_text, is_any_name_taken, IsNoQuery}
use Rattle.portal_tables_rows.proofs.Common.{QueryAnswers, IsOneRow, GivesSchemaVersion}
use Rattle.sqlite.specs.declared.error.Error.TheVariants.{SqlInputError}
use Rattle.sqlite_trees.specs.declared.error.StoreError.{StoreError}
use Rattle.sqlite_trees.specs.declared.error.StoreError.TheVariants.{OutOfMemory, Io, Corrupt, Full, Broken}
use Rattle.sqlite_trees.specs.declared.error.StoreError.TheVariants.{Unstorable}
use Rattle.sqlite.specs.Tree.{Trees}
use Rattle.sqlite.specs.Command.{Command}
use Rattle.sqlite.specs.Effect.{Reads}
use Rattle.sqlite.specs.State.{Shown, FailsToQuery, IsNotRun, CommitsShowing}
use Rattle.sqlite_tied.specs.Compute.{everything}
use Rattle.sqlite_ast.specs.declared.Statement.TheVariants as written
use Rattle.sqlite_resolve.specs.Compile.{timed, returning}
use Rattle.sqlite_value.specs.declared.keys.Collation.TheVariants.{Binary}
use Rattle.portal_tables_sql.specs.Stored.{whole_row}
use Rattle.portal_tables_sql.proofs.FindLemmas.{has_along}
use Rattle.portal_tables_rows.proofs.Asking.{IsIdle, understood_idle}

pub layout_is_text : IsText schema_version_text
    (written.Select (select_of head_name (codes "layout" ∷ []) None [] None)) 0
unfolding everything
layout_is_text = record { parsed = _; read = refl; is = refl; timeless = refl; counted = refl; whole = refl }

pub untimed : (schema : Schema)
    → timed schema [] (written.Select (select_of head_name (codes "layout" ∷ []) None [] None)) ≡ []
unfolding everything
untimed schema = refl

pub unshown : (schema : Schema) (base : ℕ) → returning schema base
    (written.Select (select_of head_name (codes "layout" ∷ []) None [] None)) ≡ Ok None
unfolding everything
unshown schema base = refl

-- whatever has the name
layout_idle : (schema : Schema) (c : Compiled) → understood schema schema_version_text ≡ Ok c → IsIdle c
layout_idle = understood_idle schema_version_text
    (written.Select (select_of head_name (codes "layout" ∷ []) None [] None)) 0 layout_is_text untimed unshown

-- if the head exists
layout_means : (schema : Schema) (at tree : ℕ)
    → TableExists schema at (head tree) → Means schema schema_version_text 0
    (Select (record { lets = []; body = over tree [] (col 1 2 ∷ []) }) (codes "layout" ∷ []))
unfolding everything
layout_means schema at tree exists =
    select_means schema schema_version_text head_name (codes "layout" ∷ []) None [] None 0
    (lit (Int (negsuc 0)), lit (Int (pos 0)))
    (drafted tree [] (col 1 2 ∷ []) [] unlimited) (Some Binary ∷ []) layout_is_text refl refl
    (simp (exists.named, exists.there) refl) (simp (exists.low, exists.typed) refl) refl (λ base. refl)

-- ---- the state after it

module _ (old new : State) where
  answered : (rows : List Row) → Shown schema_version_text [] old new rows
      → QueryAnswers old.now rows × IsUnchanged old new
  unfolding Shown
  answered rows h =
      let idle = layout_idle old.now.schema h.0 h.1.is in
      let it = rw (idle.0, idle.1) at h.2 in
      (record { compiled = h.0; is = h.1.is; source = it.0; from = it.1; reads = it.2 }, it.3)

  store_fault : (cause : StoreError) (fault : CompileError) → store_error cause ≡ SqlInputError fault → ⊥
  store_fault OutOfMemory fault e = cc
  store_fault Io fault e = cc
  store_fault Corrupt fault e = cc
  store_fault Full fault e = cc
  store_fault Broken fault e = cc
  store_fault Unstorable fault e = cc

  read_fault : (limit : Option ℕ) (k : Command) (db : Database) (params : Row) (fault : CompileError)
      (e : Error) → e ≡ SqlInputError fault → RefusesToRead limit k db params e → ⊥
  read_fault limit (Select q names) db params fault e is (inl h) = let one = h.0 in cc
  read_fault limit (Select q names) db params fault e is (inr (inl h)) = let one = h.0 in cc
  read_fault limit (Select q names) db params fault e is (inr (inr h)) = let one = h.0 in cc
  read_fault limit (Rows values width names) db params fault e is h = let one = h.0 in cc
  read_fault limit _ db params fault e is h = cc

  refused : (e : Error) (fault : CompileError) → e ≡ SqlInputError fault
      → FailsToQuery schema_version_text [] old new e → IsNoQuery old.now.schema × IsUnchanged old new
  unfolding FailsToQuery IsNotRun
  refused e fault is (inl (inl (inl h, same))) = ((h.0, h.1), same)
  refused e fault is (inl (inl (inr (c, known, inl h), same))) = absurd (let one = h.1 in cc)
  refused e fault is (inl (inl (inr (c, known, inr (inl h)), same))) = absurd (let one = h.1 in cc)
  refused e fault is (inl (inl (inr (c, known, inr (inr h)), same))) = absurd (let one = h.1 in cc)
  refused e fault is (inl (inr h)) = absurd (store_fault h.0 fault (sym h.1 ∙ is))
  refused e fault is (inr h) =
      let idle = layout_idle old.now.schema h.0 h.1.is in
      let it : FailsToShow old new schema_version_text h.0 _ e None = rw idle.0 at h.2 in
      absurd (read_fault _ h.0.command _ _ fault e is it.2)

  same_undone : old.in_transaction ≡ false → old.now ≡ old.committed → IsUnchanged old new → IsUndone old new
  same_undone outside settled same = record {
    now = λ live. same.0.now_is ∙ settled;
    committed = λ live. same.0.committed_is;
    ended = same.0.mode ∙ outside;
  }

  failed : (e : Error) → old.in_transaction ≡ false → old.now ≡ old.committed
      → FailsToQuery schema_version_text [] old new e → IsUndone old new
  unfolding FailsToQuery IsNotRun
  failed e outside settled (inl (inl h)) = same_undone outside settled h.1
  failed e outside settled (inl (inr h)) = record {
    now = λ live. (h.3.undone live).0;
    committed = λ live. (h.3.undone live).1;
    ended = h.3.autocommit;
  }
  failed e outside settled (inr h) =
      let idle = layout_idle old.now.schema h.0 h.1.is in
      let it : FailsToShow old new schema_version_text h.0 _ e None = rw idle.0 at h.2 in
      same_undone outside settled it.3

  nothing : {X : Type 0} (o : Option X) → o ≡ None → IsSome o → ⊥
  nothing None is some = cc
  nothing (Some x) is some = cc

  pub commits_nothing : Survives old new (CommitsShowing schema_version_text [] old)
      → Survives old new (λ _. ⊥)
  unfolding CommitsShowing
  commits_nothing = survives_weaker old new _ _
      (λ _ db h. nothing h.0.returning (layout_idle old.now.schema h.0 h.1.is).0 h.2)

  pub asked_answers : {X : Type 0} (items : X → List Row) (r : Result X Error)
      → IfOk r (λ x. Shown schema_version_text [] old new (items x))
      → IfOk r (λ x. QueryAnswers old.now (items x) × IsUnchanged old new)
  asked_answers items (Ok x) h = answered (items x) h
  asked_answers items (Err e) h = tt

  pub asked_refused : {X : Type 0} (r : Result X Error)
      → IfErr r (FailsToQuery schema_version_text [] old new)
      → IfErr r
      (λ e. (fault : CompileError) → e ≡ SqlInputError fault → IsNoQuery old.now.schema × IsUnchanged old new)
  asked_refused (Ok x) h = tt
  asked_refused (Err e) h = λ fault is. refused e fault is h

  pub asked_undone : {X : Type 0} (r : Result X Error) → old.in_transaction ≡ false → old.now ≡ old.committed
      → IfErr r (FailsToQuery schema_version_text [] old new) → OnErr r (IsUndone old new)
  asked_undone (Ok x) outside settled h = tt
  asked_undone (Err e) outside settled h = failed e outside settled h

-- ---- what it gives if the head exists

pub no_tables : (db : Trees) (t : ℕ) → overlay db [] t ≡ db t
no_tables db t =
    elim (nat_le (2 ^ 31) t) as (λ b. unwrap_or (cond b (slice_get [] (t - 2 ^ 31)) None) (db t) ≡ db t) [
      | true ↦ refl
      | false ↦ refl
    ]

only_row : (rows : List Row) (h : HeadRow) → map whole_row rows ≡ head_stored h ∷ []
    → rows ≡ head_stored h ∷ []
only_row [] h is = absurd (cc)
only_row (r ∷ []) h is = is
only_row (r ∷ s ∷ rows) h is = absurd (cc)

pub one_along : (row : Row) (rows : List Row) → IsPermutation (row ∷ []) rows → rows ≡ row ∷ []
one_along row rows same = go rows (length_permutation (row ∷ []) rows same)
    (λ x h. has_along x rows (row ∷ []) (IsPermutation-sym _ _ same) h)
  where
    go : (rows : List Row) → length rows ≡ 1 → ((x : Row) → Has rows x → Has (row ∷ []) x) → rows ≡ row ∷ []
    go [] long each = absurd (omega arith)
    go (r ∷ []) long each = elim (each r (inl refl)) [ inl e ↦ ap (λ x. x ∷ []) e | inr none ↦ absurd none ]
    go (r ∷ s ∷ rows) long each = absurd (omega (arith, long))

module _ (db : Database) (at tree : ℕ) (h : HeadRow) (exists : TableExists db.schema at (head tree))
    (stores : Stores whole_row head_stored (db.trees tree) (h ∷ [])) where
  abbrev IsScanOf : List Row → List Row → Type 0
  IsScanOf = IsScan (passes [] []) (shown_of (col 1 2 ∷ []) []) (keys_of [] []) []

  scanned : (out : List Row) → IsScanOf (head_stored h ∷ []) out → out ≡ (number h.schema_version ∷ []) ∷ []
  scanned out s = s.shown ∙ ap (map (shown_of (col 1 2 ∷ []) [])) (one_along (head_stored h) s.ordered s.same)

  rows_are : (rows : List Row) → QueryAnswers db rows → rows ≡ (number h.schema_version ∷ []) ∷ []
  rows_are rows a =
      let m = layout_means db.schema at tree exists in
      let command : a.compiled.command ≡ Select (record {
        lets = [];
        body = over tree [] (col 1 2 ∷ []);
      }) (codes "layout" ∷ []) = ap command_of (sym a.is) ∙ m.is in
      let source : a.source ≡ db = subst (λ b. IsSourceOf b db a.source) m.unlisted a.from in
      let read : Reads (Select (record {
        lets = [];
        body = over tree [] (col 1 2 ∷ []);
      }) (codes "layout" ∷ [])) db [] rows = rw (command, source) at a.reads in
      let answer : IsAnswer (over tree [] (col 1 2 ∷ [])) (overlay db.trees []) [] rows = read.answer Null in
      let scan : IsScanOf (overlay db.trees [] tree) rows =
      scan_all tree [] (col 1 2 ∷ []) [] (overlay db.trees []) [] rows answer in
      scanned rows
      (subst (λ x. IsScanOf x rows) (no_tables db.trees tree ∙ only_row (db.trees tree) h stores.is) scan)

  same_layout : (rows : List Row) (n : ℕ) → rows ≡ (number h.schema_version ∷ []) ∷ []
      → IsOneRow rows n → n ≡ h.schema_version
  same_layout rows n is one =
      let e : (number h.schema_version ∷ []) ∷ [] ≡ one.0 ∷ [] = sym is ∙ one.1 in
      let row : number h.schema_version ∷ [] ≡ one.0 = cc in
      let cell : number h.schema_version ≡ number n = ap (λ r. column r 0) row ∙ one.2 in
      cc

  pub tells : 1 ≤ h.schema_version → (o : Option ℕ) → GivesSchemaVersion db o → o ≡ Some h.schema_version
  tells within (Some n) t = ap Some (same_layout t.0 n (rows_are t.0 t.1) t.2)
  tells within None (inl none) =
      absurd (refuses db.schema (layout_means db.schema at tree exists).plain none.0 none.1)
    where
      refuses : (schema : Schema) → IsPlain (understood schema schema_version_text) → (e : CompileError)
          → understood schema schema_version_text ≡ Err e → ⊥
      refuses schema plain e is = subst IsPlain is plain
  tells within None (inr other) =
      absurd (other.2 h.schema_version (number h.schema_version ∷ [], rows_are other.0 other.1, refl, within))

-- the head has its name
pub head_named : (schema : Schema) (at tree : ℕ) → TableExists schema at (head tree)
    → is_any_name_taken schema ≡ true
head_named schema at tree exists = rw exists.named refl
