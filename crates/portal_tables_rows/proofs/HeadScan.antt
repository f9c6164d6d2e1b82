-- The query of the schema version reads the rows of whatever table has the head's name, so it has one result.
use Rattle.portal_tables_rows.proofs.Common.{◌≡◌, ◌⊎◌, inl, inr, ◌+◌, ℕ, pos, negsuc, List, [], ◌∷◌, codes}
use Rattle.portal_tables_rows.proofs.Common.{Bool, true, false, if◌then◌else◌, Option, Some, None, Ok, Err}
use Rattle.portal_tables_rows.proofs.Common.{refl, sym, subst, slice_get, Int, Table, Schema, Term, lit, col}
use Rattle.portal_tables_rows.proofs.Common.{table_named, view_named, column_named, is_key, Select}
use Rattle.portal_tables_rows.proofs.Common.{misses_table, cases_Bool, CompileError, drafted, unlimited}
use Rattle.portal_tables_rows.proofs.Common.{select_of, core_of, from_table, IsPlainSelect, program_of}
use Rattle.portal_tables_rows.proofs.Common.{head_name}
use Rattle.sqlite_schema.specs.declared.schema.Column.{Column}
use Rattle.sqlite_schema.specs.Names.{same_name}
use Rattle.sqlite_tied.specs.Compute.{everything}
use Rattle.sqlite.specs.Listing.{listing_schema}
use Rattle.sqlite_ast.specs.declared.Statement.{Statement}
use Rattle.sqlite_ast.specs.declared.Statement.TheVariants as written
use Rattle.sqlite_ast.specs.declared.Select as ast
use Rattle.sqlite_ast.specs.declared.Select.{out-Select}
use Rattle.sqlite_ast.specs.declared.Core.{Core}
use Rattle.sqlite_ast.specs.declared.Source.{Source}
use Rattle.sqlite_value.specs.declared.keys.Collation.{Collation}
use Rattle.sqlite_draft.specs.declared.query.Draft.{Draft}
use Rattle.sqlite_draft.specs.Query.{query_of}
use Rattle.sqlite_typing.specs.Types.{accepts_program}
use Rattle.sqlite_resolve.specs.Scope.{Name}
use Rattle.sqlite_resolve.specs.Program.{query, query_to, level, with, whole, alone, single, sources, source}
use Rattle.sqlite_resolve.specs.Program.{viewing, program}
use Rattle.sqlite_resolve.specs.Compile.{command, read}
use Rattle.sqlite_resolve.specs.Select.{named}
use Rattle.sqlite_resolve.specs.Lowering.{Checked, nothing}
use Rattle.sqlite_resolve.specs.declared.error.CompileError.TheVariants.{NoSuchColumn, NoSuchTable, Mismatch}

abbrev page : Term × Term
page = (lit (Int (negsuc 0)), lit (Int (pos 0)))

module _ (schema : Schema) (at : ℕ) (table : Table) (there : table_named schema head_name ≡ Some at)
    (is : slice_get schema.tables at ≡ Some table) where
  found : (k : ℕ) (column : Column) (b : Bool) → column_named table (codes "layout") ≡ Some k
      → slice_get table.columns k ≡ Some column → is_key table.key k ≡ b
      → named schema (core_of head_name (codes "layout" ∷ []) None) [] page
      ≡ Ok (
        drafted table.tree [] (col 1 (if b then 0 else (k + 1)) ∷ []) [] unlimited,
        column.name ∷ [],
        (if b then nothing else record { collation = Some column.collation; is_written = false }).collation
            ∷ [],
      )
  unfolding everything
  found k column b placed got key = simp (there, is, placed, got, key) refl

  lost : (k : ℕ) → column_named table (codes "layout") ≡ Some k → slice_get table.columns k ≡ None
      → named schema (core_of head_name (codes "layout" ∷ []) None) [] page ≡ Err NoSuchColumn
  unfolding everything
  lost k placed got = simp (there, is, placed, got) refl

  missing : column_named table (codes "layout") ≡ None
      → named schema (core_of head_name (codes "layout" ∷ []) None) [] page ≡ Err NoSuchColumn
  unfolding everything
  missing placed = simp (there, is, placed) refl

-- ---- the command

abbrev asks : ast.Select
asks = select_of head_name (codes "layout" ∷ []) None [] None

abbrev pub layout_statement : Statement
layout_statement = written.Select asks

is_plain : (schema : Schema) → IsPlainSelect schema asks (core_of head_name (codes "layout" ∷ []) None)
    (from_table head_name) head_name page
unfolding everything
is_plain schema =
    record { unnested = refl; one = refl; first = refl; from = refl; table = refl; paged = refl }

unordered : (out-Select asks).order ≡ []
unfolding everything
unordered = refl

in_order : (schema : Schema) (r : Checked (Draft × List Name × List (Option Collation)))
    → named schema (core_of head_name (codes "layout" ∷ []) None) [] page ≡ r
    → named schema (core_of head_name (codes "layout" ∷ []) None) (out-Select asks).order page ≡ r
in_order schema r is =
    subst (λ o. named schema (core_of head_name (codes "layout" ∷ []) None) o page ≡ r) (sym unordered) is

module _ (schema : Schema) where
  module _ (s : ast.Select) (core : Core) (from : Source) (name : Name) (limits : Term × Term)
      (h : IsPlainSelect schema s core from name limits) where
    query_ok : (shown : Draft × List Name × List (Option Collation))
        → named schema core (out-Select s).order limits ≡ Ok shown → query schema s ≡ Ok (shown, [])
    unfolding query query_to level with whole alone single sources source viewing
    query_ok shown made = rw (h.unnested, h.paged, h.one, h.first, h.from, h.table, made) refl

    query_lost : named schema core (out-Select s).order limits ≡ Err NoSuchColumn
        → query schema s ≡ Err NoSuchColumn
    unfolding query query_to level with whole alone single sources source viewing
    query_lost made = rw (h.unnested, h.paged, h.one, h.first, h.from, h.table, made) refl

    query_none : named schema core (out-Select s).order limits ≡ Err NoSuchTable
        → query schema s ≡ Err NoSuchTable
    unfolding query query_to level with whole alone single sources source viewing
    query_none made = rw (h.unnested, h.paged, h.one, h.first, h.from, h.table, made) refl

  read_ok : (d : Draft) (names : List Name) (by : List (Option Collation))
      → query schema asks ≡ Ok ((d, names, by), [])
      → accepts_program schema [] (query_of d) [] ≡ true → (base : ℕ)
      → command schema [] base layout_statement ≡ Ok (Select (program_of d) names)
  unfolding command read program
  read_ok d names by is typed base = rw (is, typed) refl

  read_off : (d : Draft) (names : List Name) (by : List (Option Collation))
      → query schema asks ≡ Ok ((d, names, by), [])
      → accepts_program schema [] (query_of d) [] ≡ false → (base : ℕ)
      → command schema [] base layout_statement ≡ Err Mismatch
  unfolding command read program
  read_off d names by is typed base = rw (is, typed) refl

  read_err : (e : CompileError) → query schema asks ≡ Err e → (base : ℕ)
      → command schema [] base layout_statement ≡ Err e
  unfolding command read
  read_err e is base = rw is refl

-- a scan of one table with one term of each row; or the text does not compile, for another cause than a
-- missing table
abbrev pub IsScanOf : Schema → Table → Type 0
IsScanOf schema table =
    ((term : Term) × (names : List Name) × ((base : ℕ) → command schema [] base layout_statement
    ≡ Ok (Select (program_of (drafted table.tree [] (term ∷ []) [] unlimited)) names)))
    ⊎ ((e : CompileError) × (misses_table (Err e) ≡ false)
    × ((base : ℕ) → command schema [] base layout_statement ≡ Err e))

module _ (schema : Schema) (at : ℕ) (table : Table) (there : table_named schema head_name ≡ Some at)
    (is : slice_get schema.tables at ≡ Some table) where
  typed_or : (d : Draft) (names : List Name) (by : List (Option Collation)) (term : Term)
      → d ≡ drafted table.tree [] (term ∷ []) [] unlimited
      → query schema asks ≡ Ok ((d, names, by), []) → IsScanOf schema table
  typed_or d names by term same asked = elim (cases_Bool (accepts_program schema [] (query_of d) [])) [
    | inl typed ↦ inl (
      term,
      names,
      subst (λ x. (base : ℕ) → command schema [] base layout_statement ≡ Ok (Select (program_of x) names))
          same (read_ok schema d names by asked typed),
    )
    | inr off ↦ inr (Mismatch, refl, read_off schema d names by asked off)
  ]

  pub scans : IsScanOf schema table
  scans = placed (column_named table (codes "layout")) refl
    where
      lost_column : named schema (core_of head_name (codes "layout" ∷ []) None) [] page ≡ Err NoSuchColumn
          → IsScanOf schema table
      lost_column none = inr (
        NoSuchColumn,
        refl,
        read_err schema NoSuchColumn
            (query_lost schema asks _ _ _ _ (is_plain schema) (in_order schema _ none)),
      )

      got : (k : ℕ) → column_named table (codes "layout") ≡ Some k → (o : Option Column)
          → slice_get table.columns k ≡ o → IsScanOf schema table
      got k e None none = lost_column (lost schema at table there is k e none)
      got k e (Some column) some = typed_or _ _ _ _ refl (query_ok schema asks _ _ _ _ (is_plain schema) _
          (in_order schema _ (found schema at table there is k column (is_key table.key k) e some refl)))

      placed : (o : Option ℕ) → column_named table (codes "layout") ≡ o → IsScanOf schema table
      placed None e = lost_column (missing schema at table there is e)
      placed (Some k) e = got k e (slice_get table.columns k) refl

-- ---- no table and no view of the name

unnamed : (schema : Schema) → table_named schema head_name ≡ None → view_named schema head_name ≡ None
    → named schema (core_of head_name (codes "layout" ∷ []) None) [] page ≡ Err NoSuchTable
unfolding everything
unnamed schema no_table no_view = simp (no_table, no_view) refl

pub finds_none : (schema : Schema) → table_named schema head_name ≡ None → view_named schema head_name ≡ None
    → (base : ℕ) → command schema [] base layout_statement ≡ Err NoSuchTable
finds_none schema no_table no_view = read_err schema NoSuchTable
    (query_none schema asks _ _ _ _ (is_plain schema) (in_order schema _ (unnamed schema no_table no_view)))

pub lists_none : (base : ℕ) → command listing_schema [] base layout_statement ≡ Err NoSuchTable
unfolding listing_schema same_name
lists_none = finds_none listing_schema refl refl
