-- A SELECT of columns of one table, as a syntax tree, and what it means.
use Rattle.portal_tables_sql.proofs.Common.{◌≡◌, ℕ, List, [], ◌∷◌, map, Option, Some, None, Ok, refl, sym}
use Rattle.portal_tables_sql.proofs.Common.{subst, true, false, Term, Schema, Select, Statement, roll-Select}
use Rattle.portal_tables_sql.proofs.Common.{out-Select, Core, roll-Core, Source, roll-Source, Collation}
use Rattle.portal_tables_sql.proofs.Common.{Draft, query_of, accepts_program, Name, named, paging, timed}
use Rattle.portal_tables_sql.proofs.Common.{returning}
use Rattle.sqlite_tied.specs.Compute.{everything}
use Rattle.sqlite_ast.specs.declared.Statement.TheVariants as written
use Rattle.sqlite_ast.specs.declared.Conflict.TheVariants as conflict
use Rattle.sqlite_ast.specs.declared.Rows.TheVariants as rows
use Rattle.sqlite_ast.specs.declared.Select as ast
use Rattle.sqlite_ast.specs.declared.Sort.{Sort, roll-Sort}
use Rattle.sqlite_ast.specs.declared.Shown.{Shown}
use Rattle.sqlite_ast.specs.declared.Shown.TheVariants.{One}
use Rattle.sqlite_ast.specs.declared.Expr.{Expr}
use Rattle.sqlite_ast.specs.declared.Expr.TheVariants as expr
use Rattle.sqlite_ast.specs.declared.Binary.TheVariants as binary
use Rattle.sqlite_ast.specs.declared.Origin.TheVariants as origin
use Rattle.portal_tables_sql.proofs.Texts.{IsText, Means, IsPlainSelect, means_is, select_is, program_of}

-- ---- SELECT columns FROM table WHERE test, with an order and a limit

abbrev pub shown_column : Name → Shown
shown_column name = One (expr.Column None name) None name

abbrev pub from_table : Name → Source
from_table name =
    roll-Source (record { is_left = false; origin = origin.Table name; alias = None; on = None; using = [] })

abbrev pub core_of : Name → List Name → Option Expr → Core
core_of name columns filter = roll-Core (record {
  distinct = false;
  shown = map shown_column columns;
  from = from_table name ∷ [];
  filter = filter;
  group = [];
  having = None;
})

abbrev pub select_of : Name → List Name → Option Expr → List Sort → Option Expr → ast.Select
select_of name columns filter order limit = roll-Select (record {
  with = [];
  first = core_of name columns filter;
  others = [];
  order = order;
  limit = limit;
  offset = None;
})

-- column = value
abbrev pub where_is : Name → Expr → Option Expr
where_is key value = Some (expr.Binary binary.Eq (expr.Column None key) value)

-- ORDER BY column DESC
abbrev pub down : Name → List Sort
down name = roll-Sort (record { key = expr.Column None name; descending = true; nulls_first = None }) ∷ []

-- ORDER BY column
abbrev pub up : Name → List Sort
up name = roll-Sort (record { key = expr.Column None name; descending = false; nulls_first = None }) ∷ []

is_plain : (schema : Schema) (name : Name) (columns : List Name) (filter : Option Expr)
    (order : List Sort) (limit : Option Expr) (page : Term × Term)
    → paging schema (select_of name columns filter order limit) ≡ Ok page
    → IsPlainSelect schema (select_of name columns filter order limit) (core_of name columns filter)
    (from_table name) name page
unfolding everything
is_plain schema name columns filter order limit page paged =
    record { unnested = refl; one = refl; first = refl; from = refl; table = refl; paged = paged }

module _ (schema : Schema) (sql : List ℕ) (name : Name) (columns : List Name) (filter : Option Expr)
    (order : List Sort) (limit : Option Expr) (count : ℕ) (page : Term × Term) (d : Draft)
    (shown : List (Option Collation))
    (text : IsText sql (written.Select (select_of name columns filter order limit)) count) where
  pub select_means : (out-Select (select_of name columns filter order limit)).order ≡ order
      → paging schema (select_of name columns filter order limit) ≡ Ok page
      → named schema (core_of name columns filter) order page ≡ Ok (d, columns, shown)
      → accepts_program schema [] (query_of d) [] ≡ true
      → timed schema [] (written.Select (select_of name columns filter order limit)) ≡ []
      → ((base : ℕ) → returning schema base (written.Select (select_of name columns filter order limit))
      ≡ Ok None) → Means schema sql count (Select (program_of d) columns)
  select_means ordered paged is typed untimed unshown =
      let select = select_of name columns filter order limit in
      let plain = is_plain schema name columns filter order limit page paged in
      means_is schema sql (written.Select select) count (Select (program_of d) columns) text untimed unshown
      (select_is schema select (core_of name columns filter) (from_table name) name page d columns shown plain
      (subst (λ o. named schema (core_of name columns filter) o page ≡ Ok (
        d,
        columns,
        shown,
      )) (sym ordered) is) typed)

-- ---- INSERT and UPDATE

abbrev pub insert_into : List ℕ → List (List ℕ) → List Expr → Statement
insert_into name columns values = written.Insert conflict.Abort name columns (rows.Values (values ∷ [])) [] []

-- WHERE key = value
abbrev pub update_where : List ℕ → List (List ℕ × Expr) → List ℕ → Expr → Statement
update_where name sets key value =
    written.Update name sets (Some (expr.Binary binary.Eq (expr.Column None key) value)) []
