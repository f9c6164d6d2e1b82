-- Queries that only read, and values that are read from the rows of a result.
use Rattle.std.specs.Prelude.{◌≡◌, ℕ, List, [], map, None, Result, Ok, Err}
use Rattle.sqlite.specs.Command.{Command}
use Rattle.sqlite.specs.Command.TheVariants.{Select}
use Rattle.sqlite.specs.Order.{Row}
use Rattle.sqlite.specs.Schema.{Schema}
use Rattle.sqlite.specs.Listing.{understood}
use Rattle.sqlite_resolve.specs.declared.compiled.Compiled.{Compiled}
use Rattle.sqlite_resolve.specs.declared.error.CompileError.{CompileError}
use Rattle.portal_tables_sql.specs.Finds.{columns}

-- any schema
abbrev pub Anything : Schema → Type 0
Anything schema = Unit {0}

-- the text does not compile to a write with RETURNING
abbrev pub Asks : List ℕ → Schema → Type 0
Asks sql schema = (c : Compiled) → understood schema sql ≡ Ok c → c.returning ≡ None

-- the same under each schema
abbrev pub OnlyAsks : List ℕ → Type 0
OnlyAsks sql = (schema : Schema) → Asks sql schema

-- a query that computes no other table first
abbrev pub IsDirect : Command → Type 0
IsDirect (Select plan names) = plan.lets ≡ []
IsDirect command = ⊥

-- the text compiles to such a query
abbrev pub IsSimple : Result Compiled CompileError → Type 0
IsSimple (Ok c) = (c.returning ≡ None) × IsDirect c.command
IsSimple (Err e) = ⊥

-- the rows of the result have the cells of the values in their first columns
pub record AnswersCells {V : Type 0} (Shows : List Row → Type 0) (cells : V → Row) (width : ℕ)
    (values : List V) : Type 0 where
  pub rows : List Row
  pub shown : Shows rows
  pub are : map cells values ≡ map (columns width) rows
