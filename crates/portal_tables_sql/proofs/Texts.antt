-- From a text, read once, to the command that it is under a schema of which only the product's tables are
-- known.
use Rattle.portal_tables_sql.proofs.Common.{◌≡◌, ℕ, ◌+◌, List, [], ◌∷◌, Option, None, Ok, refl, true, false}
use Rattle.portal_tables_sql.proofs.Common.{length, Command, Select, Term, Schema, accepts_program, query_of}
use Rattle.portal_tables_sql.proofs.Common.{Draft, Collation, Statement, Core, out-Core, Source, out-Source}
use Rattle.portal_tables_sql.proofs.Common.{out-Select, Name, named, paging, Compiled, first, returning}
use Rattle.portal_tables_sql.proofs.Common.{timed, small, with_command, reads_listing, command_of, ◌⊎◌, inl}
use Rattle.portal_tables_sql.proofs.Common.{inr, sym, ◌∙◌, Err, Result, CompileError, misses_table}
use Rattle.portal_tables_sql.proofs.Common.{statement_of, slice_range, nat_le}
use Rattle.sqlite_schema.specs.declared.program.Program.{Program}
use Rattle.sqlite_syntax.specs.declared.statement.Parsed.{Parsed}
use Rattle.sqlite_ast.specs.declared.Statement.TheVariants as written
use Rattle.sqlite_ast.specs.declared.Origin.TheVariants as origin
use Rattle.sqlite_ast.specs.declared.Select as ast
use Rattle.sqlite_resolve.specs.Program.{query, query_to, level, with, whole, alone, single, sources, source}
use Rattle.sqlite_resolve.specs.Program.{viewing, program}
use Rattle.sqlite_resolve.specs.Compile.{compiled, planned, meaning, command, read}
use Rattle.sqlite.specs.Listing.{understood}
use Rattle.sqlite.proofs.Callers.{IsPlain}

-- the text is read as this statement, with so many parameters
pub record IsText (sql : List ℕ) (statement : Statement) (count : ℕ) : Type 0 where
  pub parsed : Parsed
  pub read : first sql ≡ Ok parsed
  pub is : parsed.statement ≡ statement
  pub timeless : parsed.formats ≡ []
  pub counted : length parsed.names ≡ count
  pub whole : nat_le (length sql) parsed.tail ≡ true

-- it is one statement with so many parameters
abbrev pub IsOne : List ℕ → ℕ → Result Compiled CompileError → Type 0
IsOne sql count (Ok c) = (nat_le (length sql) c.tail ≡ true) × (length c.names ≡ count)
IsOne sql count (Err e) = ⊥

-- what `Callers` asks of a text, and that it is one statement with so many parameters
pub record Means (schema : Schema) (sql : List ℕ) (count : ℕ) (c : Command) : Type 0 where
  pub is : command_of (understood schema sql) ≡ c
  pub plain : IsPlain (understood schema sql)
  pub unlisted : reads_listing schema sql ≡ false
  pub one : IsOne sql count (understood schema sql)

-- a part that gave a value did not end on the way
pub went : {B E R : Type 0} {b : B} {Stops : E → Type 0}
    → ((stop : E) × Stops stop × (Ok b ≡ Err stop)) ⊎ R → R
went (inl stopped) = absurd (let e = stopped.2 in cc)
went (inr on) = on

pub same_value : {B E : Type 0} {a b : B} → ◌≡◌ {A = Result B E} (Ok a) (Ok b) → a ≡ b
same_value e = cc

module _ (schema : Schema) (sql : List ℕ) (statement : Statement) (count : ℕ) (t : IsText sql statement count)
    (untimed : timed schema [] statement ≡ [])
    (unshown : (base : ℕ) → returning schema base statement ≡ Ok None) where
  pub compiled_ok : (c : Command) → command schema [] (small t.parsed.names + 0) statement ≡ Ok c
      → compiled schema sql ≡ Ok (with_command t.parsed ([], (c, None)))
  unfolding compiled planned meaning
  compiled_ok c is = rw (t.read, t.is, t.timeless, untimed, unshown _, is) refl

  pub compiled_err : (e : CompileError) → command schema [] (small t.parsed.names + 0) statement ≡ Err e
      → compiled schema sql ≡ Err e
  unfolding compiled planned meaning
  compiled_err e is = rw (t.read, t.is, t.timeless, untimed, unshown _, is) refl

  -- the text where its command is known
  pub understood_as : (c : Command) → command schema [] (small t.parsed.names + 0) statement ≡ Ok c
      → (understood schema sql ≡ Ok (with_command t.parsed ([], (c, None))))
      × (reads_listing schema sql ≡ false)
  unfolding understood
  understood_as c is = let known = compiled_ok c is in (rw known refl, rw known refl)

  -- or why it has none
  pub refused_as : (e : CompileError) → misses_table (Err e) ≡ false
      → command schema [] (small t.parsed.names + 0) statement ≡ Err e → understood schema sql ≡ Err e
  unfolding understood
  refused_as e other is = let known = compiled_err e is in rw (known, other) refl

  pub refused : (e : CompileError) → misses_table (Err e) ≡ false
      → command schema [] (small t.parsed.names + 0) statement ≡ Err e → (x : Compiled)
      → ¬ (understood schema sql ≡ Ok x)
  refused e other is x ok = let none = sym (refused_as e other is) ∙ ok in cc

  pub known_as : (c : Command) → command schema [] (small t.parsed.names + 0) statement ≡ Ok c
      → Means schema sql count c
      × (statement_of sql (understood schema sql) ≡ slice_range sql t.parsed.start t.parsed.end)
  known_as c is = let u = understood_as c is in (
    record {
      is = rw u.0 refl;
      plain = rw u.0 (refl, refl);
      unlisted = u.1;
      one = rw u.0 (t.whole, t.counted);
    },
    rw u.0 refl,
  )

pub means_is : (schema : Schema) (sql : List ℕ) (statement : Statement) (count : ℕ) (c : Command)
    (t : IsText sql statement count)
    → timed schema [] statement ≡ [] → ((base : ℕ) → returning schema base statement ≡ Ok None)
    → ((base : ℕ) → command schema [] base statement ≡ Ok c) → Means schema sql count c
means_is schema sql statement count c t untimed unshown is =
    (known_as schema sql statement count t untimed unshown c (is _)).0

-- ---- a SELECT from one table

pub record IsPlainSelect (schema : Schema) (s : ast.Select) (core : Core) (source : Source) (name : Name)
    (page : Term × Term) : Type 0 where
  pub unnested : (out-Select s).with ≡ []
  pub one : (out-Select s).others ≡ []
  pub first : (out-Select s).first ≡ core
  pub from : (out-Core core).from ≡ source ∷ []
  pub table : (out-Source source).origin ≡ origin.Table name
  pub paged : paging schema s ≡ Ok page

query_is : (schema : Schema) (s : ast.Select) (core : Core) (from : Source) (name : Name) (page : Term × Term)
    (shown : Draft × List Name × List (Option Collation))
    → IsPlainSelect schema s core from name page → named schema core (out-Select s).order page ≡ Ok shown
    → query schema s ≡ Ok (shown, [])
unfolding query query_to level with whole alone single sources source viewing
query_is schema s core from name page shown h made =
    rw (h.unnested, h.paged, h.one, h.first, h.from, h.table, made) refl

abbrev pub program_of : Draft → Program
program_of d = record { lets = []; body = query_of d }

program_is : (schema : Schema) (d : Draft) → accepts_program schema [] (query_of d) [] ≡ true
    → program schema [] d ≡ Ok (program_of d)
unfolding program
program_is schema d typed = rw typed refl

pub select_is : (schema : Schema) (s : ast.Select) (core : Core) (from : Source) (name : Name)
    (page : Term × Term) (d : Draft) (names : List Name) (by : List (Option Collation))
    → IsPlainSelect schema s core from name page
    → named schema core (out-Select s).order page ≡ Ok (d, names, by)
    → accepts_program schema [] (query_of d) [] ≡ true
    → (base : ℕ) → command schema [] base (written.Select s) ≡ Ok (Select (program_of d) names)
unfolding command read
select_is schema s core from name page d names by h made typed base =
    rw (query_is schema s core from name page (d, names, by) h made, program_is schema d typed) refl
