-- CREATE TABLE under any schema: where it answered Ok, it made the table.
use Rattle.portal_tables_sql.proofs.Common.{◌≡◌, ◌⊎◌, inl, inr, ℕ, ◌+◌, List, [], ◌∷◌, ◌++◌, codes, Option}
use Rattle.portal_tables_sql.proofs.Common.{Some, None, is_some, Ok, Err, slice_get, slice_range, refl, true}
use Rattle.portal_tables_sql.proofs.Common.{false, Bool, if◌then◌else◌, ap, sym, subst, ◌∙◌, option_or}
use Rattle.portal_tables_sql.proofs.Common.{Schema, Table, Command, CreateTable, Nothing, table_named}
use Rattle.portal_tables_sql.proofs.Common.{index_named, view_named, Statement, Compiled, Exists, Unsupported}
use Rattle.portal_tables_sql.proofs.Common.{Checked, and_then, returning, timed, is_attached, small}
use Rattle.portal_tables_sql.proofs.Common.{table_defined_by, list_any, ◌||◌, ◌&&◌, not, option_and_then}
use Rattle.portal_tables_sql.proofs.Common.{same_name, Tally, lacks_sequence, Database, State, Writes}
use Rattle.portal_tables_sql.proofs.Common.{Executes, ExecutesInside, Shows, statement_of, runs_as}
use Rattle.sqlite_resolve.specs.Compile.{command}
use Rattle.sqlite.specs.Change.{created, next_tree}
use Rattle.sqlite.specs.Rows.{sequence}
use Rattle.portal_tables_sql.proofs.TableExistsLemmas.{placed_before, got_before}
use Rattle.portal_tables_sql.specs.Made.{HasItsSequence, HasMade}
use Rattle.sqlite.specs.Listing.{understood}
use Rattle.sqlite.specs.State.{ExecutesIn}
use Rattle.portal_tables_sql.proofs.Texts.{IsText, Means, known_as, refused, went, same_value}

-- what a CREATE TABLE with no IF NOT EXISTS is, whatever is there
abbrev pub made : Bool → Bool → Bool → Checked Command
made attached indexed taken =
    if attached then Err Unsupported else
    and_then (if indexed then Err Exists
    else (if taken then (if false then Ok false else Err Exists) else Ok true))
    (λ is_new. if is_new then Ok CreateTable else Ok Nothing)

abbrev pub made_in : Schema → List ℕ → Checked Command
made_in schema name = made (is_attached schema name) (is_some (index_named schema name))
    (is_some (option_or (table_named schema name) (view_named schema name)))

module _ (schema : Schema) (sql : List ℕ) (statement : Statement) (count : ℕ) (t : IsText sql statement count)
    (untimed : timed schema [] statement ≡ [])
    (unshown : (base : ℕ) → returning schema base statement ≡ Ok None) where
  means : (a b c : Bool) → command schema [] (small t.parsed.names + 0) statement ≡ made a b c
      → (x : Compiled) → understood schema sql ≡ Ok x
      → Means schema sql count CreateTable
      × (statement_of sql (understood schema sql) ≡ slice_range sql t.parsed.start t.parsed.end)
  means true b c is x ok =
      absurd (refused schema sql statement count t untimed unshown Unsupported refl is x ok)
  means false true c is x ok =
      absurd (refused schema sql statement count t untimed unshown Exists refl is x ok)
  means false false true is x ok =
      absurd (refused schema sql statement count t untimed unshown Exists refl is x ok)
  means false false false is x ok = known_as schema sql statement count t untimed unshown CreateTable is

-- a text that creates this table, under any schema
pub record IsCreate (sql : List ℕ) (table : Table) : Type 0 where
  pub statement : Statement
  pub text : IsText sql statement 0
  pub untimed : (schema : Schema) → timed schema [] statement ≡ []
  pub unshown : (schema : Schema) (base : ℕ) → returning schema base statement ≡ Ok None
  pub makes : (schema : Schema) (base : ℕ) → command schema [] base statement ≡ made_in schema table.name
  pub defines : table_defined_by sql ≡ Ok table
  pub whole : slice_range sql text.parsed.start text.parsed.end ≡ sql

any_more : {X : Type 0} (p : X → Bool) (xs : List X) (x : X) → p x ≡ false
    → list_any p (xs ++ x ∷ []) ≡ list_any p xs
any_more p [] x off = rw off refl
any_more p (y ∷ xs) x off = ap (λ b. p y || b) (any_more p xs x off)

pub counted_off : (any some : Bool) → some ≡ true → (any && not some) ≡ false
counted_off any true e = either any
  where
    either : (b : Bool) → (b && false) ≡ false
    either true = refl
    either false = refl
counted_off any false e = absurd cc

pub one_of : (any some : Bool) → (any && not some) ≡ false → (any ≡ false) ⊎ (some ≡ true)
one_of false some e = inl refl
one_of true true e = inr refl
one_of true false e = absurd cc

pub found_in : (o : Option ℕ) (tables : List Table) → is_some (option_and_then (slice_get tables) o) ≡ true
    → (k : ℕ) × (t : Table) × (o ≡ Some k) × (slice_get tables k ≡ Some t)
found_in None tables e = absurd cc
found_in (Some k) tables e = at_place (slice_get tables k) refl e
  where
    at_place : (got : Option Table) → slice_get tables k ≡ got → is_some (slice_get tables k) ≡ true
        → (k' : ℕ) × (t : Table) × (Some k ≡ Some k') × (slice_get tables k' ≡ Some t)
    at_place None is e = absurd (let e = rw is at e in cc)
    at_place (Some t) is e = (k, t, refl, is)

pub still_counts : (schema : Schema) (table : Table) → table.is_counted ≡ false → HasItsSequence schema
    → HasItsSequence (created schema table)
still_counts schema table plain counts =
    let new : Table = record table { tree = next_tree schema } in
    elim (one_of (list_any (λ t. t.is_counted) schema.tables) (is_some (sequence schema)) counts) [
      | inl none ↦ rw (any_more (λ (t : Table). t.is_counted) schema.tables new plain, none) refl
      | inr there ↦
          let found = found_in (table_named schema (codes "sqlite_sequence")) schema.tables there in
          let named = placed_before (λ (t : Table). same_name t.name (codes "sqlite_sequence")) 0 found.0
          schema.tables (new ∷ []) found.2 in
          let got = got_before found.0 found.1 schema.tables (new ∷ []) found.3 in
          let some : is_some (sequence (created schema table)) ≡ true = rw (named, got) refl in
          counted_off (list_any (λ t. t.is_counted) (schema.tables ++ new ∷ [])) _ some
    ]

pub makes : (sql : List ℕ) (table : Table) (old new : State) (count : ℕ) → IsCreate sql table
    → HasItsSequence (created old.now.schema table) → Executes sql [] old new (Ok count)
    → HasMade old.now table new.now
unfolding ExecutesIn
makes sql table old new count it counts ran =
    let known = means old.now.schema sql it.statement 0 it.text (it.untimed old.now.schema)
    (it.unshown old.now.schema) _ _ _ (it.makes old.now.schema _) ran.0 ran.1.is in
    let w = subst (λ t. Writes old new None CreateTable t [] count) (known.1 ∙ it.whole)
    (runs_as sql [] old new old.now.schema refl CreateTable known.0.is known.0.plain count ran) in
    let all = went w.changed in
    let first = went all.1 in
    let one = first.1 in
    let both : Ok one.table ≡ Ok table = sym one.defined ∙ it.defines in
    let same : one.table ≡ table = cc in
    let schema : first.0.schema ≡ created old.now.schema table = one.is ∙ ap (created old.now.schema) same in
    let plain : lacks_sequence first.0.schema ≡ false = ap lacks_sequence schema ∙ counts in
    let now : new.now ≡ first.0 =
    ap (λ (p : Tally × Database). p.1) (same_value all.2) ∙ same_value (rw plain at first.2) in
    record {
      free = rw same at one.free;
      is = ap (λ (d : Database). d.schema) now ∙ schema;
      empty = ap (λ (d : Database). d.trees (next_tree old.now.schema)) now ∙ one.empty;
      others = rw now one.others;
      sound = w.sound;
    }

-- the same inside a transaction
pub makes_inside : (sql : List ℕ) (table : Table) (old new : State) (count : ℕ) → IsCreate sql table
    → table.is_counted ≡ false → HasItsSequence old.now.schema → ExecutesInside 0 sql [] old new (Ok count)
    → HasMade old.now table new.now × HasItsSequence new.now.schema × Shows old new new.now old.committed true
makes_inside sql table old new count it plain counts ran =
    let later = still_counts old.now.schema table plain counts in
    let made = makes sql table old new count it later ran.0 in
    (made, subst HasItsSequence (sym made.is) later, ran.1)
