-- CREATE INDEX does not change the rows of a table.
use Rattle.portal_tables_sql.proofs.Common.{◌≡◌, ℕ, ◌+◌, List, [], None, is_some, Ok, Err, refl, true, false}
use Rattle.portal_tables_sql.proofs.Common.{Bool, if◌then◌else◌, ap, subst, ◌∙◌, slice_range, option_or}
use Rattle.portal_tables_sql.proofs.Common.{Schema, Table, Index, Command, CreateIndex, Nothing, table_named}
use Rattle.portal_tables_sql.proofs.Common.{index_named, view_named, Statement, Compiled, Exists, Checked}
use Rattle.portal_tables_sql.proofs.Common.{and_then, returning, timed, small, index_defined_by, place_has}
use Rattle.portal_tables_sql.proofs.Common.{all_has, Tally, Database, IsDatabase, State, Executes, Writes}
use Rattle.portal_tables_sql.proofs.Common.{statement_of, runs_as, TableExists}
use Rattle.sqlite_resolve.specs.Compile.{command}
use Rattle.sqlite_catalog.specs.Change.{with_index, indexed, KeepsRows}
use Rattle.sqlite.specs.Listing.{understood}
use Rattle.sqlite.specs.State.{ExecutesIn}
use Rattle.portal_tables_sql.proofs.Texts.{IsText, Means, known_as, refused, went, same_value}

-- what a CREATE INDEX with no IF NOT EXISTS on the table at this place is, whatever is there
abbrev pub made_index : Bool → Bool → ℕ → Checked Command
made_index other same at = and_then (if other then Err Exists
    else (if same then (if false then Ok false else Err Exists) else Ok true))
    (λ is_new. if is_new then Ok (CreateIndex at) else Ok Nothing)

abbrev pub index_in : Schema → List ℕ → ℕ → Checked Command
index_in schema name at = made_index (is_some (option_or (table_named schema name) (view_named schema name)))
    (is_some (index_named schema name)) at

module _ (schema : Schema) (sql : List ℕ) (statement : Statement) (count : ℕ) (t : IsText sql statement count)
    (untimed : timed schema [] statement ≡ [])
    (unshown : (base : ℕ) → returning schema base statement ≡ Ok None) where
  means : (a b : Bool) (at : ℕ) → command schema [] (small t.parsed.names + 0) statement ≡ made_index a b at
      → (x : Compiled) → understood schema sql ≡ Ok x
      → Means schema sql count (CreateIndex at)
      × (statement_of sql (understood schema sql) ≡ slice_range sql t.parsed.start t.parsed.end)
  means true b at is x ok = absurd (refused schema sql statement count t untimed unshown Exists refl is x ok)
  means false true at is x ok =
      absurd (refused schema sql statement count t untimed unshown Exists refl is x ok)
  means false false at is x ok = known_as schema sql statement count t untimed unshown (CreateIndex at) is

-- a text that creates an index on the table, wherever it is in the schema
pub record IsIndex (sql : List ℕ) (table : ℕ → Table) : Type 0 where
  pub statement : Statement
  pub text : IsText sql statement 0
  pub name : List ℕ
  pub untimed : (schema : Schema) → timed schema [] statement ≡ []
  pub unshown : (schema : Schema) (base : ℕ) → returning schema base statement ≡ Ok None
  pub makes : (schema : Schema) (at tree : ℕ) → TableExists schema at (table tree) → (base : ℕ)
      → command schema [] base statement ≡ index_in schema name at
  pub whole : slice_range sql text.parsed.start text.parsed.end ≡ sql

-- the statement created an index and changed nothing else
pub record HasIndexed (db : Database) (table : Table) (sql : List ℕ) (after : Database) : Type 0 where
  pub index : Index
  pub defined : index_defined_by table sql ≡ Ok index
  pub is : after.schema ≡ indexed db.schema table index
  pub rows : KeepsRows db.schema.tables db.trees after.trees
  pub sound : IsDatabase after

-- where it answered Ok, the text made its index
pub indexes : (sql : List ℕ) (table : ℕ → Table) (at tree : ℕ) (old new : State) (count : ℕ)
    → IsIndex sql table → TableExists old.now.schema at (table tree) → Executes sql [] old new (Ok count)
    → HasIndexed old.now (table tree) sql new.now
unfolding ExecutesIn
indexes sql table at tree old new count it exists ran =
    let known = means old.now.schema sql it.statement 0 it.text (it.untimed old.now.schema)
    (it.unshown old.now.schema) _ _ at (it.makes old.now.schema at tree exists _) ran.0 ran.1.is in
    let w = subst (λ t. Writes old new None (CreateIndex at) t [] count) (known.1 ∙ it.whole)
    (runs_as sql [] old new old.now.schema refl (CreateIndex at) known.0.is known.0.plain count ran) in
    let all = went (rw exists.there at w.changed) in
    let made = all.1 in
    let now : new.now ≡ all.0 = ap (λ (p : Tally × Database). p.1) (same_value all.2) in
    record {
      index = _;
      defined = made.defined;
      is = ap (λ (d : Database). d.schema) now ∙ made.is;
      rows = rw now made.rows;
      sound = w.sound;
    }

-- one index more does not change where a table is
pub still_stands_indexed : (schema : Schema) (index : Index) (at : ℕ) (table : Table)
    → TableExists schema at table → TableExists (with_index schema index) at table
still_stands_indexed schema index at table h =
    record { named = h.named; there = h.there; low = h.low; typed = h.typed; only = h.only }

pub rows_indexed : (db : Database) (on : Table) (sql : List ℕ) (after : Database) (a : ℕ) (x : Table)
    → HasIndexed db on sql after → TableExists db.schema a x → after.trees x.tree ≡ db.trees x.tree
rows_indexed db on sql after a x k exists =
    all_has _ db.schema.tables x k.rows (place_has db.schema.tables a x exists.there)
