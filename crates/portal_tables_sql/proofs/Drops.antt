-- What a DROP TABLE means, wherever the table is in the schema.
use Rattle.portal_tables_sql.proofs.Common.{◌≡◌, inl, inr, ℕ, ◌+◌, List, [], ◌∷◌, None}
use Rattle.portal_tables_sql.proofs.Common.{Some, is_some, Ok, Err}
use Rattle.portal_tables_sql.proofs.Common.{Bool, true, false, if◌then◌else◌, ◌&&◌}
use Rattle.portal_tables_sql.proofs.Common.{refl, sym, ap, subst}
use Rattle.portal_tables_sql.proofs.Common.{◌∙◌, ◌⊎◌, list_any, Schema, Table, Reference, Has, NoAction}
use Rattle.portal_tables_sql.proofs.Common.{Off, Enforced, Deferred, mode_of}
use Rattle.sqlite_schema.specs.declared.schema.Keys.{Keys}
use Rattle.portal_tables_sql.proofs.Common.{table_named, view_named, same_name, Statement, Compiled, Checked}
use Rattle.portal_tables_sql.proofs.Common.{returning, timed, small, Command, Tally, Database}
use Rattle.portal_tables_sql.proofs.Common.{State, Executes}
use Rattle.portal_tables_sql.proofs.Common.{runs_as, TableExists, IsUnactedBy}
use Rattle.sqlite_schema.specs.declared.command.Command.TheVariants.{DropTable}
use Rattle.sqlite_resolve.specs.declared.error.CompileError.TheVariants.{Misuse}
use Rattle.sqlite_resolve.specs.Compile.{command}
use Rattle.sqlite_rules.specs.Action.{deed_for}
use Rattle.sqlite.specs.Does.{is_acted_on, Drops, Empties, Uncounts}
use Rattle.sqlite.specs.Rows.{Task}
use Rattle.sqlite.specs.declared.run.Mode.{Mode}
use Rattle.sqlite_catalog.specs.Change.{without_table, KeepsRows}
use Rattle.portal_tables_sql.proofs.Common.{AtPlace, Option, Row, Trees, subst₂}
use Rattle.sqlite.specs.Listing.{understood}
use Rattle.sqlite.specs.State.{ExecutesIn}
use Rattle.portal_tables_sql.specs.Dropped.{HasDropped}
use Rattle.portal_tables_sql.proofs.Texts.{IsText, Means, known_as, refused, went, same_value}

abbrev task_of : Option ℕ → Keys → Schema → Table → Row → Task
task_of limit keys schema table params =
    record { limit = limit; keys = keys; schema = schema; table = table; params = params }

-- what a DROP TABLE with no IF EXISTS of the table at this place is, whatever view is there
abbrev pub dropped_at : Bool → ℕ → Checked Command
dropped_at viewed at = if viewed then Err Misuse else Ok (DropTable at)

module _ (schema : Schema) (sql : List ℕ) (statement : Statement) (count : ℕ) (t : IsText sql statement count)
    (untimed : timed schema [] statement ≡ [])
    (unshown : (base : ℕ) → returning schema base statement ≡ Ok None) where
  means : (b : Bool) (at : ℕ) → command schema [] (small t.parsed.names + 0) statement ≡ dropped_at b at
      → (x : Compiled) → understood schema sql ≡ Ok x → Means schema sql count (DropTable at)
  means true at is x ok = absurd (refused schema sql statement count t untimed unshown Misuse refl is x ok)
  means false at is x ok = (known_as schema sql statement count t untimed unshown (DropTable at) is).0

-- a text that drops the table of this name
pub record IsDrop (sql name : List ℕ) : Type 0 where
  pub statement : Statement
  pub text : IsText sql statement 0
  pub untimed : (schema : Schema) → timed schema [] statement ≡ []
  pub unshown : (schema : Schema) (base : ℕ) → returning schema base statement ≡ Ok None
  pub drops : (schema : Schema) (at : ℕ) → table_named schema name ≡ Some at → (base : ℕ)
      → command schema [] base statement ≡ dropped_at (is_some (view_named schema name)) at

-- no foreign key acts where a row of the table goes
no_deed : (keys : Keys) (ref : Reference) → ref.on_delete ≡ NoAction → deed_for keys true ref ≡ None
no_deed Off ref none = refl
no_deed Enforced ref none = rw none refl
no_deed Deferred ref none = rw none refl

none_right : (b : Bool) → (b && false) ≡ false
none_right true = refl
none_right false = refl

acted_by : (keys : Keys) (name : List ℕ) (ref : Reference)
    → ((ref.on_delete ≡ NoAction) × (ref.on_update ≡ NoAction)) ⊎ (same_name name ref.parent ≡ false)
    → (same_name name ref.parent && is_some (deed_for keys true ref)) ≡ false
acted_by keys name ref (inl idle) = rw (no_deed keys ref idle.0) (none_right (same_name name ref.parent))
acted_by keys name ref (inr other) = rw other refl

pub none_of : {X : Type 0} (p : X → Bool) (xs : List X) → ((x : X) → Has xs x → p x ≡ false)
    → list_any p xs ≡ false
none_of p [] each = refl
none_of p (x ∷ xs) each = rw (each x (inl refl)) (none_of p xs (λ y has. each y (inr has)))

idle_in : (schema : Schema) (keys : Keys) (t : Table) → IsUnactedBy schema t.name
    → is_acted_on schema keys t ≡ false
idle_in schema keys t unacted = none_of _ schema.tables
    (λ child listed. none_of _ child.references (λ ref has.
    acted_by keys t.name ref (unacted child ref listed has)))

module _ (limit : Option ℕ) (mode : Mode) (schema : Schema) (t : Table) (params : Row) (db : Trees)
    (idle : is_acted_on schema mode.keys t ≡ false) (plain : t.is_counted ≡ false) where
  -- no row is deleted one by one, and there is no count of the rowids
  emptied_is : (out : Trees) → Empties (task_of limit mode.keys schema t params) db (Ok out) → out ≡ db
  emptied_is out h = same_value (rw idle at h)

  uncounted_is : (now out : Trees) → Uncounts (task_of limit mode.keys schema t params) now (Ok out)
      → out ≡ now
  uncounted_is now out h = same_value (rw plain at h)

  gone : (tally : Tally) (after : Database)
      → Drops (task_of limit mode.keys schema t params) mode db (Ok (tally, after))
      → (after.schema ≡ without_table schema t.tree)
      × KeepsRows (without_table schema t.tree).tables db after.trees
  gone tally after h =
      let emptied = went h in
      let uncounted = went emptied.2 in
      let left = went (went uncounted.2).2 in
      let now : after ≡ left.0 = ap (λ (p : Tally × Database). p.1) (same_value left.2) in
      let same : uncounted.0 ≡ db = uncounted_is emptied.0 uncounted.0 uncounted.1
      ∙ emptied_is emptied.0 emptied.1 in (
        ap (λ (d : Database). d.schema) now ∙ left.1.0,
        subst₂ (λ (was : Trees) (d : Database). KeepsRows (without_table schema t.tree).tables was d.trees)
            same (sym now) left.1.1,
      )

-- where it answered Ok, the table is gone
pub drops : (sql : List ℕ) (at : ℕ) (t : Table) (old new : State) (count : ℕ) → IsDrop sql t.name
    → TableExists old.now.schema at t → t.is_counted ≡ false → IsUnactedBy old.now.schema t.name
    → Executes sql [] old new (Ok count) → HasDropped old.now t.tree new.now
unfolding ExecutesIn
drops sql at t old new count it exists plain unacted ran =
    let known = means old.now.schema sql it.statement 0 it.text (it.untimed old.now.schema)
    (it.unshown old.now.schema) _ at (it.drops old.now.schema at exists.named _) ran.0 ran.1.is in
    let w = runs_as sql [] old new old.now.schema refl (DropTable at) known.is known.plain count ran in
    let mode = mode_of old in
    let now = gone old.step_limit mode old.now.schema t [] old.now.trees
    (idle_in old.now.schema mode.keys t unacted) plain w.tally new.now
    (subst (λ o. AtPlace (λ table. Drops (task_of old.step_limit mode.keys old.now.schema table []) mode
    old.now.trees) o (Ok (w.tally, new.now))) exists.there w.changed) in
    record { is = now.0; others = now.1; sound = w.sound }
