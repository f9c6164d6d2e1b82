-- A table that exists in a schema among others.
use Rattle.std.specs.Prelude.{◌≡◌, ◌⊎◌, ℕ, List, ◌^◌, true, false, Some, IfSome, slice_get, find, ◌==◌}
use Rattle.std.specs.Prelude.{nat_le}
use Rattle.sqlite_schema.specs.declared.schema.Reference.{Reference}
use Rattle.sqlite_schema.specs.declared.schema.Action.TheVariants.{NoAction}
use Rattle.sqlite_schema.specs.Rules.{parent_key}
use Rattle.sqlite_rules.specs.Lists.{Has}
use Rattle.sqlite.specs.Table.{Table}
use Rattle.sqlite.specs.Schema.{Schema}
use Rattle.sqlite_schema.specs.Names.{table_named, same_name}

-- The table exists at this place. Its name, its place and its tree each identify it among the other tables.
pub record TableExists (schema : Schema) (at : ℕ) (table : Table) : Type 0 where
  pub named : table_named schema table.name ≡ Some at
  pub there : slice_get schema.tables at ≡ Some table
  pub low : nat_le (2 ^ 31) table.tree ≡ false
  pub typed : find (λ t. t.tree == table.tree) schema.tables ≡ Some table
  pub only : (t : Table) → Has schema.tables t → (t.tree == table.tree) ≡ true → t ≡ table

-- a foreign key that points at the tree does nothing where its parent changes
abbrev pub IsUnacted : Schema → ℕ → Type 0
IsUnacted schema tree = (child : Table) (ref : Reference) → Has schema.tables child → Has child.references ref
    → ((ref.on_delete ≡ NoAction) × (ref.on_update ≡ NoAction))
    ⊎ IfSome (parent_key schema.tables ref) (λ key. (key.0 == tree) ≡ false)

-- each foreign key that names the table has NO ACTION
abbrev pub IsUnactedBy : Schema → List ℕ → Type 0
IsUnactedBy schema name =
    (child : Table) (ref : Reference) → Has schema.tables child → Has child.references ref
    → ((ref.on_delete ≡ NoAction) × (ref.on_update ≡ NoAction)) ⊎ (same_name name ref.parent ≡ false)
