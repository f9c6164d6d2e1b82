-- Whether tables can be added to a schema: the actions of its foreign keys, and AUTOINCREMENT.
use Rattle.std.specs.Prelude.{ℕ, List, Bool, true, false, not, ◌&&◌, ◌||◌}
use Rattle.std.specs.List.{list_all, list_any}
use Rattle.sqlite.specs.Table.{Table}
use Rattle.sqlite.specs.Schema.{Schema}
use Rattle.sqlite_schema.specs.declared.schema.Reference.{Reference}
use Rattle.sqlite_schema.specs.declared.schema.Action.{Action}
use Rattle.sqlite_schema.specs.declared.schema.Action.TheVariants.{NoAction, Restrict, Cascade, SetNull}
use Rattle.sqlite_schema.specs.declared.schema.Action.TheVariants.{SetDefault}
use Rattle.sqlite_schema.specs.Names.{same_name}

-- the action is NO ACTION
abbrev pub has_no_action : Action → Bool
has_no_action NoAction = true
has_no_action Restrict = false
has_no_action Cascade = false
has_no_action SetNull = false
has_no_action SetDefault = false

-- the foreign key has NO ACTION for both events, or refers to another table than the one of this name
abbrev pub is_harmless : List ℕ → Reference → Bool
is_harmless name ref =
    (has_no_action ref.on_delete && has_no_action ref.on_update) || not (same_name name ref.parent)

-- each foreign key of the schema is harmless to the table of this name
abbrev pub are_harmless : List ℕ → Schema → Bool
are_harmless name schema = list_all (λ (t : Table). list_all (is_harmless name) t.references) schema.tables

-- a table of the schema has an AUTOINCREMENT key
abbrev pub any_autoincrement : Schema → Bool
any_autoincrement schema = list_any (λ (t : Table). t.is_counted) schema.tables
