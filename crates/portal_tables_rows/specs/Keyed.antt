-- A key of two columns.
use Rattle.std.specs.Prelude.{ℕ, Bool, ◌&&◌}
use Rattle.sqlite.specs.declared.types.Value.{Value}
use Rattle.sqlite.specs.Order.{Row}
use Rattle.portal_tables_sql.specs.Finds.{has_key}

-- both columns are the keys, as SQL compares values
abbrev pub has_keys : ℕ → Value → ℕ → Value → Row → Bool
has_keys i a j b row = has_key i a row && has_key j b row
