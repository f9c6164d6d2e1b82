-- The six tables of schema version 1, which every schema version has, in any layout, and tables of schema
-- versions that keep their counters apart.
use Rattle.std.specs.Prelude.{ℕ, Bool, []}
use Rattle.sqlite.specs.Schema.{Schema}
use Rattle.sqlite.specs.Effect.{Database}
use Rattle.portal_tables_sql.specs.Tables.{Layout, Apart, Together}
use Rattle.portal_tables_rows.specs.Contents.{Contents}
use Rattle.portal_tables_rows.specs.Holds.{HoldsTables, HasTablesIn, HoldsIn, this_schema_version}

-- the database holds just these rows in the six tables; the rows of later tables are ignored
abbrev pub HoldsFirst : Database → Contents → Type 0
HoldsFirst db t = (layout : Layout) × HoldsTables layout 1 [] db t

-- the schema has the six tables, whatever they hold
abbrev pub HasFirst : Schema → Type 0
HasFirst schema = (layout : Layout) × HasTablesIn layout 1 [] schema

-- the database holds just these rows in the tables of the schema version, with the counters apart
abbrev pub HoldsApart : ℕ → Database → Contents → Type 0
HoldsApart schema_version db t = (keyed : Bool) × HoldsTables (Apart keyed) schema_version [] db t

-- the schema has those tables, whatever they hold
abbrev pub HasApart : ℕ → Schema → Type 0
HasApart schema_version schema = (keyed : Bool) × HasTablesIn (Apart keyed) schema_version [] schema

-- the database holds just these rows in the tables of this schema version, with any of its indexes
abbrev pub HoldsBare : Database → Contents → Type 0
HoldsBare db t = HoldsIn this_schema_version [] db t

-- the schema has those tables, whatever they hold
abbrev pub HasBare : Schema → Type 0
HasBare schema = HasTablesIn Together this_schema_version [] schema
