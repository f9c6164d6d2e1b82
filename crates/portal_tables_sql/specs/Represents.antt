-- When a connection represents a value of a model, now and after a crash.
use Rattle.std.specs.Prelude.{◌≡◌, false, IsTrue}
use Rattle.sqlite.specs.Tree.{Trees}
use Rattle.sqlite.specs.Schema.{Schema}
use Rattle.sqlite.specs.Effect.{Database, IsDatabase}
use Rattle.sqlite_catalog.specs.Listing.{IsSound}
use Rattle.sqlite.specs.State.{State}

module _ (Encodes : Database → Type 0) where
  -- the trees of a crash state hold the value under the one schema that they list
  abbrev pub CrashStateHolds : Trees → Type 0
  CrashStateHolds trees =
      (schema : Schema) × IsSound schema trees × Encodes (record { schema = schema; trees = trees })

  -- the connection is open and outside a transaction, and its database holds the value, now and in each crash
  -- state
  pub record Represents (s : State) : Type 0 where
    pub is_open : IsTrue s.is_open
    pub autocommit : s.in_transaction ≡ false
    pub settled : s.now ≡ s.committed
    pub sound : IsDatabase s.now
    pub shown : Encodes s.now
    pub left : (trees : Trees) → s.may_leave trees → CrashStateHolds trees
