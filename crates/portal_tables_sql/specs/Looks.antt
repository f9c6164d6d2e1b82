-- The promise of a call that only reads, on an open connection whose schema has what the call needs.
use Rattle.std.specs.Prelude.{◌≡◌, false, IsTrue, Result, MatchResult}
use Rattle.sqlite.specs.Schema.{Schema}
use Rattle.sqlite.specs.State.{State, HasCleanDisk, IsUnchanged, Survives}
use Rattle.portal_tables_sql.specs.States.{IsUndone}

module _ (Has : Schema → Type 0) where
  -- The call succeeded. Nothing changed, and no crash state was added.
  pub record ReadsOnly (old new : State) : Type 0 where
    pub same : HasCleanDisk new → IsTrue old.is_open → Has old.now.schema → IsUnchanged old new
    pub crash : Survives old new (λ _. IsTrue old.is_open → ¬ Has old.now.schema)

  -- The call failed. Nothing changed, if the connection is still open, and no crash state was added.
  pub record Fails (old new : State) : Type 0 where
    pub undone : HasCleanDisk new → IsTrue old.is_open → Has old.now.schema → old.in_transaction ≡ false
        → old.now ≡ old.committed → IsUndone old new
    pub crash : Survives old new (λ _. IsTrue old.is_open → ¬ Has old.now.schema)

  -- one of the two, by the result
  abbrev pub Looks : {X E : Type 0} → Result X E → State → State → Type 0
  Looks r old new = MatchResult r (λ _. ReadsOnly old new) (λ _. Fails old new)
