-- The promise of a call on a transaction.
use Rattle.std.specs.Prelude.{◌≡◌, ℕ, List, IsTrue, Result, Ok, OnOk}
use Rattle.sqlite.specs.Order.{Row}
use Rattle.sqlite.specs.Store.{Ghosts}
use Rattle.sqlite.specs.Held.{state}
use Rattle.sqlite.specs.State.{State, HasCleanDisk, KeepsCommit, Survives, ExecutesInside}
use Rattle.sqlite.specs.declared.error.Error.{Error}
use Rattle.sqlite.specs.declared.transaction.Transaction.{Transaction}

-- A call on a transaction, which stays with its connection. If the disk is clean and the call succeeds, the
-- state changes as Does says. Whatever its result, it commits nothing and adds no crash state.
pub record Inside {S : Type 0} (g : Ghosts S) (Does : State → State → Type 0) (old new : Transaction S)
    (result : Result (Unit {0}) Error) : Type 0 where
  pub same_reference : new.conn.ghost_name ≡ old.conn.ghost_name
  pub steps : HasCleanDisk (state g new.conn.now) → IsTrue old.conn.now.in_transaction
      → OnOk result (Does (state g old.conn.now) (state g new.conn.now))
  pub kept : HasCleanDisk (state g new.conn.now) → KeepsCommit (state g old.conn.now) (state g new.conn.now)
  pub survives : Survives (state g old.conn.now) (state g new.conn.now) (λ _. ⊥)

-- the statement ran, and nothing is committed
pub record Runs (sql : List ℕ) (params : Row) (old new : State) : Type 0 where
  pub count : ℕ
  pub executes : ExecutesInside 0 sql params old new (Ok count)
