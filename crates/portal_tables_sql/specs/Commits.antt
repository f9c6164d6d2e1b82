-- The promise of a call that is one transaction.
use Rattle.std.specs.Prelude.{Result, OnOk, OnErr}
use Rattle.sqlite.specs.Store.{Ghosts}
use Rattle.sqlite.specs.Tree.{Trees}
use Rattle.sqlite.specs.Held.{Held, state}
use Rattle.sqlite.specs.State.{State, HasCleanDisk, Survives}

-- If the disk is clean: after a success Done holds and the transaction is committed; after an error Undone
-- holds. The crash states are those of before and those that May allows.
pub record Commits {S E : Type 0} (g : Ghosts S) (Done Undone : State → State → Type 0)
    (May : State → Trees → Type 0) (old new : Held S) (result : Result (Unit {0}) E) : Type 0 where
  pub done : HasCleanDisk (state g new) → OnOk result (Done (state g old) (state g new))
  pub undone : HasCleanDisk (state g new) → OnErr result (Undone (state g old) (state g new))
  pub crash : Survives (state g old) (state g new) (May (state g old))
