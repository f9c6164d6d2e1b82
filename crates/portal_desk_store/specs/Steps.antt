-- A call on the tables of a desk: what it leaves unchanged, and the states before and after it.
use Rattle.std.specs.Prelude.{Result}
use Rattle.sqlite_trees.specs.declared.store.Store.{Ghosts}
use Rattle.portal_model.specs.declared.refusal.Refusal.{Refusal}
use Rattle.portal_model.specs.History.{History}
use Rattle.portal_ledger.specs.Ledger.{Ledger}
use Rattle.portal_ledger.specs.States.{State, running}
use Rattle.portal_desk.specs.Calls.{KeepsStop, Returns}
use Rattle.portal_tables.specs.TablesRepresent.{IsFaultFree, TablesRepresent}
use Rattle.portal_desk_store.specs.declared.desks.StoreDesk.{StoreDesk}
use Rattle.portal_desk_store.specs.DeskRepresents.{stop_flag}
use Rattle.portal_desk_store.specs.Rest.{KeepsRest}

-- Whatever the disk did, all but the tables is unchanged, and the result tells whether they have stopped.
-- If the disk was fault-free, the call leads from each state of the tables before to a state after.
pub record MovesTables {S A : Type 0} (g : Ghosts S) (old new : StoreDesk S) (result : Result A Refusal)
    (Step : State → State → Type 0) : Type 0 where
  pub rest : KeepsRest old new
  pub fault_free : IsFaultFree g new.tables → IsFaultFree g old.tables
  pub stops : KeepsStop (stop_flag old) (stop_flag new) result
  pub step : IsFaultFree g new.tables → (before : State) → TablesRepresent g old.tables before
      → (after : State) × TablesRepresent g new.tables after × Step before after

-- the same for tables that run with a ledger
pub record MovesFromLedger {S A : Type 0} (g : Ghosts S) (old new : StoreDesk S) (result : Result A Refusal)
    (Step : Ledger → State → Type 0) : Type 0 where
  pub rest : KeepsRest old new
  pub fault_free : IsFaultFree g new.tables → IsFaultFree g old.tables
  pub stops : KeepsStop (stop_flag old) (stop_flag new) result
  pub step : IsFaultFree g new.tables → (L : Ledger) → TablesRepresent g old.tables (running L)
      → (after : State) × TablesRepresent g new.tables after × Step L after

-- the result holds of the history and the state is unchanged, or the call fails
abbrev pub Reads : {S A : Type 0} → Ghosts S → StoreDesk S → StoreDesk S → Result A Refusal
    → (A → History → Type 0) → Type 0
Reads g old new result Is = MovesTables g old new result (λ before after. Returns result Is before after)
