-- The state that a desk over a database represents, and its crash states. The layers above use these words
-- and none of SQL.
use Rattle.std.specs.Prelude.{Bool, Result}
use Rattle.sqlite_trees.specs.declared.store.Store.{Ghosts}
use Rattle.portal_files.specs.SettingsFile.{SettingsValue}
use Rattle.portal_model.specs.declared.refusal.Refusal.{Refusal}
use Rattle.portal_ledger.specs.States.{State}
use Rattle.portal_desk.specs.Calls.{Moves}
use Rattle.portal_tables.specs.TablesRepresent.{Files, IsFaultFree, IsCrashState, TablesRepresent}
use Rattle.portal_desk_store.specs.declared.desks.StoreDesk.{StoreDesk}
use Rattle.portal_desk_store.specs.KeepsHead.{KeepsHead}
use Rattle.portal_desk_store.specs.KeepsOpenSessions.{KeepsOpenSessions}

module _ {S : Type 0} (g : Ghosts S) where
  -- the desk represents the state: its tables do, and the kept open sessions and head row are those of the
  -- ledger
  abbrev pub DeskRepresents : StoreDesk S → State → Type 0
  DeskRepresents desk s =
      TablesRepresent g desk.tables s × KeepsOpenSessions desk.open s × KeepsHead desk.head s

  -- the disk has returned what was written to it
  abbrev pub DeskIsFaultFree : StoreDesk S → Type 0
  DeskIsFaultFree desk = IsFaultFree g desk.tables

  -- the files are a crash state of the desk
  abbrev pub IsCrashStateOfDesk : StoreDesk S → Files → Type 0
  IsCrashStateOfDesk desk files = IsCrashState g desk.tables files

-- the settings of the desk
abbrev pub settings_of : {S : Type 0} → StoreDesk S → SettingsValue
settings_of desk = desk.settings

-- whether its tables have stopped
abbrev pub stop_flag : {S : Type 0} → StoreDesk S → Bool
stop_flag desk = desk.tables.is_stopped

-- a call of the desk
abbrev pub MovesDesk : {S A : Type 0} → Ghosts S → StoreDesk S → StoreDesk S → Result A Refusal
    → (State → State → Type 0) → Type 0
MovesDesk g old new result Step =
    Moves settings_of (DeskIsFaultFree g) stop_flag (DeskRepresents g) old new result Step
