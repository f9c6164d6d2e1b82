-- When tables represent a state of the desk, and their crash states. The layers above cite these words and
-- none of SQL.
use Rattle.std.specs.Prelude.{◌≡◌, ◌⊎◌, ◌∷◌, Some, None, Result, MatchResult, IsErrOf, true, false}
use Rattle.sqlite.specs.Tree.{Trees}
use Rattle.sqlite.specs.State.{HasCleanDisk, IsUnchanged, Survives}
use Rattle.sqlite.specs.Held.{Held, state}
use Rattle.sqlite_trees.specs.declared.store.Store.{Ghosts}
use Rattle.portal_tables_sql.specs.Represents.{CrashStateHolds, Represents}
use Rattle.portal_ledger.specs.Ledger.{Ledger}
use Rattle.portal_ledger.specs.States.{State as DeskState, running, stopped}
use Rattle.portal_ledger.specs.Calls.{ReadsOf, FailsToRead}
use Rattle.portal_tables_rows.specs.Others.{KeepsOthers, CrashStateHasOthers}
use Rattle.portal_tables.specs.declared.errors.StoreFault.{StoreFault}
use Rattle.portal_tables.specs.declared.errors.StoreFault.TheVariants.{Memory, Stopped}
use Rattle.portal_tables.specs.declared.tables.Tables.{Tables}
use Rattle.portal_tables.specs.HoldsLedger.{HoldsLedger}
use Rattle.portal_tables.specs.StoreHolds.{StoreHolds}

-- a crash state: a set of tables, the product's and others; no layer above looks into it
unfoldable pub Files : Type 0
Files = Trees

-- the files hold the ledger
unfoldable pub FilesHold : Files → Ledger → Type 0
unfolding Files
FilesHold files L = CrashStateHolds (StoreHolds L) files

-- the files hold a ledger that the state allows
abbrev pub AllowedByState : DeskState → Trees → Type 0
AllowedByState (running L) trees = CrashStateHolds (HoldsLedger L) trees
AllowedByState (stopped L None) trees = CrashStateHolds (HoldsLedger L) trees
AllowedByState (stopped L (Some a)) trees =
    CrashStateHolds (HoldsLedger L) trees ⊎ CrashStateHolds (HoldsLedger (a ∷ L)) trees

module _ {S : Type 0} (g : Ghosts S) where
  -- a connection that represents a ledger: it is open and outside a transaction, and its database holds the
  -- ledger, now and in each crash state
  unfoldable pub ConnRepresents : Held S → Ledger → Type 0
  ConnRepresents conn L = Represents (StoreHolds L) (state g conn)

  -- each crash state of the connection holds the ledger
  unfoldable pub CrashStatesOfConnHold : Held S → Ledger → Type 0
  unfolding Files
  CrashStatesOfConnHold conn L = (files : Files) → (state g conn).may_leave files → FilesHold files L

  -- the files are a crash state of the connection
  unfoldable pub IsCrashStateOfConn : Held S → Files → Type 0
  unfolding Files
  IsCrashStateOfConn conn files = (state g conn).may_leave files

  -- the disk has returned what was written
  unfoldable pub ConnIsFaultFree : Held S → Type 0
  ConnIsFaultFree conn = HasCleanDisk (state g conn)

  -- the disk has returned what was written
  unfoldable pub IsFaultFree : Tables S → Type 0
  IsFaultFree tables = HasCleanDisk (state g tables.conn)

  -- the tables represent the state: running with a ledger, or stopped
  unfoldable pub TablesRepresent : Tables S → DeskState → Type 0
  TablesRepresent tables (running L) =
      (tables.is_stopped ≡ false) × Represents (HoldsLedger L) (state g tables.conn)
  TablesRepresent tables (stopped L doubt) = (tables.is_stopped ≡ true)
      × ((trees : Trees) → (state g tables.conn).may_leave trees → AllowedByState (stopped L doubt) trees)

  -- the files are a crash state of the tables
  unfoldable pub IsCrashState : Tables S → Files → Type 0
  unfolding Files
  IsCrashState tables files = (state g tables.conn).may_leave files

  -- each crash state of the tables holds a ledger of this kind
  abbrev pub CrashStatesHold : Tables S → (Ledger → Type 0) → Type 0
  CrashStatesHold tables Is =
      (files : Files) → IsCrashState tables files → (L : Ledger) × Is L × FilesHold files L

  -- Each crash state has the other tables: each table whose name is not one of the product's is still there,
  -- with the rows that it had before.
  unfoldable pub CrashStatesHaveOthers : Held S → Held S → Type 0
  unfolding Files
  CrashStatesHaveOthers old new =
      (files : Files) → (state g new).may_leave files → CrashStateHasOthers (state g old).now files

  -- the database has the other tables, with the rows that they had before
  unfoldable pub OthersStay : Held S → Held S → Type 0
  OthersStay old new = KeepsOthers (state g old).now (state g new).now

  -- the other tables were kept: in the database, if the tables work, and in each crash state
  abbrev pub OthersKept : Tables S → Tables S → Type 0
  OthersKept old new =
      (new.is_stopped ≡ false → OthersStay old.conn new.conn) × CrashStatesHaveOthers old.conn new.conn

  -- the tables have stopped
  abbrev pub IsStopped : Tables S → Type 0
  IsStopped tables = tables.is_stopped ≡ true

  -- after `Memory` the tables are stopped or working as they were; after `Stopped` they have stopped
  abbrev pub FaultGivesStop : Tables S → Tables S → StoreFault → Type 0
  FaultGivesStop old new fault =
      ((fault ≡ Memory) × (new.is_stopped ≡ old.is_stopped)) ⊎ ((fault ≡ Stopped) × IsStopped new)

  -- after `Stopped` the tables have stopped; after any other result they are stopped or working as they were,
  -- whatever the disk did
  abbrev pub TablesKeepStop : {T : Type 0} → Tables S → Tables S → Result T StoreFault → Type 0
  TablesKeepStop old new result =
      MatchResult result (λ _. new.is_stopped ≡ old.is_stopped) (FaultGivesStop old new)

  -- The error of a call on the tables: it is `Memory` only if nothing has changed since, and no crash state
  -- was added.
  pub record GivesFault (old new : Tables S) (fault : StoreFault) : Type 0 where
    pub gives_fault : FaultGivesStop old new fault
    pub same : HasCleanDisk (state g new.conn) → fault ≡ Memory
        → IsUnchanged (state g old.conn) (state g new.conn)
    pub survives : Survives (state g old.conn) (state g new.conn) (λ _. ⊥)

  -- each crash state is one of those before
  abbrev pub AddsNoCrashState : Tables S → Tables S → Type 0
  AddsNoCrashState old new = (files : Files) → IsCrashState new files → IsCrashState old files

  -- A call that reads the tables: it gives what holds of the ledger that they represent and changes nothing,
  -- or it fails. Tables that have stopped give `Stopped` and stay as they are.
  pub record ReadsTables {A : Type 0} (old new : Tables S) (result : Result A StoreFault)
      (Is : Ledger → A → Type 0) : Type 0 where
    pub fault_free : IsFaultFree new → IsFaultFree old
    pub stopped : IsStopped old → IsErrOf result Stopped × (new ≡ old)
    pub stops : TablesKeepStop old new result
    pub found : IsFaultFree new → (before : DeskState) → TablesRepresent old before
        → (after : DeskState) × TablesRepresent new after × AddsNoCrashState old new
        × MatchResult result (λ found. ReadsOf before (λ L. Is L found) after)
        (λ fault. FailsToRead Memory Stopped before fault after)
