-- Attaching a database to a desk. The layers above use these words and none of SQL.
use Rattle.std.specs.Prelude.{ℕ, IsTrue, MatchResult, Option, Result}
use Rattle.sqlite.specs.Held.{Held, state}
use Rattle.sqlite.specs.State.{Survives}
use Rattle.sqlite_trees.specs.declared.store.Store.{Ghosts}
use Rattle.portal_tables.specs.Attaching.{IsUnchangedConn, IsKnown, IsCauseIn, GivesOwnVersion}
use Rattle.portal_tables.specs.TablesRepresent.{ConnIsFaultFree, IsFaultFree, IsStopped}
use Rattle.portal_tables.specs.declared.attaching.Refused.{Refused}
use Rattle.portal_tables.specs.declared.errors.OpenFault.{OpenFault}
use Rattle.portal_desk_store.specs.declared.desks.StoreDesk.{StoreDesk}

module _ {S : Type 0} (g : Ghosts S) where
  -- the desk has stopped
  abbrev pub HasStopped : StoreDesk S → Type 0
  HasStopped desk = IsStopped g desk.tables

  -- no foreign key acts on a table of ours and no table of others refers to one, and the database has no
  -- table of ours, or the head row has a schema version that we read
  unfoldable pub MayBeAttached : Held S → Type 0
  MayBeAttached conn = IsKnown (state g conn).now

  -- the cause for which the database was not attached; out of memory and an error of the database have
  -- other causes
  unfoldable pub IsCause : Held S → OpenFault → Type 0
  IsCause conn fault = IsCauseIn fault (state g conn).now

  -- the database has tables of ours, and the head row has that schema version, or none
  unfoldable pub HeadGivesVersion : Held S → Option ℕ → Type 0
  HeadGivesVersion conn version = GivesOwnVersion (state g conn).now version

  -- the connection is open
  unfoldable pub IsConnOpen : Held S → Type 0
  IsConnOpen conn = IsTrue (state g conn).is_open

  -- nothing has changed, and every crash state is the present content
  unfoldable pub IsAsItWas : Held S → Held S → Type 0
  IsAsItWas old new = IsUnchangedConn (state g old) (state g new)

  -- no crash state is added
  unfoldable pub IsSpared : Held S → Held S → Type 0
  IsSpared old new = Survives (state g old) (state g new) (λ _. ⊥)

  -- if the disk was fault-free: `Made` holds of the desk, or `Kept` of the connection handed back with the
  -- error
  abbrev pub IfFaultFree : Result (StoreDesk S) (Refused S) → (StoreDesk S → Type 0)
      → (Refused S → Type 0) → Type 0
  IfFaultFree result Made Kept = MatchResult result
      (λ desk. IsFaultFree g desk.tables → Made desk)
      (λ refused. ConnIsFaultFree g refused.connection → Kept refused)
