-- The crash states of the files that a connection released.
use Rattle.std.proofs.Common.{◌≡◌, ◌∙◌, inl, subst, arith}
use Rattle.std.proofs.Math.Logic.{∥∥₁_map}
use Rattle.std.specs.Prelude.{IsTrue}
use Rattle.sqlite.specs.Files.{HoldsDatabase, file_state, over_files}
use Rattle.sqlite.specs.Held.{AreDatabases, Held}
use Rattle.sqlite.specs.State.{HasCleanDisk}
use Rattle.sqlite_disk.specs.declared.Disk.{Ghosts}
use Rattle.sqlite_store.specs.declared.store.FileStore.{FileStore}
use Rattle.sqlite_wal.specs.Recovery.{Image}
use Rattle.sqlite_disk.specs.declared.Files.{Files}
use Rattle.sqlite_wal.specs.Files.{outcomes}
use Rattle.sqlite_wal.specs.Reads.{AreClean}
use Rattle.sqlite_pool.proofs.StateLemmas.{clean_is, may_leave_is}
use Rattle.sqlite_trees.specs.Tree.{Trees}
use Rattle.sqlite_trees.specs.View.{IsClean, IsQuiet}
use Rattle.sqlite_trees.proofs.Doubt.{no_doubt}
use Rattle.sqlite_store.specs.FileStore.{view, faults, recovers, is_shielded, files as store_files}
use Rattle.sqlite.proofs.Theorems.{opens_again}
use Rattle.sqlite_trees.specs.declared.store.Store as stores
use Rattle.portal_ledger.specs.Ledger.{Ledger}
use Rattle.portal_ledger.specs.States.{State, MayBeFound}
use Rattle.portal_tables.specs.Images.{ImageHolds, ImageHoldsLedger}
use Rattle.portal_tables.specs.TablesRepresent.{ConnIsFaultFree, IsCrashStateOfConn, FilesHold}
use Rattle.portal_tables.specs.TablesRepresent.{Files as Tables}
use Rattle.portal_desk_store.specs.DeskRepresents.{DeskRepresents, IsCrashStateOfDesk}
use Rattle.portal_desk_store.specs.declared.desks.StoreDesk.{StoreDesk}
use Rattle.portal_desk_store.specs.Laws.{crash_state_is_allowed}

module _ {D : Type 0} {g : Ghosts D} (conn : Held (FileStore D g)) (last : FileStore D g) (files : Files D)
    (same : ◌≡◌ {A = D × D} (files.log, files.db) (store_files last))
    (quiet : IsQuiet view faults recovers is_shielded conn.store last) where
  clean_store : AreClean g files.log files.db → IsClean (view last)
  clean_store honest = no_doubt _ (clean_is last.pool ∙ subst (λ (p : D × D). AreClean g p.0 p.1) same honest)

  pub clean_disk : AreClean g files.log files.db → HasCleanDisk (file_state conn)
  clean_disk honest = let now = clean_store honest in omega (arith, now, quiet.clean)

  -- each image holds the tables of a crash state of the connection
  pub image_holds : (IsClean (view last) → IsTrue (view last).is_numbered)
      → (IsClean (view last) → AreDatabases (recovers last)) → AreClean g files.log files.db
      → (image : Image) → outcomes g files.log files.db image
      → ∥ ((db : Trees) × (file_state conn).may_leave db × HoldsDatabase image db) ∥₁
  image_holds numbered sound honest image may =
      let clean = clean_store honest in
      let on = subst (λ (p : D × D). AreClean g p.0 p.1) same honest in
      let left = may_leave_is last.pool image on (subst (λ (p : D × D). outcomes g p.0 p.1 image) same may) in
      ∥∥₁_map (opens_again last (numbered clean) (sound clean) image left)
      (λ it. let r : (db : Trees) × (file_state conn).may_leave db × HoldsDatabase image db =
      (it.0, quiet.outcomes it.0 it.1, it.2) in r)

-- in the words of the tables
module _ {D : Type 0} {g : Ghosts D} where
  pub honest_by : (conn : Held (FileStore D g)) → HasCleanDisk (file_state conn)
      → ConnIsFaultFree over_files conn
  unfolding ConnIsFaultFree
  honest_by conn clean = clean

  pub may_leave_by : (conn : Held (FileStore D g)) (image : Image)
      → ∥ ((trees : Trees) × (file_state conn).may_leave trees × HoldsDatabase image trees) ∥₁
      → ∥ ((tables : Tables) × IsCrashStateOfConn over_files conn tables × ImageHolds image tables) ∥₁
  unfolding Tables IsCrashStateOfConn ImageHolds
  may_leave_by conn image may = may

-- each crash state of a desk holds a ledger that its state allows
pub desk_leaves : {S : Type 0} (g : stores.Ghosts S) (desk : StoreDesk S) (s : State)
    → DeskRepresents g desk s → (tables : Tables) → IsCrashStateOfDesk g desk tables
    → (found : Ledger) × MayBeFound s found × FilesHold tables found
desk_leaves g desk s at tables may = crash_state_is_allowed g desk.tables s at.0 tables may

-- what a desk's state allows, by the tables that each image holds
pub state_left : (s : State) (image : Image) (MayLeave : Tables → Type 0)
    → ((tables : Tables) → MayLeave tables → (found : Ledger) × MayBeFound s found × FilesHold tables found)
    → ∥ ((tables : Tables) × MayLeave tables × ImageHolds image tables) ∥₁
    → ∥ ((found : Ledger) × MayBeFound s found × ImageHoldsLedger image found) ∥₁
state_left s image MayLeave leaves held =
    ∥∥₁_map held (λ it.
    let left = leaves it.0 it.1 in
    let r : (found : Ledger) × MayBeFound s found × ImageHoldsLedger image found = (
      left.0,
      left.1,
      inl (it.0, it.2, left.2),
    ) in r)
