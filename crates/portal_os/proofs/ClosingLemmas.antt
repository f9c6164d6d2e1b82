-- Files that were closed hold what the connection had committed, with their log and without it.
use Rattle.portal_os.proofs.Common.{[], inl, subst, Result, Ok, Err, IfOk, IfErr, Ghosts, Files, Image, Held}
use Rattle.portal_os.proofs.Common.{IsCopied, HoldsDatabase, file_state, over_files, Ledger, view, faults}
use Rattle.portal_os.proofs.Common.{recovers, is_shielded, ImageHoldsLedger, AreWhole}
use Rattle.std.proofs.Math.Logic.{∥∥₁_map}
use Rattle.sqlite.specs.declared.FileStore.{FileStore}
use Rattle.sqlite.specs.Effect.{Database}
use Rattle.portal_tables_sql.specs.Represents.{CrashStateHolds}
use Rattle.portal_tables.specs.StoreHolds.{StoreHolds}
use Rattle.sqlite_trees.specs.View.{IsQuiet}
use Rattle.portal_tables.specs.Images.{ImageHolds, IsCrashStateOfStore}
use Rattle.portal_tables.specs.TablesRepresent.{ConnRepresents, IsCrashStateOfConn, Files as Tables}
use Rattle.portal_tables.specs.TablesRepresent.{FilesHold}

module _ {D : Type 0} {g : Ghosts D} (L : Ledger) (old : Held (FileStore D g))
    (at : ConnRepresents over_files old L) where
  unfoldable committed : Tables
  unfolding Tables
  committed = (file_state old).committed.trees

  committed_shows : FilesHold committed L
  unfolding Tables committed ConnRepresents FilesHold
  committed_shows = subst (λ (db : Database). CrashStateHolds (StoreHolds L) db.trees) at.settled (
    (file_state old).now.schema,
    at.sound,
    at.shown,
  )

  held_shows : (image : Image) → ∥ HoldsDatabase image (file_state old).committed.trees ∥₁
      → ∥ ImageHoldsLedger image L ∥₁
  unfolding Tables committed ImageHolds
  held_shows image held =
      ∥∥₁_map held (λ holds. let r : ImageHoldsLedger image L = inl (committed, holds, committed_shows) in r)

  pub closed_whole : (files : Files D) → IsCopied old files → AreWhole g files L
  closed_whole files copied image may =
      let held = copied.left image may in
      (held_shows image held.both, held_shows (record image { log = [] }) held.alone)

-- the crash states of a database that was not closed are crash states of its connection
pub unclosed_leaves : {D : Type 0} {g : Ghosts D} (old : Held (FileStore D g)) (last : FileStore D g)
    → IsQuiet view faults recovers is_shielded old.store last
    → (tables : Tables) → IsCrashStateOfStore last tables → IsCrashStateOfConn over_files old tables
unfolding Tables IsCrashStateOfStore IsCrashStateOfConn
unclosed_leaves old last quiet tables may = quiet.outcomes tables may

-- what closing the files of a connection leads to, from what is known of either result
module _ {T E : Type 0} where
  pub if_ok : (result : Result T E) (P Q : T → Type 0) → ((x : T) → P x → Q x) → IfOk result P → IfOk result Q
  if_ok (Ok x) P Q leads is = leads x is
  if_ok (Err e) P Q leads is = tt

  pub if_err : (result : Result T E) (P Q : E → Type 0) → ((e : E) → P e → Q e)
      → IfErr result P → IfErr result Q
  if_err (Ok x) P Q leads is = tt
  if_err (Err e) P Q leads is = leads e is
