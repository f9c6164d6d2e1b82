-- When two files hold a ledger, by their contents, and when the leftover of files that were not opened does.
--
-- ∥ A ∥₁ reads: there is one.
use Rattle.std.specs.Prelude.{◌≡◌, ◌⊎◌, [], IsTrue}
use Rattle.sqlite_disk.specs.declared.Disk.{Ghosts}
use Rattle.sqlite_disk.specs.declared.Files.{Files as Pair}
use Rattle.sqlite_wal.specs.Recovery.{Image}
use Rattle.sqlite_wal.specs.Files.{outcomes}
use Rattle.sqlite_wal.specs.Reads.{AreClean}
use Rattle.sqlite_pool.specs.Stored.{is_summed}
use Rattle.sqlite_store.specs.FileStore.{recovers}
use Rattle.sqlite_store.specs.declared.store.FileStore.{FileStore}
use Rattle.sqlite_store.specs.Unopened.{state_of}
use Rattle.sqlite.specs.Tree.{Trees}
use Rattle.sqlite.specs.declared.file.Leftover.{Leftover}
use Rattle.sqlite.specs.declared.file.Leftover.TheVariants as left
use Rattle.sqlite.specs.Closing.{IsCopied}
use Rattle.sqlite.specs.Files.{Finds, HoldsDatabase, IsCleanLeft, IsNothing, image_of}
use Rattle.sqlite.specs.Held.{Held}
use Rattle.portal_ledger.specs.Ledger.{Ledger}
use Rattle.portal_tables.specs.declared.opening.Unopened.{Unopened}
use Rattle.portal_tables.specs.declared.opening.Unopened.TheVariants.{Unclosed, Refused}
use Rattle.portal_tables.specs.TablesRepresent.{Files, FilesHold}

-- An image is the contents of two files, which may be a database: a set of tables.
unfoldable pub ImageHolds : Image → Files → Type 0
unfolding Files
ImageHolds image files = HoldsDatabase image files

-- The image holds the ledger if its tables do. An image with no database yet holds the empty ledger.
abbrev pub ImageHoldsLedger : Image → Ledger → Type 0
ImageHoldsLedger image L =
    ((files : Files) × ImageHolds image files × FilesHold files L) ⊎ (IsNothing image × (L ≡ []))

-- the image holds a database whose pages end in checksums; this product makes none
abbrev pub HasSums : Image → Type 0
HasSums image = (trees : Trees) × (held : HoldsDatabase image trees) × IsTrue (is_summed held.0)

-- two files hold the ledger, as they are and in each crash state
pub record FilesRepresent {D : Type 0} (g : Ghosts D) (files : Pair D) (L : Ledger) : Type 0 where
  pub seen : ImageHoldsLedger (image_of g files) L
  pub left : (image : Image) → outcomes g files.log files.db image → ∥ ImageHoldsLedger image L ∥₁

module _ {D : Type 0} {g : Ghosts D} where
  -- the tables are a crash state of a store whose connection was closed
  unfoldable pub IsCrashStateOfStore : FileStore D g → Files → Type 0
  unfolding Files
  IsCrashStateOfStore store files = recovers store files

  -- The leftover of files that were not opened still holds the ledger after a crash. This is not promised of
  -- a database whose pages end in checksums.
  abbrev pub LeftoverHolds : Image → Leftover D g → Ledger → Type 0
  LeftoverHolds before (left.Files now) L =
      (image : Image) → outcomes g now.log now.db image → ∥ ImageHoldsLedger image L ∥₁
  LeftoverHolds before (left.Unopened now) L =
      (image : Image) → (state_of now).may_leave image → ∥ ImageHoldsLedger image L ⊎ HasSums before ∥₁
  LeftoverHolds before (left.Store now) L =
      (files : Files) → IsCrashStateOfStore now files → FilesHold files L

  -- The files of a connection were closed, so that its log was copied into the database file, and opened
  -- again.
  abbrev pub IsReopened : Held (FileStore D g) → Held (FileStore D g) → Type 0
  IsReopened first again = (closed : Pair D) × IsCopied first closed × Finds closed again

  -- The files were closed, and the second opening failed. The crash states between the two hold the ledger,
  -- and so do those after them if the disk has returned what was written to it.
  abbrev pub ClosedHold : Pair D → Leftover D g → Ledger → Type 0
  ClosedHold closed left L =
      ((image : Image) → outcomes g closed.log closed.db image → ∥ ImageHoldsLedger image L ∥₁)
      × (IsCleanLeft left → LeftoverHolds (image_of g closed) left L)

  -- The leftover of files that were not closed, or not opened again, still holds the ledger after a crash. Of
  -- files that were closed this is promised if the disk had returned what was written to it by then.
  abbrev pub UnopenedHolds : Unopened D g → Ledger → Type 0
  UnopenedHolds (Unclosed error store) L =
      (files : Files) → IsCrashStateOfStore store files → FilesHold files L
  UnopenedHolds (Refused error left) L =
      (closed : Pair D) × (AreClean g closed.log closed.db → ClosedHold closed left L)
