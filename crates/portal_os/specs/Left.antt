-- What is left of two files that were not opened, and which ledger it still holds, after a crash too.
use Rattle.std.specs.Prelude.{◌≡◌, ⊤}
use Rattle.sqlite_disk.specs.declared.Disk.{Ghosts}
use Rattle.sqlite_disk.specs.declared.Files.{Files as Pair}
use Rattle.sqlite_wal.specs.Reads.{AreClean}
use Rattle.sqlite_wal.specs.Recovery.{Image}
use Rattle.sqlite.specs.Closing.{files_left}
use Rattle.sqlite.specs.Files.{IsCleanLeft, image_of, over_files}
use Rattle.sqlite.specs.declared.file.Leftover.{Leftover}
use Rattle.sqlite.specs.declared.file.Leftover.TheVariants as left
use Rattle.portal_ledger.specs.Ledger.{Ledger}
use Rattle.portal_tables.specs.Images.{LeftoverHolds}
use Rattle.portal_tables.specs.TablesRepresent.{ConnIsFaultFree, CrashStatesOfConnHold}
use Rattle.portal_os.specs.Copying.{LeavesImage, LeavesNoMore}
use Rattle.portal_os.specs.declared.remains.Remains.{Remains}
use Rattle.portal_os.specs.declared.remains.Remains.TheVariants.{Nothing, Unopened, Refused, Closed, Unclosed}

-- A fact that holds if the disk returned what was written to it: now; and, if the fact rests on an earlier
-- moment, also by then, when the files were these. Each function that promises one is generic over the disk,
-- so these are files that it had in its hands.
pub data WhileClean {D : Type 0} (g : Ghosts D) (Fact : Type 0) : Type 0 where
  given : Fact → WhileClean g Fact
  since : (files : Pair D) → (AreClean g files.log files.db → WhileClean g Fact) → WhileClean g Fact

module _ {D : Type 0} {g : Ghosts D} where
  -- Each crash state of what is left of files that were not opened holds the ledger. `LeftoverHolds` does not
  -- promise this of a database whose pages end in checksums; this program makes none.
  abbrev pub StillHolds : Leftover D g → Ledger → Type 0
  StillHolds left L =
      WhileClean g ((before : Pair D) × (IsCleanLeft left → LeftoverHolds (image_of g before) left L))

  -- A crash leaves nothing of the files that it did not leave before: they were looked at, and no more.
  abbrev pub LeavesUntouched : Pair D → Leftover D g → Type 0
  LeavesUntouched files (left.Files now) = LeavesNoMore g files now
  LeavesUntouched files (left.Unopened now) = ⊥
  LeavesUntouched files (left.Store now) = ⊥

  -- A crash leaves this image and nothing else.
  abbrev pub LeavesOnly : Image → Leftover D g → Type 0
  LeavesOnly image (left.Files now) = LeavesImage g image now
  LeavesOnly image (left.Unopened now) = ⊥
  LeavesOnly image (left.Store now) = ⊥

  -- The files are those of what was left.
  abbrev pub IsOf : Leftover D g → Pair D → Type 0
  IsOf left files = ◌≡◌ {A = D × D} (files.log, files.db) (files_left left)

  -- Each crash state of what is left of a database file that was not opened, or not attached, holds the
  -- ledger. Of files that could not be opened or locked nothing is left to speak of.
  abbrev pub RemainsHold : Remains D g → Ledger → Type 0
  RemainsHold Nothing L = ⊤
  RemainsHold (Unopened files) L = (left : Leftover D g) × IsOf left files × StillHolds left L
  RemainsHold (Refused conn) L = ConnIsFaultFree over_files conn → CrashStatesOfConnHold over_files conn L
  RemainsHold (Closed files) L = ⊥
  RemainsHold (Unclosed store) L = ⊥
