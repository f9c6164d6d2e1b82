-- What two files may hold after a crash.
use Rattle.sqlite_disk.specs.declared.Disk.{Ghosts}
use Rattle.sqlite_disk.specs.declared.Files.{Files}
use Rattle.sqlite_wal.specs.Recovery.{Image}
use Rattle.sqlite_wal.specs.Files.{outcomes}
use Rattle.portal_ledger.specs.Ledger.{Ledger}
use Rattle.portal_ledger.specs.States.{State, MayBeFound}
use Rattle.portal_tables.specs.Images.{ImageHolds, ImageHoldsLedger}
use Rattle.portal_tables.specs.TablesRepresent.{Files as Tables}

-- The image holds tables for which this is true. ∥ A ∥₁ reads: there is one.
abbrev pub HoldsOneOf : (Tables → Type 0) → Image → Type 0
HoldsOneOf Are image = ∥ ((tables : Tables) × Are tables × ImageHolds image tables) ∥₁

-- The image holds a ledger that a desk in this state allows.
abbrev pub HoldsAllowedLedger : State → Image → Type 0
HoldsAllowedLedger s image = ∥ ((found : Ledger) × MayBeFound s found × ImageHoldsLedger image found) ∥₁

module _ {D : Type 0} (g : Ghosts D) where
  -- Each crash state of two files at this moment is such an image.
  abbrev pub EachImage : Files D → (Image → Type 0) → Type 0
  EachImage files Is = (image : Image) → outcomes g files.log files.db image → Is image
