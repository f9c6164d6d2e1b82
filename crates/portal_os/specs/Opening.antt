-- What is inspected before a database file is opened, what opening it leads to, and what a close leaves.
use Rattle.std.specs.Prelude.{◌≡◌, ◌≢◌, ◌⊎◌, ◌↔◌, ℕ, ◌/◌, ◌<◌, max, min, List, [], length, slice_index}
use Rattle.std.specs.Prelude.{Bool, true, false, IsTrue, Result, IfOk, ⊤}
use Rattle.sqlite_disk.specs.declared.Disk.{Ghosts}
use Rattle.sqlite_disk.specs.declared.Files.{Files as Pair}
use Rattle.sqlite_disk.specs.Disk.{Only}
use Rattle.sqlite_wal.specs.Recovery.{Image, IsCommitted}
use Rattle.sqlite_wal.specs.PageSize.{IsPageSize, size_in_file}
use Rattle.sqlite_wal.specs.Files.{outcomes}
use Rattle.sqlite_wal.specs.Reads.{AreClean}
use Rattle.sqlite_store.specs.declared.store.FileStore.{FileStore}
use Rattle.sqlite_trees.specs.declared.store.Store as stores
use Rattle.sqlite.specs.Closing.{HoldsAlone}
use Rattle.sqlite.specs.Files.{file_state, image_of, over_files}
use Rattle.sqlite.specs.Held.{Held}
use Rattle.sqlite.specs.declared.file.Leftover.{Leftover}
use Rattle.sqlite.specs.Start.{FindsIn}
use Rattle.sqlite.specs.State.{HasCleanDisk}
use Rattle.portal_ledger.specs.Ledger.{Ledger}
use Rattle.portal_ledger.specs.States.{running}
use Rattle.portal_commands.specs.declared.place.Purpose.{Purpose}
use Rattle.portal_commands.specs.declared.place.Purpose.TheVariants.{Serve, Answer, Ask}
use Rattle.portal_server.specs.declared.error.ProgramError.{ProgramError}
use Rattle.portal_server.specs.declared.error.ProgramError.TheVariants.{File}
use Rattle.portal_tables.specs.Attaching.{AttachesOthers}
use Rattle.portal_tables.specs.Images.{ImageHoldsLedger, IsCrashStateOfStore, IsReopened}
use Rattle.portal_tables.specs.TablesRepresent.{ConnRepresents, ConnIsFaultFree, Files as Tables}
use Rattle.portal_tables.specs.declared.errors.OpenFault.{OpenFault}
use Rattle.portal_tables.specs.declared.errors.OpenFault.TheVariants.{Memory, Store}
use Rattle.portal_desk_store.specs.Attaching.{IsAsItWas, IsCause, IsSpared, MayBeAttached}
use Rattle.portal_desk_store.specs.declared.desks.StoreDesk.{StoreDesk}
use Rattle.portal_desk_store.specs.DeskRepresents.{DeskRepresents, DeskIsFaultFree, IsCrashStateOfDesk}
use Rattle.portal_os.specs.declared.remains.Remains.{Remains}
use Rattle.portal_os.specs.declared.remains.Remains.TheVariants.{Nothing, Unopened, Refused, Closed, Unclosed}
use Rattle.portal_os.specs.declared.opening_error.OpeningError.{OpeningError}
use Rattle.portal_os.specs.Errors.{error_of_open, program_error_of}
use Rattle.portal_os.specs.Left.{IsOf, LeavesOnly, WhileClean}

-- Frames of a log with pages of this size are committed: the first are valid, and the last of those commits.
abbrev pub AreCommitted : ℕ → List ℕ → Type 0
AreCommitted size log = (frames : ℕ) × (0 < frames) × IsCommitted size log frames

-- The log holds a commit.
abbrev pub HoldsCommits : List ℕ → Type 0
HoldsCommits log = (size : ℕ) × IsPageSize size × AreCommitted size log

-- The database file is empty, but its log holds commits.
abbrev pub IsLost : Image → Type 0
IsLost image = (length image.db ≡ 0) × HoldsCommits image.log

-- The database is new exactly if its file is empty, and it is not lost.
abbrev pub IsFoundNew : Image → Bool → Type 0
IsFoundNew image is_new = (IsTrue is_new ↔ (length image.db ≡ 0)) × ¬ IsLost image

-- A database may be opened for this purpose: it is not lost; and to ask, it was made, so its file is not
-- empty.
abbrev pub IsFoundFor : Image → Purpose → Type 0
IsFoundFor image purpose = (¬ IsLost image) × (purpose ≡ Ask → length image.db ≢ 0)

-- To serve, the log is copied into the database file first.
abbrev pub copies_for : Purpose → Bool
copies_for Serve = true
copies_for Answer = false
copies_for Ask = false

-- how many pages of a database file of this length are kept in memory: as many as it has, but at least 256
-- and at most 4,096
abbrev pub kept_pages : ℕ → ℕ
kept_pages len = min (max (len / 4096) 256) 4096

-- The database file holds all by itself: the log is too short for a frame, and the file begins as a database.
pub record IsAlone (image : Image) : Type 0 where
  pub bare : length image.log < 56
  pub sized : IsPageSize (size_in_file image.db)
  pub begins : slice_index image.db 0 ≡ 83

module _ {D : Type 0} (g : Ghosts D) where
  -- the same of two files, of which a crash leaves what is read
  abbrev pub IsSettledAlone : Pair D → Type 0
  IsSettledAlone files =
      IsAlone (image_of g files) × Only (g.seen files.log) (g.may_leave files.log)
      × Only (g.seen files.db) (g.may_leave files.db)

  -- In every crash state at this moment the two files hold the ledger, and so does the database file with an
  -- empty log.
  abbrev pub AreWhole : Pair D → Ledger → Type 0
  AreWhole files L =
      (image : Image) → outcomes g files.log files.db image
      → ∥ ImageHoldsLedger image L ∥₁ × ∥ ImageHoldsLedger (record image { log = [] }) L ∥₁

-- ---- what an open leads to

-- A database was not attached: the error has a cause in the database, or is out of memory or a fault of the
-- database. Only the last two are given for a database that holds a ledger. This holds as long as the
-- connection that is left has been fault-free.
abbrev pub RefusesStore : {S : Type 0} → (g : stores.Ghosts S) → Held S → Held S → ProgramError → Type 0
RefusesStore g conn left error =
    (cause : OpenFault) × (error ≡ error_of_open cause)
    × (ConnIsFaultFree g left → ConnIsFaultFree g conn × IsCause g conn cause
    × ((L : Ledger) → ConnRepresents g conn L → (cause ≡ Memory) ⊎ (cause ≡ Store)))

module _ {D : Type 0} {g : Ghosts D} where
  -- Two files that held this image were not opened or locked, and nothing is left; or they were not opened
  -- as a database. If that may not be opened for this purpose, a crash leaves the files as they were.
  abbrev pub RefusesToOpen : Image → Purpose → Remains D g → Type 0
  RefusesToOpen image purpose Nothing = ⊤
  RefusesToOpen image purpose (Unopened files) =
      (left : Leftover D g) × IsOf left files
      × (¬ IsFoundFor image purpose → WhileClean g (LeavesOnly image left))
  RefusesToOpen image purpose (Refused left) = ⊥
  RefusesToOpen image purpose (Closed files) = ⊥
  RefusesToOpen image purpose (Unclosed store) = ⊥

  -- Two files that held this image were not opened; or their database was not attached, which is tried only
  -- if it may be opened for this purpose, and the connection to it is left. The error is the one that belongs
  -- to that. A database that holds a ledger is never called foreign or newer. One that is not to be attached
  -- gets no crash state, and after all errors but `file` the database is as it was.
  abbrev pub RefusesFiles : Image → Purpose → Remains D g → ProgramError → Type 0
  RefusesFiles image purpose Nothing error = (cause : OpeningError) × (error ≡ program_error_of cause)
  RefusesFiles image purpose (Unopened files) error =
      (cause : OpeningError) × (error ≡ program_error_of cause) × RefusesToOpen image purpose (Unopened files)
  RefusesFiles image purpose (Refused left) error =
      (cause : OpenFault) × (error ≡ error_of_open cause) × (conn : Held (FileStore D g))
      × (ConnIsFaultFree over_files left
      → IsFoundFor image purpose × FindsIn image (file_state conn) × IsCause over_files conn cause
      × ((L : Ledger) → ImageHoldsLedger image L → (cause ≡ Memory) ⊎ (cause ≡ Store))
      × (error ≢ File → IsAsItWas over_files conn left))
      × (¬ MayBeAttached over_files conn → IsSpared over_files conn left)
  RefusesFiles image purpose (Closed files) error = ⊥
  RefusesFiles image purpose (Unclosed store) error = ⊥

module _ {D : Type 0} {g : Ghosts D} where
  -- A connection to two files that held this image: it finds all tables that they held, ours and those of
  -- others. If the log was to be copied, it was opened over files whose log was copied: they were opened,
  -- closed and opened again, or their log had nothing to copy. Then the two connections are the same, and the
  -- files, as they were opened, held its tables with their log and without it, now and after a crash.
  abbrev pub ComesFrom : Image → Bool → Held (FileStore D g) → Type 0
  ComesFrom image copies conn =
      FindsIn image (file_state conn)
      × (IsTrue copies → (first : Held (FileStore D g)) × FindsIn image (file_state first)
      × IsReopened first conn)

  -- Two files that held this image were opened for a purpose. As long as the disk of the connection is clean:
  -- it represents the ledger that they hold; the database may be opened for this purpose; and the connection
  -- finds all tables that they held, and is open.
  pub record OpensFiles {E : Type 0} (image : Image) (purpose : Purpose)
      (result : Result (Held (FileStore D g)) E) : Type 0 where
    pub opened : (L : Ledger) → ImageHoldsLedger image L
        → IfOk result (λ conn. HasCleanDisk (file_state conn) → ConnRepresents over_files conn L)
    pub found : IfOk result (λ conn. HasCleanDisk (file_state conn) → IsFoundFor image purpose)
    pub from : IfOk result
        (λ conn. HasCleanDisk (file_state conn) → ComesFrom image (copies_for purpose) conn)
    pub live : IfOk result (λ conn. HasCleanDisk (file_state conn) → IsTrue (file_state conn).is_open)

  -- The files of a connection were closed and opened again, if that was asked for. As long as the disk of the
  -- new connection is clean: so was that of the old one; it represents the same ledger, finds the same
  -- tables, and is open if the old one was.
  pub record OpensAgain {E : Type 0} (conn : Held (FileStore D g)) (copies : Bool)
      (result : Result (Held (FileStore D g)) E) : Type 0 where
    pub fault_free : IfOk result (λ again. HasCleanDisk (file_state again) → HasCleanDisk (file_state conn))
    pub represents : (L : Ledger) → ConnRepresents over_files conn L
        → IfOk result (λ again. HasCleanDisk (file_state again) → ConnRepresents over_files again L)
    pub same : IfOk result (λ again. HasCleanDisk (file_state again)
        → (file_state again).committed.trees ≡ (file_state conn).committed.trees)
    pub reopened : IfOk result
        (λ again. HasCleanDisk (file_state again) → IsTrue copies → IsReopened conn again)
    pub live : IsTrue (file_state conn).is_open
        → IfOk result (λ again. HasCleanDisk (file_state again) → IsTrue (file_state again).is_open)

  -- The desk attached the database of a connection to two files that hold a ledger: it represents that
  -- ledger, and keeps the tables of others.
  abbrev pub AttachesAll : Image → Held (FileStore D g) → StoreDesk (FileStore D g) → Type 0
  AttachesAll image conn desk =
      (L : Ledger) → ImageHoldsLedger image L → ConnRepresents over_files conn L
      × DeskRepresents over_files desk (running L) × AttachesOthers over_files conn desk.tables

  -- A desk over two files that held this image and were opened for a purpose, as long as it has been
  -- fault-free.
  abbrev pub OpensTo : Image → Purpose → StoreDesk (FileStore D g) → Type 0
  OpensTo image purpose desk =
      DeskIsFaultFree over_files desk → (conn : Held (FileStore D g))
      × ComesFrom image (copies_for purpose) conn × AttachesAll image conn desk

-- ---- what a close leaves

module _ {D : Type 0} {g : Ghosts D} where
  -- In every crash state at this moment two files hold all tables that the desk's database had committed,
  -- ours and those of others, and so does the database file with an empty log.
  abbrev pub AreCopied : StoreDesk (FileStore D g) → Pair D → Type 0
  AreCopied desk files = (image : Image) → outcomes g files.log files.db image
      → HoldsAlone image (file_state desk.tables.conn).committed.trees

  -- The desk was closed: the two files that are left hold what it represented, as long as the disk has been
  -- fault-free.
  abbrev pub IsClosed : StoreDesk (FileStore D g) → Remains D g → Type 0
  IsClosed desk (Closed files) =
      AreClean g files.log files.db → AreCopied desk files
      × ((L : Ledger) → DeskRepresents over_files desk (running L) → AreWhole g files L)
  IsClosed desk Nothing = ⊥
  IsClosed desk (Unopened files) = ⊥
  IsClosed desk (Refused conn) = ⊥
  IsClosed desk (Unclosed store) = ⊥

  -- The desk was not closed: the crash states of the store that is left are crash states of the desk.
  abbrev pub IsUnclosed : StoreDesk (FileStore D g) → Remains D g → Type 0
  IsUnclosed desk (Unclosed store) =
      (tables : Tables) → IsCrashStateOfStore store tables → IsCrashStateOfDesk over_files desk tables
  IsUnclosed desk Nothing = ⊥
  IsUnclosed desk (Unopened files) = ⊥
  IsUnclosed desk (Refused conn) = ⊥
  IsUnclosed desk (Closed files) = ⊥
