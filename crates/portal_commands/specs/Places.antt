-- The errors of files, and what is assumed of the files of a place.
use Rattle.std.specs.Prelude.{◌≡◌, ◌⊎◌, ℕ, List, Bool, Option, None}
use Rattle.std.specs.Io.KnownBytes.{Keeps}
use Rattle.portal_files.specs.SettingsFile.{SettingsValue, IsSettingsFile}
use Rattle.portal_ledger.specs.Ledger.{Ledger, IsSound}
use Rattle.portal_ledger.specs.States.{State, MayBeFound, running}
use Rattle.portal_server.specs.declared.error.ProgramError.{ProgramError}
use Rattle.portal_server.specs.declared.error.ProgramError.TheVariants.{File, NoMemory, NotOurs, Newer}
use Rattle.portal_server.specs.declared.error.ProgramError.TheVariants.{Settings}
use Rattle.portal_commands.specs.declared.place.Files.{Files}
use Rattle.portal_commands.specs.declared.place.Purpose.{Purpose}
use Rattle.portal_commands.specs.declared.trouble.Trouble.{Trouble}
use Rattle.portal_commands.specs.Troubles.{NamesPath, Reports, TellsFault}

-- The file cannot be read, or out of memory.
abbrev pub IsFileError : ProgramError → Type 0
IsFileError error = (error ≡ File) ⊎ (error ≡ NoMemory)

-- The database cannot be opened or attached.
abbrev pub IsDatabaseError : ProgramError → Type 0
IsDatabaseError error = IsFileError error ⊎ ((error ≡ NotOurs) ⊎ (error ≡ Newer))

-- The settings file cannot be read, or is invalid.
abbrev pub IsSettingsError : ProgramError → Type 0
IsSettingsError error = IsFileError error ⊎ (error ≡ Settings)

-- ---- what the files hold

-- The settings of a file of which these bytes may be read.
abbrev pub AreReadSettings : (List ℕ → Type 0) → SettingsValue → Type 0
AreReadSettings reads settings = (bytes : List ℕ) × reads bytes × IsSettingsFile bytes settings

-- Bytes may be read that are no valid settings file.
abbrev pub AreNone : (List ℕ → Type 0) → Type 0
AreNone reads =
    (bytes : List ℕ) × reads bytes × ((settings : SettingsValue) → ¬ IsSettingsFile bytes settings)

-- The same of the file at a path, and the trouble tells a fault of these bytes.
abbrev pub AreRefused : List ℕ → (List ℕ → Type 0) → Trouble → Type 0
AreRefused path reads trouble =
    (trouble.error ≡ Settings)
    × (bytes : List ℕ) × reads bytes × ((settings : SettingsValue) → ¬ IsSettingsFile bytes settings)
    × TellsFault path bytes trouble

-- What is assumed of a place. Of its files: which bytes may be read at a path, which ledger the file at a
-- path holds, what is found there by an opening for a purpose, which desk was opened over it for that
-- purpose, and with which errors a read or an open fails; after a failed open, what is left of the file, and
-- which ledger that still holds, after a crash too. Of its desks: whether a desk has been fault-free, what it
-- represents, which answer of an audit is right, which tables are its crash states, which ledger those hold,
-- what is left after a close, and with which errors a close fails. And with which errors the making of a
-- database in memory fails.
pub record PlaceValue : Type 1 where
  pub Desk : Type 0
  pub Left : Type 0
  pub Tables : Type 0
  pub is_fault_free : Desk → Type 0
  pub represents : Desk → State → Type 0
  pub audits : Desk → Bool → Type 0
  pub is_crash_state : Desk → Tables → Type 0
  pub tables_hold_ledger : Tables → Ledger → Type 0
  pub reads : List ℕ → List ℕ → Type 0
  pub holds_ledger : List ℕ → Ledger → Type 0
  pub finds : List ℕ → Purpose → Type 0
  pub opens : List ℕ → Purpose → Desk → Type 0
  pub closes : Desk → Left → Type 0
  pub fails_to_read : List ℕ → Trouble → Type 0
  pub refuses : Left → List ℕ → Purpose → Trouble → Type 0
  pub still_holds : Left → List ℕ → Ledger → Type 0
  pub fails_to_close : Desk → Left → List ℕ → Trouble → Type 0
  pub fails_to_make : ProgramError → Type 0

-- A desk over the file at a path is closed; or the close fails, and its error is printed.
abbrev pub Closes : {Desk Left : Type 0} → (Desk → Left → Type 0) → (Desk → Left → List ℕ → Trouble → Type 0)
    → Desk → List ℕ → Option (List ℕ) → Option (List ℕ) → Type 0
Closes closes fails desk path printed printed_after =
    ((left : _) × closes desk left × Keeps printed printed_after)
    ⊎ ((trouble : Trouble) × (left : _) × (IsFileError trouble.error × NamesPath path trouble)
    × fails desk left path trouble × Reports trouble printed printed_after)

-- Each crash state of a desk holds a sound ledger that the desk's state allows.
abbrev pub CrashStatesAllowedBy : (place : PlaceValue) → place.Desk → State → Type 0
CrashStatesAllowedBy place desk new =
    (tables : place.Tables) → place.is_crash_state desk tables
    → (found : Ledger) × MayBeFound new found × place.tables_hold_ledger tables found × IsSound found

-- Done by the desk that was opened over the file at a path for a purpose, and that is closed then. It ends in
-- one of the ways that `Ends` allows. As long as it has been fault-free, the file was found as the purpose
-- requires, and `Does` leads from the ledger that the file holds to the state that the desk then represents,
-- which the crash states hold. Both speak of standard error before the close.
abbrev pub ByDesk : PlaceValue → List ℕ → Purpose → Option (List ℕ) → (Option (List ℕ) → Type 0)
    → (Option (List ℕ) → State → State → Type 0) → Type 0
ByDesk place path purpose printed_after Ends Does =
    (opened desk : place.Desk) × (printed : Option (List ℕ)) × place.opens path purpose opened
    × Closes place.closes place.fails_to_close desk path printed printed_after × Ends printed
    × (place.is_fault_free desk → place.is_fault_free opened × place.finds path purpose
    × ((L : Ledger) → place.holds_ledger path L → place.represents opened (running L)
    × ((new : State) × place.represents desk new × CrashStatesAllowedBy place desk new
    × Does printed (running L) new)))

-- Out of memory, and nothing more is known.
abbrev pub IsForMemory : Trouble → Type 0
IsForMemory trouble = (trouble.error ≡ NoMemory) × (trouble.line ≡ None)

-- There are no settings of the file at a path: the place does not read it; or bytes may be read there that
-- are no valid settings; or there is no memory to tell.
abbrev pub IsNotRead : List ℕ → (List ℕ → Type 0) → (Trouble → Type 0) → Trouble → Type 0
IsNotRead path reads fails trouble =
    (IsFileError trouble.error × NamesPath path trouble × fails trouble)
    ⊎ (AreRefused path reads trouble ⊎ (IsForMemory trouble × ((bytes : List ℕ) × reads bytes)))

-- The file at a path is not opened for a purpose; and what is left of it still holds, after a crash too, each
-- ledger that the file held.
abbrev pub FailsToOpen : {Left : Type 0} → (Left → List ℕ → Purpose → Trouble → Type 0)
    → (List ℕ → Ledger → Type 0) → (Left → List ℕ → Ledger → Type 0) → List ℕ → Purpose → Trouble → Type 0
FailsToOpen refuses holds_ledger still_holds path purpose trouble =
    (left : _) × refuses left path purpose trouble
    × ((L : Ledger) → holds_ledger path L → still_holds left path L)

-- The settings file or the database file cannot be used: there are no settings; or there are, and the place
-- does not open the database for this purpose.
abbrev pub FailsBeforeDesk : (List ℕ → List ℕ → Type 0) → (List ℕ → Trouble → Type 0)
    → (List ℕ → Purpose → Trouble → Type 0) → Files → Purpose → Trouble → Type 0
FailsBeforeDesk reads fails_to_read fails_to_open files purpose trouble =
    IsNotRead files.settings.now (reads files.settings.now) (fails_to_read files.settings.now) trouble
    ⊎ (NamesPath files.db.now trouble × IsDatabaseError trouble.error
    × fails_to_open files.db.now purpose trouble
    × ((settings : SettingsValue) × AreReadSettings (reads files.settings.now) settings))

-- The same at a place.
abbrev pub FailsAtPlace : PlaceValue → Files → Purpose → Trouble → Type 0
FailsAtPlace place = FailsBeforeDesk place.reads place.fails_to_read
    (FailsToOpen place.refuses place.holds_ledger place.still_holds)
