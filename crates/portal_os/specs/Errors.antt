-- The program's error for each error of a file or of a database.
use Rattle.std.specs.declared.io.ErrorKind.{ErrorKind}
use Rattle.std.specs.declared.io.ErrorKind.TheVariants as kind
use Rattle.sqlite.specs.declared.error.Error.{Error}
use Rattle.sqlite.specs.declared.error.Error.TheVariants.{SqliteFailure}
use Rattle.sqlite.specs.declared.error.ErrorCode.TheVariants as code
use Rattle.std.specs.IoError.{error_kind}
use Rattle.sqlite_std_file.specs.declared.pair.OpenError.{OpenError}
use Rattle.sqlite_std_file.specs.declared.pair.OpenError.TheVariants as path
use Rattle.portal_os.specs.declared.opening_error.OpeningError.{OpeningError}
use Rattle.portal_os.specs.declared.opening_error.OpeningError.TheVariants as opening
use Rattle.portal_server.specs.declared.error.ProgramError.{ProgramError}
use Rattle.portal_server.specs.declared.error.ProgramError.TheVariants as said
use Rattle.portal_tables.specs.declared.errors.OpenFault.{OpenFault}
use Rattle.portal_tables.specs.declared.errors.OpenFault.TheVariants.{NotOurs, Newer, Memory, Store}

-- Out of memory, or the file.
abbrev pub error_of_file : ErrorKind → ProgramError
error_of_file kind.OutOfMemory = said.NoMemory
error_of_file _ = said.File

-- The same for a database file.
abbrev pub error_of_store : Error → ProgramError
error_of_store (SqliteFailure code.OutOfMemory) = said.NoMemory
error_of_store _ = said.File

-- The same for a file and its log that could not be opened or locked.
abbrev pub error_of_path : OpenError → ProgramError
error_of_path path.OutOfMemory = said.NoMemory
error_of_path (path.Io error) = error_of_file (error_kind error)
error_of_path _ = said.File

-- The same for a database file that was not opened.
abbrev pub program_error_of : OpeningError → ProgramError
program_error_of (opening.Path error) = error_of_path error
program_error_of (opening.Store error) = error_of_store error
program_error_of opening.Lost = said.File
program_error_of opening.NoDatabase = said.File

-- A database that could not be attached.
abbrev pub error_of_open : OpenFault → ProgramError
error_of_open NotOurs = said.NotOurs
error_of_open Newer = said.Newer
error_of_open Memory = said.NoMemory
error_of_open Store = said.File
