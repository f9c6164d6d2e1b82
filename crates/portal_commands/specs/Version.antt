-- What the program prints as its version.
use Rattle.std.specs.Prelude.{ℕ, List, codes}

-- The release, and the version of the database schema that the program writes.
abbrev pub version_line : List ℕ
version_line = codes "portal 1.0.0 (database schema version 6)\n"
