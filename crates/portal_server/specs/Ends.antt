-- How a subcommand ends.
use Rattle.std.specs.Prelude.{◌≡◌, ℕ, ◌<◌, ◌⊎◌, List, length, take, codes, Result, Ok, Err}
use Rattle.std.specs.Io.KnownBytes.{Appends, Keeps}
use Rattle.portal_server.specs.declared.ending.Output.{Output}
use Rattle.portal_server.specs.declared.ending.Output.TheVariants.{Text, Agrees, Differs}
use Rattle.portal_server.specs.declared.error.ProgramError.{ProgramError}
use Rattle.portal_server.specs.declared.error.ProgramError.TheVariants.{Cut}
use Rattle.portal_server.specs.Streams.{Outlets, Prints}
use Rattle.portal_server.specs.Errors.{line_of, exit_code_of}

-- All of the text is written, and the exit code is the given one; or a part of it, with the line of `cut` and
-- exit code 3.
abbrev pub EndsPrinting : List ℕ → ℕ → Outlets → ℕ → Type 0
EndsPrinting text good o status =
    ((status ≡ good) × Appends o.output o.output_after text × Keeps o.errors o.errors_after)
    ⊎ ((written : ℕ) × (status ≡ 3) × (written < length text)
    × Appends o.output o.output_after (take written text)
    × Prints o.errors o.errors_after (line_of Cut))

-- An output goes to standard output, and the line of an error to standard error.
abbrev pub EndsWith : Result Output ProgramError → Outlets → ℕ → Type 0
EndsWith (Ok (Text text)) o status = EndsPrinting text.items 0 o status
EndsWith (Ok Agrees) o status = EndsPrinting (codes "ok\n") 0 o status
EndsWith (Ok Differs) o status = EndsPrinting (codes "differs\n") 1 o status
EndsWith (Err error) o status = (status ≡ exit_code_of error) × Keeps o.output o.output_after
    × Prints o.errors o.errors_after (line_of error)
