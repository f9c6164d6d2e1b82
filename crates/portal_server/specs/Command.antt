-- How the command `serve` ends.
use Rattle.std.specs.Prelude.{◌≡◌, ◌⊎◌, ℕ, ◌≤◌, List, [], ◌++◌, length, codes, decimal, Option, false, Result}
use Rattle.std.specs.Prelude.{Ok, Err}
use Rattle.std.specs.Io.KnownBytes.{Appends, Keeps}
use Rattle.portal_ledger.specs.States.{State}
use Rattle.portal_desk.specs.Calls.{is_stopped_state}
use Rattle.portal_server.specs.declared.error.ProgramError.{ProgramError}
use Rattle.portal_server.specs.declared.error.ProgramError.TheVariants.{Cut, NoMemory}
use Rattle.portal_server.specs.Errors.{line_of, exit_code_of}
use Rattle.portal_server.specs.Streams.{IsCutOff, Outlets, Prints}
use Rattle.portal_files.specs.SettingsFile.{SettingsValue}
use Rattle.portal_server.specs.Serving.{PrintsOfConnections}
use Rattle.portal_server.specs.Turns.{HostValue, TakesTurns}

-- the line that names the port on which the program listens
unfoldable pub listening_line : ℕ → List ℕ
listening_line port = codes "listening 127.0.0.1:" ++ (decimal port ++ codes "\n")

-- that line was not written whole: out of memory, or a write failed
abbrev pub IsLineLost : ProgramError → Option (List ℕ) → Option (List ℕ) → List ℕ → Type 0
IsLineLost error printed printed_after line =
    ((error ≡ NoMemory) × Keeps printed printed_after)
    ⊎ ((error ≡ Cut) × IsCutOff printed printed_after line)

-- What is printed before the end: the line, and then the output for each connection. With an error it may
-- be that the line was not written whole, and then there was no connection.
abbrev pub PrintsBefore : ℕ → ℕ → Outlets → Result (Unit {0}) ProgramError → Type 0
PrintsBefore port count o (Ok done) =
    (said : List (Option ProgramError)) × (length said ≡ count)
    × PrintsOfConnections said o.errors o.errors_after × Appends o.output o.output_after (listening_line port)
PrintsBefore port count o (Err error) =
    (said : List (Option ProgramError)) × (length said ≤ count)
    × PrintsOfConnections said o.errors o.errors_after
    × (Appends o.output o.output_after (listening_line port)
    ⊎ ((said ≡ []) × IsLineLost error o.output o.output_after (listening_line port)))

-- All that is printed: that, and the line of the error at the end.
abbrev pub PrintsAll : ℕ → ℕ → Outlets → Result (Unit {0}) ProgramError → Type 0
PrintsAll port count o (Ok done) = PrintsBefore port count o (Ok done)
PrintsAll port count o (Err error) =
    (between : Option (List ℕ)) × PrintsBefore port count (record o { errors_after = between }) (Err error)
    × Prints between o.errors_after (line_of error)

-- the exit code: 0, or that of the error
abbrev pub exit_code_at : Result (Unit {0}) ProgramError → ℕ
exit_code_at (Ok done) = 0
exit_code_at (Err error) = exit_code_of error

-- after the exit code 0 the desk works; else the exit code is 3
abbrev pub EndsAt : State → ℕ → Type 0
EndsAt new status = ((status ≡ 0) × (is_stopped_state new ≡ false)) ⊎ (status ≡ 3)

-- The line is written and turns are taken, and for each turn that is printed which belongs to it; or the line
-- was not written whole, and nothing more happens.
abbrev pub PrintsTurns : (host : HostValue) → SettingsValue → ℕ → ℕ → Outlets → host.Host → State
    → Result (Unit {0}) ProgramError → host.Host → State → Type 0
PrintsTurns host settings port count o before old ended after new =
    (Appends o.output o.output_after (listening_line port)
    × (said : List (Option ProgramError)) × PrintsOfConnections said o.errors o.errors_after
    × TakesTurns host settings count before old said ended after new)
    ⊎ ((error : ProgramError) × (ended ≡ Err error)
    × IsLineLost error o.output o.output_after (listening_line port) × Keeps o.errors o.errors_after
    × (after ≡ before) × (new ≡ old))

-- That, and the line of the error that ended it.
abbrev pub EndsTurns : (host : HostValue) → SettingsValue → ℕ → ℕ → Outlets → host.Host → State
    → Result (Unit {0}) ProgramError → host.Host → State → Type 0
EndsTurns host settings port count o before old (Ok done) after new =
    PrintsTurns host settings port count o before old (Ok done) after new
EndsTurns host settings port count o before old (Err error) after new =
    (between : Option (List ℕ)) × PrintsTurns host settings port count (record o { errors_after = between })
    before old (Err error) after new
    × Prints between o.errors_after (line_of error)
