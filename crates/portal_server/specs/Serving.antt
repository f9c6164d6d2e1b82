-- What serving leaves of a desk, and what is printed meanwhile.
use Rattle.std.specs.Prelude.{◌≡◌, ◌⊎◌, ℕ, ◌≤◌, List, [], ◌∷◌, length, ⊤, Option, Some, None, true, false}
use Rattle.std.specs.Prelude.{Result, Ok, Err}
use Rattle.std.specs.Io.KnownBytes.{Keeps}
use Rattle.std.specs.declared.io.ErrorKind.{ErrorKind}
use Rattle.std.specs.declared.io.ErrorKind.TheVariants as kind
use Rattle.portal_model.specs.declared.refusal.Refusal.TheVariants.{Stopped}
use Rattle.portal_ledger.specs.States.{State}
use Rattle.portal_desk.specs.Calls.{is_stopped_state}
use Rattle.portal_server.specs.declared.error.ProgramError.{ProgramError}
use Rattle.portal_server.specs.declared.error.ProgramError.TheVariants.{File, Network, Cut, NoMemory, Refused}
use Rattle.portal_server.specs.Errors.{line_of}
use Rattle.portal_server.specs.Streams.{Prints}
use Rattle.portal_http.specs.Arrived.{Arrived}
use Rattle.portal_http.specs.declared.exchanges.Done.{Done}
use Rattle.portal_http.specs.declared.exchanges.Cut.{Cut as Broken}

-- For so many connections: at most so many requests were served. `IsRun` says which requests with which
-- responses are a run.
abbrev pub ServesAtMost : ℕ → (List Arrived → List (List ℕ) → Type 0) → Type 0
ServesAtMost count IsRun = (arrivals : List Arrived) × (responses : List (List ℕ)) × (length arrivals ≤ count)
    × IsRun arrivals responses

-- each of these requests arrived at that time and with that seed
abbrev pub ComeWith : ℕ → List ℕ → List Arrived → Type 0
ComeWith moment seed [] = ⊤
ComeWith moment seed (one ∷ more) = (one.moment ≡ moment) × (one.seed ≡ seed) × ComeWith moment seed more

-- what is printed for a connection: nothing, or the line of `cut` or of `network`, as far as it can be
-- written
abbrev pub PrintsOfConnection : Option ProgramError → Option (List ℕ) → Option (List ℕ) → Type 0
PrintsOfConnection None printed printed_after = Keeps printed printed_after
PrintsOfConnection (Some error) printed printed_after =
    ((error ≡ Cut) ⊎ (error ≡ Network)) × Prints printed printed_after (line_of error)

-- what is printed for an exchange that ended so: nothing, or that the connection broke off
abbrev pub said_of : Result Done Broken → Option ProgramError
said_of (Ok done) = None
said_of (Err broken) = Some Cut

-- what is printed for connections, the newest first
abbrev pub PrintsOfConnections : List (Option ProgramError) → Option (List ℕ) → Option (List ℕ) → Type 0
PrintsOfConnections [] printed printed_after = Keeps printed printed_after
PrintsOfConnections (one ∷ before) printed printed_after =
    (between : Option (List ℕ)) × PrintsOfConnections before printed between
    × PrintsOfConnection one between printed_after

-- an error of the clock or of the source of seeds
abbrev pub IsHostError : ProgramError → Type 0
IsHostError error = (error ≡ File) ⊎ (error ≡ NoMemory)

-- `NoMemory` if out of memory, else `File`
abbrev pub error_of_host : ErrorKind → ProgramError
error_of_host kind.OutOfMemory = NoMemory
error_of_host _ = File

-- How the loop ended: all connections were served and the desk works; or the desk has stopped, or the host
-- failed.
abbrev pub EndsLoop : State → Result (Unit {0}) ProgramError → Type 0
EndsLoop new (Ok done) = is_stopped_state new ≡ false
EndsLoop new (Err error) = ((error ≡ Refused Stopped) × (is_stopped_state new ≡ true)) ⊎ IsHostError error
