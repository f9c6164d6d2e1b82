-- How the subcommand `serve` ends.
use Rattle.std.specs.Prelude.{◌≡◌, ◌⊎◌, ℕ, Result}
use Rattle.portal_server.specs.declared.error.ProgramError.{ProgramError}
use Rattle.portal_server.specs.Streams.{Outlets}
use Rattle.portal_server.specs.Command.{PrintsAll, EndsTurns, exit_code_at}
use Rattle.portal_commands.specs.declared.serving.ServeOptions.{ServeOptions}
use Rattle.portal_files.specs.SettingsFile.{SettingsValue}
use Rattle.portal_http.specs.Runs.{Run}
use Rattle.portal_ledger.specs.States.{State}
use Rattle.portal_server.specs.Serving.{ServesAtMost}
use Rattle.portal_server.specs.Turns.{HostValue}
use Rattle.portal_commands.specs.declared.place.Files.{Files}
use Rattle.portal_commands.specs.declared.place.Purpose.TheVariants.{Serve}
use Rattle.portal_commands.specs.declared.trouble.Trouble.{Trouble}
use Rattle.portal_commands.specs.Places.{PlaceValue, AreReadSettings, ByDesk, FailsAtPlace, IsForMemory}
use Rattle.portal_commands.specs.Troubles.{EndsTrouble, IsUnbound}

-- Connections are served; or an error comes before: the port cannot be bound, or out of memory.
abbrev pub IsServed : ServeOptions → Outlets → ℕ → Type 0
IsServed at o status =
    ((ended : Result (Unit {0}) ProgramError) × (status ≡ exit_code_at ended)
    × PrintsAll at.port at.count o ended)
    ⊎ ((trouble : Trouble) × (IsUnbound at.port trouble ⊎ IsForMemory trouble) × EndsTrouble trouble o status)

-- What is assumed of a network: which hosts may be bound at a port, and at which ports none may be bound.
pub record NetworkValue : Type 1 where
  pub host : HostValue
  pub listens : ℕ → host.Host → Type 0
  pub refuses : ℕ → Type 0

-- The port is bound, and connections of the host there are served in turn; or the network refuses it, or
-- there is no memory, and the desk is as it was.
abbrev pub ServesAt : NetworkValue → ServeOptions → SettingsValue → Outlets → ℕ → State → State → Type 0
ServesAt network at settings o status old new =
    ((trouble : Trouble) × ((IsUnbound at.port trouble × network.refuses at.port) ⊎ IsForMemory trouble)
    × EndsTrouble trouble o status × (new ≡ old))
    ⊎ ((before : network.host.Host) × (after : network.host.Host) × (ended : Result (Unit {0}) ProgramError)
    × network.listens at.port before × (status ≡ exit_code_at ended)
    × EndsTurns network.host settings at.port at.count o before old ended after new)

-- Served by the desk over the files of a place: a file cannot be used; or connections are served with the
-- settings that were read, from the ledger that the file holds, by a desk that was opened after the log was
-- copied into the file.
abbrev pub ServesOver : PlaceValue → Files → NetworkValue → ServeOptions → Outlets → ℕ → Type 0
ServesOver place files network at o status =
    ((trouble : Trouble) × FailsAtPlace place files Serve trouble × EndsTrouble trouble o status)
    ⊎ ((settings : SettingsValue) × AreReadSettings (place.reads files.settings.now) settings
    × ByDesk place files.db.now Serve o.errors_after
    (λ printed. IsServed at (record o { errors_after = printed }) status)
    (λ printed old new. ServesAtMost at.count (λ arrivals responses. Run settings old arrivals responses new))
    × ByDesk place files.db.now Serve o.errors_after
    (λ printed. IsServed at (record o { errors_after = printed }) status)
    (λ printed old new. ServesAt network at settings (record o { errors_after = printed }) status old new))
