-- How the subcommand `answer` ends.
use Rattle.std.specs.Prelude.{◌≡◌, ◌⊎◌, ◌<◌, ◌≤◌, ℕ, List, [], length, Bool, ◌==◌, ◌&&◌, if◌then◌else◌}
use Rattle.std.specs.Prelude.{Option, None, Some, Result, Ok, Err, ⊤}
use Rattle.std.specs.List.{AllPass}
use Rattle.std.specs.Borrow.{Bor}
use Rattle.std.specs.Io.KnownBytes.{Keeps}
use Rattle.hex.specs.Hex.{decode_of, is_hex_digit}
use Rattle.portal_files.specs.SettingsFile.{SettingsValue}
use Rattle.portal_files.specs.Sample.{IsSample}
use Rattle.portal_ledger.specs.States.{State, running}
use Rattle.portal_desk.specs.Calls.{is_stopped_state}
use Rattle.portal_http.specs.declared.exchanges.Done.{Done}
use Rattle.portal_http.specs.declared.exchanges.Cut.{Cut as Break}
use Rattle.portal_http.specs.Arrived.{Arrived}
use Rattle.portal_http.specs.Runs.{ServesInOrder}
use Rattle.portal_http.specs.Exchanges.{Wire, EndsExchange}
use Rattle.portal_server.specs.declared.error.ProgramError.{ProgramError}
use Rattle.portal_server.specs.declared.error.ProgramError.TheVariants.{Cut, NoMemory}
use Rattle.portal_server.specs.Errors.{line_of, exit_code_of}
use Rattle.portal_server.specs.Streams.{Prints}
use Rattle.portal_commands.specs.declared.answering.AnswerOptions.{AnswerOptions}
use Rattle.portal_commands.specs.declared.causes.UsageFault.{UsageFault}
use Rattle.portal_commands.specs.declared.causes.UsageFault.TheVariants.{Now, Seed}
use Rattle.portal_commands.specs.declared.place.Purpose.TheVariants.{Answer}
use Rattle.portal_commands.specs.declared.trouble.Trouble.{Trouble}
use Rattle.portal_commands.specs.Places.{IsFileError, IsDatabaseError, IsForMemory, PlaceValue}
use Rattle.portal_commands.specs.Places.{AreReadSettings, FailsToOpen, IsNotRead, ByDesk}
use Rattle.portal_commands.specs.Troubles.{IsOutOfRange, NamesPath, Reports}

-- 0 after 200, 3 after the 503 of a desk that has stopped, 1 after any other status.
abbrev pub exit_code_for : ℕ → Bool → ℕ
exit_code_for status is_stopped = if status == 200 then 0 else (if status == 503 && is_stopped then 3 else 1)

-- The exit code, or the error, that belongs to the end of an exchange.
abbrev pub outcome : Result Done Break → Bool → Result ℕ ProgramError
outcome (Ok done) is_stopped = Ok (exit_code_for done.status is_stopped)
outcome (Err cut) is_stopped = Err Cut

-- An exchange ends, and the result is the one that belongs to it.
abbrev pub EndsAnswering : Wire → ℕ → List ℕ → (List Arrived → List (List ℕ) → Type 0) → Bool
    → Result ℕ ProgramError → Type 0
EndsAnswering wire moment seed IsRun is_stopped result =
    (ended : Result Done Break) × EndsExchange wire moment seed IsRun ended
    × (result ≡ outcome ended is_stopped)

-- A time up to the end of the year 9998, and 64 hexadecimal digits.
abbrev pub IsInRange : ℕ → List ℕ → Type 0
IsInRange now seed = (now ≤ 253370764799) × (length seed ≡ 64) × AllPass is_hex_digit seed

-- Which of the two is not.
abbrev pub IsFaultOf : ℕ → List ℕ → UsageFault → Type 0
IsFaultOf now seed Now = 253370764799 < now
IsFaultOf now seed Seed = (now ≤ 253370764799) × ¬ ((length seed ≡ 64) × AllPass is_hex_digit seed)
IsFaultOf now seed _ = ⊥

-- Nothing is read, and nothing is written.
abbrev pub AreLeftAlone : Wire → Type 0
AreLeftAlone wire = Keeps wire.unread wire.unread_after × Keeps wire.sent wire.sent_after

-- The exit code is that of the answer; or it is that of an error, whose line is printed.
abbrev pub EndsStatus : Result ℕ ProgramError → Option (List ℕ) → Option (List ℕ) → ℕ → Type 0
EndsStatus (Ok given) errors errors_after status = (status ≡ given) × Keeps errors errors_after
EndsStatus (Err error) errors errors_after status =
    (status ≡ exit_code_of error) × Prints errors errors_after (line_of error)

-- A file cannot be used: nothing is read, and only the lines of the error are written.
abbrev pub EndsBeforeReading : Wire → Option (List ℕ) → Option (List ℕ) → Trouble → ℕ → Type 0
EndsBeforeReading wire errors errors_after trouble status =
    AreLeftAlone wire × (status ≡ exit_code_of trouble.error) × Reports trouble errors errors_after

-- Without a database file, the request is the only one of a run of a desk over an empty ledger; or there is
-- no database in memory.
abbrev pub AnswersFresh : (ProgramError → Type 0) → Wire → Option (List ℕ) → Option (List ℕ) → ℕ → List ℕ
    → SettingsValue → ℕ → Type 0
AnswersFresh fails wire errors errors_after moment seed settings status =
    ((new : State) × (answered : Result ℕ ProgramError)
    × EndsAnswering wire moment seed (λ arrivals responses.
    ServesInOrder settings (running []) arrivals responses new) (is_stopped_state new) answered
    × EndsStatus answered errors errors_after status)
    ⊎ ((error : ProgramError) × IsFileError error × ((error ≡ NoMemory) ⊎ fails error) × AreLeftAlone wire
    × EndsStatus (Err error) errors errors_after status)

-- With a database file, the request is the only one of a run of the desk over the file, from the ledger that
-- the file holds; or the file cannot be used.
abbrev pub AnswersStored : PlaceValue → List ℕ → Wire → Option (List ℕ) → Option (List ℕ) → ℕ → List ℕ
    → SettingsValue → ℕ → Type 0
AnswersStored place path wire errors errors_after moment seed settings status =
    ByDesk place path Answer errors_after
    (λ printed. (is_stopped : Bool) × (answered : Result ℕ ProgramError)
    × EndsAnswering wire moment seed (λ arrivals responses. ⊤) is_stopped answered
    × EndsStatus answered errors printed status)
    (λ printed old new. (answered : Result ℕ ProgramError)
    × EndsAnswering wire moment seed (λ arrivals responses. ServesInOrder settings old arrivals responses new)
    (is_stopped_state new) answered
    × EndsStatus answered errors printed status)
    ⊎ ((trouble : Trouble) × (IsDatabaseError trouble.error × NamesPath path trouble)
    × (IsForMemory trouble
    ⊎ FailsToOpen place.refuses place.holds_ledger place.still_holds path Answer trouble)
    × EndsBeforeReading wire errors errors_after trouble status)

-- With a database file or without one.
abbrev pub IsAnswered : PlaceValue → Wire → Option (List ℕ) → Option (List ℕ) → ℕ → List ℕ
    → Option (Bor (List ℕ)) → SettingsValue → ℕ → Type 0
IsAnswered place wire errors errors_after moment seed None settings status =
    AnswersFresh place.fails_to_make wire errors errors_after moment seed settings status
IsAnswered place wire errors errors_after moment seed (Some path) settings status =
    AnswersStored place path.now wire errors errors_after moment seed settings status

-- The settings file cannot be used, or there is no memory for the sample settings.
abbrev pub IsOfNamed : (List ℕ → List ℕ → Type 0) → (List ℕ → Trouble → Type 0)
    → Option (Bor (List ℕ)) → Trouble → Type 0
IsOfNamed reads fails settings trouble =
    (settings ≡ None → IsForMemory trouble)
    × ((path : Bor (List ℕ)) → settings ≡ Some path
    → IsNotRead path.now (reads path.now) (fails path.now) trouble)

-- A value is out of its range; or there are no settings; or the request is answered with the settings that
-- were read.
abbrev pub EndsAnswer : PlaceValue → Wire → Option (List ℕ) → Option (List ℕ) → AnswerOptions → ℕ → Type 0
EndsAnswer place wire errors errors_after request status =
    ((fault : UsageFault) × IsFaultOf request.now request.seed.now fault
    × (trouble : Trouble) × IsOutOfRange fault trouble
    × EndsBeforeReading wire errors errors_after trouble status)
    ⊎ (IsInRange request.now request.seed.now
    × (((trouble : Trouble) × IsOfNamed place.reads place.fails_to_read request.settings trouble
    × EndsBeforeReading wire errors errors_after trouble status)
    ⊎ ((bytes : List ℕ) × (settings : SettingsValue) × (decode_of request.seed.now ≡ Ok bytes)
    × (request.settings ≡ None → IsSample settings)
    × ((path : Bor (List ℕ)) → request.settings ≡ Some path → AreReadSettings (place.reads path.now) settings)
    × IsAnswered place wire errors errors_after request.now bytes request.db settings status)))
