-- The output of the subcommands that ask the desk one question: `print`, `takings` and `check`.
use Rattle.std.specs.Prelude.{◌≡◌, ◌⊎◌, ℕ, ℤ, List, Bool, true, false, Option, Some, Result, Ok, Err, ⊤}
use Rattle.jiff_tz.specs.declared.timezone.TimeZone.{TimeZone}
use Rattle.portal_model.specs.Span.{Span, IsSpan}
use Rattle.portal_model.specs.IdText.{IsIdText}
use Rattle.portal_model.specs.History.{History}
use Rattle.portal_model.specs.declared.refusal.Refusal.TheVariants.{UnknownBatch}
use Rattle.portal_files.specs.DayText.{IsDayText}
use Rattle.portal_files.specs.declared.sheet.BatchSheet.{BatchSheet}
use Rattle.portal_files.specs.PrintFile.{IsPrintFile}
use Rattle.portal_files.specs.Report.{IsReport}
use Rattle.portal_ledger.specs.Calls.{ReadsThat}
use Rattle.portal_ledger.specs.Ledger.{Ledger}
use Rattle.portal_ledger.specs.States.{State, running}
use Rattle.portal_desk.specs.Calls.{CannotAnswer, RefusesUnknown}
use Rattle.portal_desk.specs.Sheets.{sheet_of, takings_over}
use Rattle.portal_server.specs.declared.ending.Output.{Output}
use Rattle.portal_server.specs.declared.ending.Output.TheVariants.{Text, Agrees, Differs}
use Rattle.portal_server.specs.declared.error.ProgramError.{ProgramError}
use Rattle.portal_server.specs.declared.error.ProgramError.TheVariants.{Refused}
use Rattle.portal_server.specs.Streams.{Outlets}
use Rattle.portal_server.specs.Ends.{EndsWith}
use Rattle.portal_files.specs.SettingsFile.{SettingsValue}
use Rattle.portal_commands.specs.declared.place.Files.{Files}
use Rattle.portal_commands.specs.declared.place.Purpose.TheVariants.{Ask}
use Rattle.portal_commands.specs.declared.asking.DeskQuestion.{DeskQuestion}
use Rattle.portal_commands.specs.declared.asking.DeskQuestion.TheVariants.{Batch, Takings, Counters}
use Rattle.portal_commands.specs.declared.causes.UsageFault.{UsageFault}
use Rattle.portal_commands.specs.declared.causes.UsageFault.TheVariants.{From, To, Days}
use Rattle.portal_commands.specs.declared.trouble.Trouble.{Trouble}
use Rattle.portal_commands.specs.Places.{PlaceValue, AreReadSettings, ByDesk, Closes, FailsAtPlace}
use Rattle.portal_commands.specs.Troubles.{EndsTrouble, EndsUsage}

-- The output of a desk, or a refusal as the error.
abbrev pub IsDeskResult : Result Output ProgramError → Type 0
IsDeskResult (Ok printout) = ⊤
IsDeskResult (Err (Refused r)) = ⊤
IsDeskResult (Err _) = ⊥

-- The output is such a one, and it is printed.
abbrev pub PrintsOutput : (Result Output ProgramError → Type 0) → Outlets → ℕ → Type 0
PrintsOutput Is o status = (printout : Result Output ProgramError) × Is printout × EndsWith printout o status

-- The desk over the files of a place is asked: a file cannot be used, or there is no database; or the desk
-- gives the output, with the settings that were read, from the ledger that the file holds. The error of a
-- failed close is printed after it.
abbrev pub AsksOver : PlaceValue → Files
    → (SettingsValue → State → Result Output ProgramError → State → Type 0) → Outlets → ℕ → Type 0
AsksOver place files Tells o status =
    ((trouble : Trouble) × FailsAtPlace place files Ask trouble × EndsTrouble trouble o status)
    ⊎ ((settings : SettingsValue) × AreReadSettings (place.reads files.settings.now) settings
    × ByDesk place files.db.now Ask o.errors_after
    (λ printed. (printout : Result Output ProgramError) × IsDeskResult printout
    × EndsWith printout (record o { errors_after = printed }) status)
    (λ printed old new. (printout : Result Output ProgramError) × Tells settings old printout new
    × EndsWith printout (record o { errors_after = printed }) status))

-- ---- print

-- The print file of the batch with that id.
abbrev pub IsBatchFile : TimeZone → List ℕ → History → List ℕ → Type 0
IsBatchFile zone id H text = (sheet : BatchSheet) × (sheet_of H id ≡ Some sheet) × IsPrintFile zone sheet text

-- The output of `print`. A text that is no valid id names no batch.
abbrev pub PrintsBatch : TimeZone → List ℕ → State → Result Output ProgramError → State → Type 0
PrintsBatch zone batch old (Ok (Text text)) new = ReadsThat old (λ H. IsBatchFile zone batch H text.items) new
PrintsBatch zone batch old (Err (Refused r)) new =
    ((r ≡ UnknownBatch) × (¬ IsIdText batch) × (new ≡ old))
    ⊎ RefusesUnknown UnknownBatch (λ H. sheet_of H batch) old r new
PrintsBatch zone batch old _ new = ⊥

-- ---- takings

-- The texts are the dates of the first and the last day of a range.
abbrev pub IsRangeText : List ℕ → List ℕ → Span → Type 0
IsRangeText from to range =
    IsDayText from range.first × IsDayText to range.last × IsSpan range.first range.last

-- Why the texts name no range: one is no date, or the days are not those of one.
abbrev pub IsRangeFault : List ℕ → List ℕ → UsageFault → Type 0
IsRangeFault from to From = (day : ℤ) → ¬ IsDayText from day
IsRangeFault from to To = ((day : ℤ) × IsDayText from day) × ((day : ℤ) → ¬ IsDayText to day)
IsRangeFault from to Days = (first last : ℤ) × IsDayText from first × IsDayText to last × ¬ IsSpan first last
IsRangeFault from to _ = ⊥

-- The takings report over those days.
abbrev pub IsReportOver : TimeZone → Span → History → List ℕ → Type 0
IsReportOver zone range H text = IsReport (takings_over zone H range) text

-- The output of `takings`.
abbrev pub PrintsTakingsOver : TimeZone → Span → State → Result Output ProgramError → State → Type 0
PrintsTakingsOver zone range old (Ok (Text text)) new =
    ReadsThat old (λ H. IsReportOver zone range H text.items) new
PrintsTakingsOver zone range old (Err (Refused r)) new = CannotAnswer old r new
PrintsTakingsOver zone range old _ new = ⊥

-- Texts that name no range are an invalid command line, before any other error.
abbrev pub PrintsTakingsFrom : PlaceValue → Files → List ℕ → List ℕ → Outlets → ℕ → Type 0
PrintsTakingsFrom place files from to outlets status =
    ((fault : UsageFault) × IsRangeFault from to fault × EndsUsage fault outlets status)
    ⊎ ((range : Span) × IsRangeText from to range
    × AsksOver place files (λ settings. PrintsTakingsOver settings.zone range) outlets status)

-- ---- check

-- The output of `check`: if the desk represents a ledger, its counters agree with its rows.
abbrev pub ChecksCounters : State → Result Output ProgramError → State → Type 0
ChecksCounters old (Ok Agrees) new = ReadsThat old (λ H. ⊤) new
ChecksCounters old (Err (Refused r)) new = CannotAnswer old r new
ChecksCounters old _ new = ⊥

-- ---- what is asked

-- The output for a question.
abbrev pub ResultOf : DeskQuestion → SettingsValue → State → Result Output ProgramError → State → Type 0
ResultOf (Batch id) settings = PrintsBatch settings.zone id.now
ResultOf (Takings range) settings = PrintsTakingsOver settings.zone range
ResultOf Counters settings = ChecksCounters

-- ---- what the audit has to answer

-- `ok` or `differs` is printed only if the audit has to give that answer.
abbrev pub AuditIsRight : (Bool → Type 0) → Result Output ProgramError → Type 0
AuditIsRight audits (Ok Agrees) = audits true
AuditIsRight audits (Ok Differs) = audits false
AuditIsRight audits (Err (Refused r)) = ⊤
AuditIsRight audits _ = ⊥

-- The output for a question is right about the counters.
abbrev pub IsRight : DeskQuestion → (Bool → Type 0) → Result Output ProgramError → Type 0
IsRight (Batch id) audits printout = ⊤
IsRight (Takings range) audits printout = ⊤
IsRight Counters audits printout = AuditIsRight audits printout

-- Whatever the file at the path holds: a file cannot be used, or there is no database; or the output is right
-- about the desk as it was opened. That desk represents the ledger that the file holds, if it holds one. The
-- desk is closed then.
abbrev pub AsksRightly : PlaceValue → Files → DeskQuestion → Outlets → ℕ → Type 0
AsksRightly place files question o status =
    ((trouble : Trouble) × FailsAtPlace place files Ask trouble × EndsTrouble trouble o status)
    ⊎ ((before after : place.Desk) × (printed : Option (List ℕ)) × place.opens files.db.now Ask before
    × Closes place.closes place.fails_to_close after files.db.now printed o.errors_after
    × ((printout : Result Output ProgramError)
    × EndsWith printout (record o { errors_after = printed }) status
    × (place.is_fault_free after → place.is_fault_free before × place.finds files.db.now Ask
    × ((L : Ledger) → place.holds_ledger files.db.now L → place.represents before (running L))
    × IsRight question (place.audits before) printout)))
