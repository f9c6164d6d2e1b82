-- What a run of the program leaves of the database at a path, by what its contract tells of it.
use Rattle.std.proofs.Common.{inl, inr}
use Rattle.std.specs.Prelude.{◌⊎◌, ℕ, List, [], ◌∷◌, Option, Some, None, Result, Ok, Err, ⊤}
use Rattle.std.specs.Borrow.{Bor}
use Rattle.portal_commands.specs.declared.order.Order.{Order}
use Rattle.portal_commands.specs.declared.order.Order.TheVariants as order
use Rattle.portal_files.specs.SettingsFile.{SettingsValue}
use Rattle.portal_ledger.specs.Ledger.{Ledger, IsSound}
use Rattle.portal_ledger.specs.States.{State, running}
use Rattle.portal_server.specs.Streams.{Outlets}
use Rattle.portal_server.specs.Ends.{EndsWith}
use Rattle.portal_desk.specs.Calls.{is_stopped_state}
use Rattle.portal_server.specs.declared.error.ProgramError.{ProgramError}
use Rattle.portal_server.specs.declared.ending.Output.{Output}
use Rattle.portal_http.specs.Executions.{IsKeptByExecution, with_desk}
use Rattle.portal_http.specs.Exchanges.{Wire}
use Rattle.portal_http.specs.Runs.{ServesInOrder}
use Rattle.portal_commands.specs.Answering.{IsAnswered, EndsAnswer, EndsAnswering, EndsStatus}
use Rattle.portal_commands.specs.Asking.{AsksOver, PrintsBatch, PrintsTakingsOver, PrintsTakingsFrom}
use Rattle.portal_commands.specs.Asking.{ChecksCounters}
use Rattle.portal_commands.specs.Places.{PlaceValue, ByDesk, FailsAtPlace, FailsToOpen, IsForMemory}
use Rattle.portal_commands.specs.Program.{EndsOrder, EndsProgram, EndsServing, outlets_of, files_of}
use Rattle.portal_commands.specs.Serving.{NetworkValue}
use Rattle.portal_commands.specs.declared.answering.AnswerOptions.{AnswerOptions}
use Rattle.portal_commands.specs.declared.place.Files.{Files}
use Rattle.portal_commands.specs.declared.place.Purpose.{Purpose}
use Rattle.portal_commands.specs.declared.place.Purpose.TheVariants.{Serve, Answer, Ask}
use Rattle.portal_commands.specs.declared.trouble.Trouble.{Trouble}
use Rattle.portal_commands.specs.Served.{Served, none_served, served_in_exchange, served_at}

-- What the desk of a question does, and that of `answer`: as in `AsksOver` and `AnswersStored`.
abbrev pub AsksBy : (SettingsValue → State → Result Output ProgramError → State → Type 0) → SettingsValue
    → Outlets → ℕ → Option (List ℕ) → State → State → Type 0
AsksBy Tells settings o status printed old new =
    (printout : Result Output ProgramError) × Tells settings old printout new
    × EndsWith printout (record o { errors_after = printed }) status

abbrev pub AnswersBy : Wire → Option (List ℕ) → ℕ → List ℕ → SettingsValue → ℕ → Option (List ℕ)
    → State → State → Type 0
AnswersBy wire errors moment seed settings status printed old new =
    (answered : Result ℕ ProgramError)
    × EndsAnswering wire moment seed (λ arrivals responses. ServesInOrder settings old arrivals responses new)
    (is_stopped_state new) answered
    × EndsStatus answered errors printed status

module _ (place : PlaceValue) where
  -- Each crash state of the desk that was opened over the file at the path holds a sound ledger: the one that
  -- the file held, then the commands
  -- that were answered 200, in order, and at most one command more, which was answered `stopped`; and nothing
  -- else. This holds as long as the
  -- desk has been fault-free. `served_of` reads the requests and responses off what the desk did.
  abbrev pub DeskKeeps : {Ends : Option (List ℕ) → Type 0} {Does : Option (List ℕ) → State → State → Type 0}
      (path : List ℕ) (purpose : Purpose) (printed_after : Option (List ℕ))
      → SettingsValue → ((printed : Option (List ℕ)) (old new : State) → Does printed old new → Served)
      → ByDesk place path purpose printed_after Ends Does → Type 0
  DeskKeeps path purpose printed_after settings served_of (
    opened,
    desk,
    printed,
    opens,
    closes,
    ends,
    works,
  ) =
      (fault_free : place.is_fault_free desk) (L : Ledger) (held : place.holds_ledger path L)
      (tables : place.Tables) → place.is_crash_state desk tables
      → let led = ((works fault_free).2 L held).1 in
      let served = served_of printed (running L) led.0 led.3 in
      (found : Ledger) × place.tables_hold_ledger tables found × IsSound found
      × IsKeptByExecution L (with_desk settings served.arrivals served.responses ∷ []) found

  -- What is left of a database file that was not opened still holds, after a crash too, each ledger that the
  -- file held. A run that ends by its settings file opens no database.
  abbrev pub FailsKeeps : (files : Files) (purpose : Purpose) (trouble : Trouble)
      → FailsAtPlace place files purpose trouble → Type 0
  FailsKeeps files purpose trouble (inl unread) = ⊤
  FailsKeeps files purpose trouble (inr (names, error, (left, refuses, keeps), read)) =
      (L : Ledger) → place.holds_ledger files.db.now L → place.still_holds left files.db.now L

  -- The same for `answer`. Without memory before the opening, it opens no database.
  abbrev pub AnswerFailsKeeps : (path : List ℕ) (trouble : Trouble)
      → IsForMemory trouble
      ⊎ FailsToOpen place.refuses place.holds_ledger place.still_holds path Answer trouble → Type 0
  AnswerFailsKeeps path trouble (inl memory) = ⊤
  AnswerFailsKeeps path trouble (inr (left, refuses, keeps)) =
      (L : Ledger) → place.holds_ledger path L → place.still_holds left path L

  -- ---- by subcommand

  abbrev pub AsksKeeps : (files : Files)
      (Tells : SettingsValue → State → Result Output ProgramError → State → Type 0) (o : Outlets) (status : ℕ)
      → AsksOver place files Tells o status → Type 0
  AsksKeeps files Tells o status (inl (trouble, fails, ends)) = FailsKeeps files Ask trouble fails
  AsksKeeps files Tells o status (inr (settings, read, by)) =
      DeskKeeps {Does = AsksBy Tells settings o status} files.db.now Ask o.errors_after settings
      (λ printed old new does. none_served) by

  abbrev pub TakingsKeeps : (files : Files) (from to : List ℕ) (o : Outlets) (status : ℕ)
      → PrintsTakingsFrom place files from to o status → Type 0
  -- (ends by its words)
  TakingsKeeps files from to o status (inl usage) = ⊤
  TakingsKeeps files from to o status (inr (range, days, asks)) =
      AsksKeeps files (λ settings. PrintsTakingsOver settings.zone range) o status asks

  abbrev pub AnsweredKeeps : (wire : Wire) (errors errors_after : Option (List ℕ)) (moment : ℕ)
      (seed : List ℕ) (db : Option (Bor (List ℕ))) (settings : SettingsValue) (status : ℕ)
      → IsAnswered place wire errors errors_after moment seed db settings status → Type 0
  -- (names no database)
  AnsweredKeeps wire errors errors_after moment seed None settings status answered = ⊤
  AnsweredKeeps wire errors errors_after moment seed (Some path) settings status (inl by) =
      DeskKeeps {Does = AnswersBy wire errors moment seed settings status} path.now
      Answer errors_after settings
      (λ printed old new does. served_in_exchange wire moment seed
      (λ arrivals responses. ServesInOrder settings old arrivals responses new) does.1.0 does.1.1)
      by
  AnsweredKeeps wire errors errors_after moment seed (Some path) settings status (inr (
    trouble,
    names,
    fails,
    ends,
  )) =
      AnswerFailsKeeps path.now trouble fails

  abbrev pub AnswerKeeps : (wire : Wire) (errors errors_after : Option (List ℕ)) (request : AnswerOptions)
      (status : ℕ) → EndsAnswer place wire errors errors_after request status → Type 0
  -- (ends by its words, or by its settings file)
  AnswerKeeps wire errors errors_after request status (inl usage) = ⊤
  AnswerKeeps wire errors errors_after request status (inr (within, inl unread)) = ⊤
  AnswerKeeps wire errors errors_after request status (inr (
    within,
    inr (bytes, settings, decodes, sample, read, answered),
  )) =
      AnsweredKeeps wire errors errors_after request.now bytes request.db settings status answered

  module _ (network : NetworkValue) where
    abbrev pub ServingKeeps : (files : Files) (port count : ℕ) (o : Outlets) (status : ℕ)
        → EndsServing place files network port count o status → Type 0
    -- (ends by its words)
    ServingKeeps files port count o status (inl usage) = ⊤
    ServingKeeps files port count o status (inr (fits, inl (trouble, fails, ends))) =
        FailsKeeps files Serve trouble fails
    ServingKeeps files port count o status (inr (fits, inr (settings, read, runs, by))) =
        DeskKeeps files.db.now Serve o.errors_after settings
        (λ printed old new does. served_at network (record { port = port; count = count }) settings
        (record o { errors_after = printed }) status old new does)
        by

    abbrev pub OrderKeeps : (wire : Wire) (errors errors_after : Option (List ℕ)) (given : Order) (status : ℕ)
        → EndsOrder place network wire errors errors_after given status → Type 0
    OrderKeeps wire errors errors_after (order.Serve db settings port count) status (kept, serves) =
        ServingKeeps (files_of db settings) port count (outlets_of wire errors errors_after) status serves
    OrderKeeps wire errors errors_after (order.Answer db settings now seed) status answers =
        AnswerKeeps wire errors errors_after
        (record { db = db; settings = settings; now = now; seed = seed }) status answers
    OrderKeeps wire errors errors_after (order.Print db settings batch) status (kept, asks) =
        AsksKeeps (files_of db settings) (λ s. PrintsBatch s.zone batch.now)
        (outlets_of wire errors errors_after) status asks
    OrderKeeps wire errors errors_after (order.Takings db settings from to) status (kept, asks) =
        TakingsKeeps (files_of db settings) from.now to.now (outlets_of wire errors errors_after) status asks
    OrderKeeps wire errors errors_after (order.Check db settings) status (kept, asks, rightly) =
        AsksKeeps (files_of db settings) (λ s. ChecksCounters)
        (outlets_of wire errors errors_after) status asks

    abbrev pub ProgramKeeps : (wire : Wire) (errors errors_after : Option (List ℕ)) (words : List (List ℕ))
        (status : ℕ) → EndsProgram place network wire errors errors_after words status → Type 0
    ProgramKeeps wire errors errors_after words status (Ok given, (gives, ends)) =
        OrderKeeps wire errors errors_after given status ends
    -- (ends by its words)
    ProgramKeeps wire errors errors_after words status (Err printout, printed) = ⊤

    -- Of every run of the program.
    abbrev pub RunsKeep : Type 0
    RunsKeep = (wire : Wire) (errors errors_after : Option (List ℕ)) (words : List (List ℕ)) (status : ℕ)
        (ran : EndsProgram place network wire errors errors_after words status)
        → ProgramKeeps wire errors errors_after words status ran
