-- What a run of the program leaves of a database: from each exchange to the crash states of the desk.
use Rattle.std.proofs.Common.{◌≡◌, ◌⊎◌, ℕ, List, [], ◌∷◌, zero, suc, length, take, Option, Some, None, inl}
use Rattle.std.proofs.Common.{inr, refl, subst, Bool}
use Rattle.std.specs.Prelude.{Result, Ok, Err}
use Rattle.std.specs.Borrow.{Bor}
use Rattle.jiff_tz.specs.declared.timezone.TimeZone.{TimeZone}
use Rattle.portal_commands.specs.declared.order.Order.{Order}
use Rattle.portal_commands.specs.declared.order.Order.TheVariants as order
use Rattle.portal_model.specs.Span.{Span}
use Rattle.portal_desk.specs.Calls.{CannotAnswer}
use Rattle.portal_server.specs.declared.ending.Output.{Output}
use Rattle.portal_server.specs.declared.ending.Output.TheVariants.{Text, Agrees}
use Rattle.portal_server.specs.declared.error.ProgramError.{ProgramError}
use Rattle.portal_server.specs.declared.error.ProgramError.TheVariants.{Refused}
use Rattle.portal_server.specs.Streams.{Outlets}
use Rattle.portal_files.specs.SettingsFile.{SettingsValue}
use Rattle.portal_ledger.specs.Ledger.{Ledger}
use Rattle.portal_ledger.specs.States.{State, running, stopped, MayBeFound}
use Rattle.portal_model.specs.declared.refusal.Refusal.{Refusal}
use Rattle.portal_http.specs.Arrived.{Arrived}
use Rattle.portal_http.specs.declared.exchanges.Done.{Done}
use Rattle.portal_http.specs.declared.exchanges.Cut.{Cut}
use Rattle.portal_http.specs.declared.exchanges.Cause.{Cause}
use Rattle.portal_http.specs.declared.exchanges.Cause.TheVariants.{Read, NoRoom, Write}
use Rattle.portal_http.specs.Exchanges.{Wire, between, CutsOff, EndsExchange}
use Rattle.portal_http.specs.Executions.{IsKeptByExecution, with_desk}
use Rattle.portal_http.specs.Runs.{Run, ServesInOrder}
use Rattle.portal_http.proofs.HeadlineLemmas.{ends}
use Rattle.portal_http.proofs.SessionLemmas.{crash_state_is_allowed}
use Rattle.portal_server.specs.Command.{PrintsTurns, EndsTurns}
use Rattle.portal_server.specs.Turns.{HostValue, IsTurn, Turns, TakesTurns}
use Rattle.portal_server.proofs.ServingLemmas.{Run-append, run_served}
use Rattle.portal_commands.specs.Answering.{IsAnswered, EndsAnswer}
use Rattle.portal_commands.specs.Asking.{AsksOver, PrintsBatch, PrintsTakingsOver, PrintsTakingsFrom}
use Rattle.portal_commands.specs.Asking.{ChecksCounters}
use Rattle.portal_commands.specs.Places.{PlaceValue, ByDesk, FailsAtPlace, FailsToOpen, IsForMemory}
use Rattle.portal_commands.specs.Program.{EndsOrder, EndsProgram, EndsServing, outlets_of, files_of}
use Rattle.portal_commands.specs.Serving.{NetworkValue, ServesAt}
use Rattle.portal_commands.specs.declared.answering.AnswerOptions.{AnswerOptions}
use Rattle.portal_commands.specs.declared.place.Files.{Files}
use Rattle.portal_commands.specs.declared.place.Purpose.{Purpose}
use Rattle.portal_commands.specs.declared.place.Purpose.TheVariants.{Serve, Answer, Ask}
use Rattle.portal_commands.specs.declared.serving.ServeOptions.{ServeOptions}
use Rattle.portal_commands.specs.declared.trouble.Trouble.{Trouble}
use Rattle.portal_commands.specs.Served.{Served, none_served, served_before_cut, served_in_exchange}
use Rattle.portal_commands.specs.Served.{served_in_turn, served_in_turns, served_until, served_after_line}
use Rattle.portal_commands.specs.Served.{served_by_turns, served_at}
use Rattle.portal_commands.specs.Sessions.{FailsKeeps, AnswerFailsKeeps}
use Rattle.portal_commands.specs.Sessions.{DeskKeeps, AsksBy, AnswersBy, AsksKeeps, TakingsKeeps}
use Rattle.portal_commands.specs.Sessions.{AnsweredKeeps, AnswerKeeps, ServingKeeps, OrderKeeps, ProgramKeeps}
use Rattle.portal_commands.specs.Sessions.{RunsKeep}

-- ---- what was served is a run

-- what a question leaves of a desk
abbrev Asked : Ledger → State → Type 0
Asked L new = (new ≡ running L) ⊎ (new ≡ stopped L None)

module _ (settings : SettingsValue) where
  abbrev Ran : State → Served → State → Type 0
  Ran old served new = Run settings old served.arrivals served.responses new

  module _ (wire : Wire) (moment : ℕ) (seed : List ℕ) (old new : State) where
    abbrev OneRun : List Arrived → List (List ℕ) → Type 0
    OneRun arrivals responses = ServesInOrder settings old arrivals responses new

    cut_ran : (cause : Cause) (written whole : ℕ) (off : CutsOff wire moment seed OneRun cause written whole)
        → Ran old (served_before_cut wire moment seed OneRun cause written whole off) new
    cut_ran Read written whole (nothing, empty, broken, kept, run) = run
    cut_ran NoRoom written whole (nothing, empty, full, kept, run) = run
    cut_ran Write written whole (response, size, less, (received, reads, run, out)) = run

    exchange_ran : (ended : Result Done Cut) (exchange : EndsExchange wire moment seed OneRun ended)
        → Ran old (served_in_exchange wire moment seed OneRun ended exchange) new
    exchange_ran (Ok done) (response, status, size, (received, reads, run, out)) = run
    exchange_ran (Err cut) off = cut_ran cut.cause cut.written cut.whole off

  module _ (host : HostValue) where
    turn_ran : (has_failed : Bool) (before : host.Host) (old : State) (said : Option ProgramError)
        (after : host.Host) (new : State) (fails : Bool)
        (turn : IsTurn host settings has_failed before old said after new fails)
        → Ran old (served_in_turn host settings has_failed before old said after new fails turn) new
    turn_ran has_failed before old said after new fails (inl broken) = broken.1
    turn_ran has_failed before old said after new fails (inr (
      serves,
      peer,
      accepted,
      accepts,
      (moment, seed, stamped, reader_after, writer_after, ended, stamps, exchange, same, closes),
    )) =
        exchange_ran (between (host.unread peer.0) (host.unread reader_after) (host.sent peer.1)
        (host.sent writer_after)) moment seed old new ended exchange

    turns_ran : (turns : ℕ) (before : host.Host) (old : State) (said : List (Option ProgramError))
        (after : host.Host) (new : State) (fails : Bool)
        (taken : Turns host settings turns before old said after new fails)
        → Ran old (served_in_turns host settings turns before old said after new fails taken) new
    turns_ran zero before old said after new fails nothing = nothing.1
    turns_ran (suc more) before old said after new fails (
      mid,
      between_them,
      failed,
      told,
      last,
      same,
      so_far,
      turn,
    ) =
        let first = served_in_turns host settings more before old told mid between_them failed so_far in
        let next = served_in_turn host settings failed mid between_them last after new fails turn in
        Run-append settings old between_them new first.arrivals next.arrivals first.responses next.responses
        (turns_ran more before old told mid between_them failed so_far)
        (turn_ran failed mid between_them last after new fails turn)

    until_ran : (count : ℕ) (before : host.Host) (old : State) (said : List (Option ProgramError))
        (ended : Result (Unit {0}) ProgramError) (after : host.Host) (new : State)
        (taken : TakesTurns host settings count before old said ended after new)
        → Ran old (served_until host settings count before old said ended after new taken) new
    until_ran count before old said (Ok done) after new (fails, turns) =
        turns_ran count before old said after new fails turns
    until_ran count before old said (Err error) after new (few, last, fails, told, less, turns, ended) =
        turns_ran few before old told last new fails turns

    after_line_ran : (port count : ℕ) (o : Outlets) (before : host.Host) (old : State)
        (ended : Result (Unit {0}) ProgramError) (after : host.Host) (new : State)
        (printed : PrintsTurns host settings port count o before old ended after new)
        → Ran old (served_after_line host settings port count o before old ended after new printed) new
    after_line_ran port count o before old ended after new (inl (line, said, prints, turns)) =
        until_ran count before old said ended after new turns
    after_line_ran port count o before old ended after new (inr (error, is, lost, kept, same, stays)) = stays

    by_turns_ran : (port count : ℕ) (o : Outlets) (before : host.Host) (old : State)
        (ended : Result (Unit {0}) ProgramError) (after : host.Host) (new : State)
        (turns : EndsTurns host settings port count o before old ended after new)
        → Ran old (served_by_turns host settings port count o before old ended after new turns) new
    by_turns_ran port count o before old (Ok done) after new turns =
        after_line_ran port count o before old (Ok done) after new turns
    by_turns_ran port count o before old (Err error) after new (printed, turns, line) =
        after_line_ran port count (record o { errors_after = printed }) before old (Err error) after new turns

  at_ran : (network : NetworkValue) (at : ServeOptions) (o : Outlets) (status : ℕ) (old new : State)
      (serves : ServesAt network at settings o status old new)
      → Ran old (served_at network at settings o status old new serves) new
  at_ran network at o status old new (inl (trouble, why, ended, same)) = same
  at_ran network at o status old new (inr (before, after, ended, listens, exits, turns)) =
      by_turns_ran network.host at.port at.count o before old ended after new turns

  -- ---- what is found after a run

  abbrev Kept : Ledger → Served → Ledger → Type 0
  Kept L served found = IsKeptByExecution L (with_desk settings served.arrivals served.responses ∷ []) found

  run_keeps : (L : Ledger) (served : Served) (new : State) (found : Ledger) → Ran (running L) served new
      → MayBeFound new found → Kept L served found
  run_keeps L served new found run may =
      let ordered = run_served settings (running L) new served.arrivals served.responses run in
      let left = crash_state_is_allowed settings L served.arrivals served.responses new found
      (ends settings L (take (length served.responses) served.arrivals) served.responses new ordered) may in
      (left.0, found, left.1, left.2, refl)

  question_keeps : (L : Ledger) (new : State) (found : Ledger) → Asked L new → MayBeFound new found
      → Kept L none_served found
  question_keeps L new found (inl is) may =
      (L, found, refl, inl (subst (λ (s : State). MayBeFound s found) is may), refl)
  question_keeps L new found (inr is) may =
      (L, found, refl, inl (subst (λ (s : State). MayBeFound s found) is may), refl)

-- ---- a question accepts no command

cannot_answer : (L : Ledger) (r : Refusal) (new : State) → CannotAnswer (running L) r new → Asked L new
cannot_answer L r new (inl memory) = inl memory.1
cannot_answer L r new (inr over) = inr over.1

batch_asks : (zone : TimeZone) (batch : List ℕ) (L : Ledger) (printout : Result Output ProgramError)
    (new : State) → PrintsBatch zone batch (running L) printout new → Asked L new
batch_asks zone batch L (Ok (Text text)) new reads = inl reads.1
batch_asks zone batch L (Err (Refused r)) new (inl no_id) = inl no_id.2
batch_asks zone batch L (Err (Refused r)) new (inr (inl unknown)) = inl unknown.1.1
batch_asks zone batch L (Err (Refused r)) new (inr (inr fails)) = cannot_answer L r new fails
batch_asks zone batch L _ new none = absurd none

takings_ask : (zone : TimeZone) (range : Span) (L : Ledger) (printout : Result Output ProgramError)
    (new : State) → PrintsTakingsOver zone range (running L) printout new → Asked L new
takings_ask zone range L (Ok (Text text)) new reads = inl reads.1
takings_ask zone range L (Err (Refused r)) new fails = cannot_answer L r new fails
takings_ask zone range L _ new none = absurd none

counters_ask : (L : Ledger) (printout : Result Output ProgramError) (new : State)
    → ChecksCounters (running L) printout new → Asked L new
counters_ask L (Ok Agrees) new reads = inl reads.1
counters_ask L (Err (Refused r)) new fails = cannot_answer L r new fails
counters_ask L _ new none = absurd none

-- ---- what a desk keeps

module _ (place : PlaceValue) where
  desk_keeps : {Ends : Option (List ℕ) → Type 0} {Does : Option (List ℕ) → State → State → Type 0}
      (path : List ℕ) (purpose : Purpose) (printed_after : Option (List ℕ))
      (settings : SettingsValue)
      (served_of : (printed : Option (List ℕ)) (old new : State) → Does printed old new → Served)
      (by : ByDesk place path purpose printed_after Ends Does)
      → ((printed : Option (List ℕ)) (L : Ledger) (new : State) (does : Does printed (running L) new)
      (found : Ledger) → MayBeFound new found
      → Kept settings L (served_of printed (running L) new does) found)
      → DeskKeeps place path purpose printed_after settings served_of by
  desk_keeps path purpose printed_after settings served_of (
    opened,
    desk,
    printed,
    opens,
    closes,
    finishes,
    leads,
  ) kept = λ fault_free L held tables may.
      let led = ((leads fault_free).2 L held).1 in
      let left = led.2 tables may in
      (left.0, left.2, left.3, kept printed L led.0 led.3 left.0 left.1)

  fails_keep : (files : Files) (purpose : Purpose) (trouble : Trouble)
      (fails : FailsAtPlace place files purpose trouble) → FailsKeeps place files purpose trouble fails
  fails_keep files purpose trouble (inl unread) = tt
  fails_keep files purpose trouble (inr (names, error, (left, refuses, keeps), read)) = keeps

  answer_fails_keep : (path : List ℕ) (trouble : Trouble)
      (fails : IsForMemory trouble
      ⊎ FailsToOpen place.refuses place.holds_ledger place.still_holds path Answer trouble)
      → AnswerFailsKeeps place path trouble fails
  answer_fails_keep path trouble (inl memory) = tt
  answer_fails_keep path trouble (inr (left, refuses, keeps)) = keeps

  asks_keep : (files : Files) (Tells : SettingsValue → State → Result Output ProgramError → State → Type 0)
      (o : Outlets) (status : ℕ) (asks : AsksOver place files Tells o status)
      → ((settings : SettingsValue) (L : Ledger) (printout : Result Output ProgramError) (new : State)
      → Tells settings (running L) printout new → Asked L new)
      → AsksKeeps place files Tells o status asks
  asks_keep files Tells o status (inl (trouble, fails, ends)) asked = fails_keep files Ask trouble fails
  asks_keep files Tells o status (inr (settings, read, by)) asked =
      desk_keeps {Does = AsksBy Tells settings o status} files.db.now Ask o.errors_after settings
      (λ printed old new does. none_served) by
      (λ printed L new does found may.
      question_keeps settings L new found (asked settings L does.0 new does.1) may)

  takings_keep : (files : Files) (from to : List ℕ) (o : Outlets)
      (status : ℕ) (prints : PrintsTakingsFrom place files from to o status)
      → TakingsKeeps place files from to o status prints
  takings_keep files from to o status (inl usage) = tt
  takings_keep files from to o status (inr (range, days, asks)) =
      asks_keep files (λ settings. PrintsTakingsOver settings.zone range) o status asks
      (λ settings L printout new tells. takings_ask settings.zone range L printout new tells)

  answered_keeps : (wire : Wire) (errors errors_after : Option (List ℕ)) (moment : ℕ) (seed : List ℕ)
      (db : Option (Bor (List ℕ))) (settings : SettingsValue) (status : ℕ)
      (answered : IsAnswered place wire errors errors_after moment seed db settings status)
      → AnsweredKeeps place wire errors errors_after moment seed db settings status answered
  answered_keeps wire errors errors_after moment seed None settings status answered = tt
  answered_keeps wire errors errors_after moment seed (Some path) settings status (inl by) =
      desk_keeps {Does = AnswersBy wire errors moment seed settings status} path.now
      Answer errors_after settings
      (λ printed old new does. served_in_exchange wire moment seed
      (λ arrivals responses. ServesInOrder settings old arrivals responses new) does.1.0 does.1.1)
      by
      (λ printed L new does found may. run_keeps settings L (served_in_exchange wire moment seed
      (λ arrivals responses. ServesInOrder settings (running L) arrivals responses new) does.1.0 does.1.1)
      new found (exchange_ran settings wire moment seed (running L) new does.1.0 does.1.1) may)
  answered_keeps wire errors errors_after moment seed (Some path) settings status (inr (
    trouble,
    names,
    fails,
    ends,
  )) =
      answer_fails_keep path.now trouble fails

  answer_keeps : (wire : Wire) (errors errors_after : Option (List ℕ)) (request : AnswerOptions) (status : ℕ)
      (answers : EndsAnswer place wire errors errors_after request status)
      → AnswerKeeps place wire errors errors_after request status answers
  answer_keeps wire errors errors_after request status (inl usage) = tt
  answer_keeps wire errors errors_after request status (inr (within, inl unread)) = tt
  answer_keeps wire errors errors_after request status (inr (
    within,
    inr (bytes, settings, decodes, sample, read, answered),
  )) =
      answered_keeps wire errors errors_after request.now bytes request.db settings status answered

  module _ (network : NetworkValue) where
    serving_keeps : (files : Files) (port count : ℕ) (o : Outlets) (status : ℕ)
        (serves : EndsServing place files network port count o status)
        → ServingKeeps place network files port count o status serves
    serving_keeps files port count o status (inl usage) = tt
    serving_keeps files port count o status (inr (fits, inl (trouble, fails, ends))) =
        fails_keep files Serve trouble fails
    serving_keeps files port count o status (inr (fits, inr (settings, read, runs, by))) =
        let at : ServeOptions = record { port = port; count = count } in
        desk_keeps files.db.now Serve o.errors_after settings
        (λ printed old new does. served_at network (record { port = port; count = count }) settings
        (record o { errors_after = printed }) status old new does)
        by
        (λ printed L new does found may. run_keeps settings L
        (served_at network at settings (record o { errors_after = printed }) status (running L) new does)
        new found
        (at_ran settings network at (record o { errors_after = printed }) status (running L) new does) may)

    order_keeps : (wire : Wire) (errors errors_after : Option (List ℕ)) (given : Order) (status : ℕ)
        (ended : EndsOrder place network wire errors errors_after given status)
        → OrderKeeps place network wire errors errors_after given status ended
    order_keeps wire errors errors_after (order.Serve db settings port count) status (kept, serves) =
        serving_keeps (files_of db settings) port count (outlets_of wire errors errors_after) status serves
    order_keeps wire errors errors_after (order.Answer db settings now seed) status answers =
        answer_keeps wire errors errors_after
        (record { db = db; settings = settings; now = now; seed = seed }) status answers
    order_keeps wire errors errors_after (order.Print db settings batch) status (kept, asks) =
        asks_keep (files_of db settings) (λ s. PrintsBatch s.zone batch.now)
        (outlets_of wire errors errors_after) status asks
        (λ s L printout new tells. batch_asks s.zone batch.now L printout new tells)
    order_keeps wire errors errors_after (order.Takings db settings from to) status (kept, asks) =
        takings_keep (files_of db settings) from.now to.now (outlets_of wire errors errors_after) status asks
    order_keeps wire errors errors_after (order.Check db settings) status (kept, asks, rightly) =
        asks_keep (files_of db settings) (λ s. ChecksCounters)
        (outlets_of wire errors errors_after) status asks
        (λ s L printout new tells. counters_ask L printout new tells)

    program_keeps : (wire : Wire) (errors errors_after : Option (List ℕ)) (words : List (List ℕ)) (status : ℕ)
        (ran : EndsProgram place network wire errors errors_after words status)
        → ProgramKeeps place network wire errors errors_after words status ran
    program_keeps wire errors errors_after words status (Ok given, (gives, ended)) =
        order_keeps wire errors errors_after given status ended
    program_keeps wire errors errors_after words status (Err printout, printed) = tt

    pub runs_keep : RunsKeep place network
    runs_keep wire errors errors_after words status ran =
        program_keeps wire errors errors_after words status ran
