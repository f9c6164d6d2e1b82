-- What the program does, by the arguments of its command line.
use Rattle.std.specs.Prelude.{◌≡◌, ◌⊎◌, ◌<◌, ◌≤◌, ℕ, List, Option, Result, Err, MatchResult, string_bytes}
use Rattle.std.specs.declared.io.ErrorKind.{ErrorKind}
use Rattle.std.specs.declared.io.ErrorKind.TheVariants.{InvalidData}
use Rattle.std.specs.Borrow.{Bor}
use Rattle.std.specs.Io.KnownBytes.{Keeps}
use Rattle.portal_commands.specs.declared.order.Order.{Order}
use Rattle.portal_commands.specs.declared.order.Order.TheVariants as order
use Rattle.portal_commands.specs.declared.order.NoOrder.{NoOrder}
use Rattle.portal_commands.specs.declared.order.NoOrder.TheVariants as printout
use Rattle.portal_commands.specs.Orders.{GivesOrder, GivesNoOrder}
use Rattle.portal_commands.specs.Version.{version_line}
use Rattle.portal_server.specs.declared.error.ProgramError.{ProgramError}
use Rattle.portal_server.specs.declared.error.ProgramError.TheVariants.{Usage, NoMemory}
use Rattle.portal_server.specs.Ends.{EndsPrinting, EndsWith}
use Rattle.portal_server.specs.Streams.{Outlets, Prints}
use Rattle.portal_http.specs.Exchanges.{Wire}
use Rattle.portal_commands.specs.Answering.{EndsAnswer}
use Rattle.portal_commands.specs.declared.place.Files.{Files}
use Rattle.portal_commands.specs.Asking.{AsksOver, AsksRightly, PrintsBatch, PrintsTakingsFrom}
use Rattle.portal_commands.specs.Asking.{ChecksCounters}
use Rattle.portal_commands.specs.declared.asking.DeskQuestion.TheVariants.{Counters}
use Rattle.portal_commands.specs.Places.{IsForMemory, PlaceValue}
use Rattle.portal_commands.specs.Serving.{NetworkValue, ServesOver}
use Rattle.portal_commands.specs.declared.causes.UsageFault.TheVariants.{Arguments, Port}
use Rattle.portal_commands.specs.declared.trouble.Trouble.{Trouble}
use Rattle.portal_commands.specs.Troubles.{EndsTrouble, EndsUsage, IsOutOfRange}

-- Why the arguments could not be copied: one is not UTF-8, or out of memory.
abbrev pub error_of_words : ErrorKind → ProgramError
error_of_words InvalidData = Usage
error_of_words _ = NoMemory

-- An error of copying the arguments.
abbrev pub IsOfWords : Trouble → Type 0
IsOfWords trouble = IsOutOfRange Arguments trouble ⊎ IsForMemory trouble

-- The exit code is 0 for help and the version, 2 for an invalid command line, and 3 for out of memory.
abbrev pub EndsPrintingText : NoOrder → Outlets → ℕ → Type 0
EndsPrintingText (printout.Help text) o status = EndsPrinting (string_bytes text) 0 o status
EndsPrintingText printout.Version o status = EndsPrinting version_line 0 o status
EndsPrintingText (printout.Invalid text) o status =
    (status ≡ 2) × Keeps o.output o.output_after × Prints o.errors o.errors_after (string_bytes text)
EndsPrintingText printout.NoMemory o status = EndsWith (Err NoMemory) o status

-- Serving at a port; a port past 65,535 is an invalid command line.
abbrev pub EndsServing : PlaceValue → Files → NetworkValue → ℕ → ℕ → Outlets → ℕ → Type 0
EndsServing place files network port count o status =
    ((65535 < port) × EndsUsage Port o status)
    ⊎ ((port ≤ 65535) × ServesOver place files network (record { port = port; count = count }) o status)

-- Where standard output and standard error go.
abbrev pub outlets_of : Wire → Option (List ℕ) → Option (List ℕ) → Outlets
outlets_of wire errors errors_after = record {
  output = wire.sent;
  output_after = wire.sent_after;
  errors = errors;
  errors_after = errors_after;
}

-- The files that an order names.
abbrev pub files_of : Bor (List ℕ) → Bor (List ℕ) → Files
files_of db settings = record { db = db; settings = settings }

-- An order is carried out over the files of a place. Only `answer` reads the input.
abbrev pub EndsOrder : PlaceValue → NetworkValue → Wire → Option (List ℕ)
    → Option (List ℕ) → Order → ℕ → Type 0
EndsOrder place network wire errors errors_after (order.Serve db settings port count) status =
    Keeps wire.unread wire.unread_after
    × EndsServing place (files_of db settings) network port count (outlets_of wire errors errors_after) status
EndsOrder place network wire errors errors_after (order.Answer db settings now seed) status =
    EndsAnswer place wire errors errors_after
    (record { db = db; settings = settings; now = now; seed = seed }) status
EndsOrder place network wire errors errors_after (order.Print db settings batch) status =
    Keeps wire.unread wire.unread_after
    × AsksOver place (files_of db settings) (λ s. PrintsBatch s.zone batch.now)
    (outlets_of wire errors errors_after) status
EndsOrder place network wire errors errors_after (order.Takings db settings from to) status =
    Keeps wire.unread wire.unread_after
    × PrintsTakingsFrom place (files_of db settings) from.now to.now
    (outlets_of wire errors errors_after) status
EndsOrder place network wire errors errors_after (order.Check db settings) status =
    Keeps wire.unread wire.unread_after
    × AsksOver place (files_of db settings) (λ s. ChecksCounters) (outlets_of wire errors errors_after) status
    × AsksRightly place (files_of db settings) Counters (outlets_of wire errors errors_after) status

-- The order of the command line is carried out; or it gives no order, and what is printed instead leaves the
-- input alone.
abbrev pub EndsProgram : PlaceValue → NetworkValue → Wire → Option (List ℕ) → Option (List ℕ)
    → List (List ℕ) → ℕ → Type 0
EndsProgram place network wire errors errors_after words status =
    (read : Result Order NoOrder) × MatchResult read
    (λ order. GivesOrder words order × EndsOrder place network wire errors errors_after order status)
    (λ printout. GivesNoOrder words printout × Keeps wire.unread wire.unread_after
    × EndsPrintingText printout (outlets_of wire errors errors_after) status)

-- The program is run with the arguments of the process; or they could not be copied, which is printed, and
-- the input is left alone.
abbrev pub EndsMain : PlaceValue → NetworkValue → Wire → Option (List ℕ) → Option (List ℕ) → ℕ → Type 0
EndsMain place network wire errors errors_after status =
    ((words : List (List ℕ)) × EndsProgram place network wire errors errors_after words status)
    ⊎ ((trouble : Trouble) × IsOfWords trouble × Keeps wire.unread wire.unread_after
    × EndsTrouble trouble (outlets_of wire errors errors_after) status)
