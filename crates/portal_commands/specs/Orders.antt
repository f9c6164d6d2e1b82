-- The order that the arguments of a command line give, and what is printed if they give none.
use Rattle.std.specs.Prelude.{◌≡◌, ◌≢◌, ◌⊎◌, ◌^◌, ◌<◌, ℕ, List, [], Option, Some, None, MatchOption}
use Rattle.std.specs.Prelude.{option_map, codes, ⊤}
use Rattle.std.specs.Borrow.{Bor}
use Rattle.std.specs.Str.Parse.{IsNumeral, digits_value, without_leading_plus}
use Rattle.clap.specs.Words.{IsAmong, Row, Text, fault_of, first_of, one_of, subcommand_of}
use Rattle.clap.specs.declared.error.kind.ErrorKind.{ErrorKind}
use Rattle.clap.specs.declared.error.kind.ErrorKind.TheVariants.{DisplayHelp, DisplayVersion, OutOfMemory}
use Rattle.portal_commands.specs.declared.order.Order.{Order}
use Rattle.portal_commands.specs.declared.order.Order.TheVariants.{Serve, Answer, Print, Takings, Check}
use Rattle.portal_commands.specs.declared.order.NoOrder.{NoOrder}
use Rattle.portal_commands.specs.declared.order.NoOrder.TheVariants.{Help, Version, Invalid, NoMemory}
use Rattle.portal_commands.specs.CommandLine.{command_line}

-- The text writes the number in decimal digits, with or without a plus sign before them, and it is below
-- 2^64.
abbrev pub WritesNumber : Text → ℕ → Type 0
WritesNumber text n =
    let digits = without_leading_plus text in
    IsNumeral 10 digits × (digits_value 10 digits < 2 ^ 64) × (n ≡ digits_value 10 digits)

-- The option was given that number.
abbrev pub GivesNumber : Text → List Row → ℕ → Type 0
GivesNumber name rows n = (text : Text) × (one_of name rows ≡ Some text) × WritesNumber text n

-- The option was given that text.
abbrev pub GivesText : Text → List Row → Bor Text → Type 0
GivesText name rows text = first_of name rows ≡ Some text.now

-- The option was given that text, or left out.
abbrev pub MayGive : Text → List Row → Option (Bor Text) → Type 0
MayGive name rows given = option_map (λ text. text.now) given ≡ first_of name rows

-- The two files were given.
abbrev pub GivesFiles : List Row → Bor Text → Bor Text → Type 0
GivesFiles rows db settings = GivesText (codes "db") rows db × GivesText (codes "settings") rows settings

-- ---- the order of each subcommand, by what was found for its options

abbrev pub IsServeOrder : List Row → Order → Type 0
IsServeOrder rows (Serve db settings port count) =
    GivesFiles rows db settings × GivesNumber (codes "port") rows port
    × GivesNumber (codes "count") rows count
IsServeOrder rows _ = ⊥

abbrev pub IsAnswerOrder : List Row → Order → Type 0
IsAnswerOrder rows (Answer db settings now seed) =
    MayGive (codes "db") rows db × MayGive (codes "settings") rows settings
    × GivesNumber (codes "now") rows now × GivesText (codes "seed") rows seed
IsAnswerOrder rows _ = ⊥

abbrev pub IsPrintOrder : List Row → Order → Type 0
IsPrintOrder rows (Print db settings batch) =
    GivesFiles rows db settings × GivesText (codes "batch") rows batch
IsPrintOrder rows _ = ⊥

abbrev pub IsTakingsOrder : List Row → Order → Type 0
IsTakingsOrder rows (Takings db settings from to) =
    GivesFiles rows db settings × GivesText (codes "from") rows from × GivesText (codes "to") rows to
IsTakingsOrder rows _ = ⊥

abbrev pub IsCheckOrder : List Row → Order → Type 0
IsCheckOrder rows (Check db settings) = GivesFiles rows db settings
IsCheckOrder rows _ = ⊥

-- No order is one of that kind.
abbrev pub IsNone : (List Row → Order → Type 0) → List Row → Type 0
IsNone Is rows = (order : Order) → ¬ (Is rows order)

-- The result is an order of that kind, or none if there is none.
abbrev pub FindsOrder : (List Row → Order → Type 0) → List Row → Option Order → Type 0
FindsOrder Is rows result = MatchOption result (IsNone Is rows) (Is rows)

-- The order of a subcommand, by its name and what was found for its options.
abbrev pub IsOrder : Option (Text × List Row) → Order → Type 0
IsOrder None order = ⊥
IsOrder (Some found) order =
    ((found.0 ≡ codes "serve") × IsServeOrder found.1 order)
    ⊎ (((found.0 ≡ codes "answer") × IsAnswerOrder found.1 order)
    ⊎ (((found.0 ≡ codes "print") × IsPrintOrder found.1 order)
    ⊎ (((found.0 ≡ codes "takings") × IsTakingsOrder found.1 order)
    ⊎ ((found.0 ≡ codes "check") × IsCheckOrder found.1 order))))

-- The arguments give no order.
abbrev pub IsNoOrder : Option (Text × List Row) → Type 0
IsNoOrder found = (order : Order) → ¬ (IsOrder found order)

-- The result is the order of a subcommand, or none if it gives none.
abbrev pub FindsNamed : Option (Text × List Row) → Option Order → Type 0
FindsNamed found result = MatchOption result (IsNoOrder found) (IsOrder found)

-- The command line is valid, and gives that order.
abbrev pub GivesOrder : List Text → Order → Type 0
GivesOrder words order = (fault_of command_line words ≡ []) × IsOrder (subcommand_of command_line words) order

-- Help, or the version, if that is the first thing that the arguments ask for; a message if something else
-- is, or if they give no order. Out of memory is possible for any arguments.
abbrev pub GivesNoOrder : List Text → NoOrder → Type 0
GivesNoOrder words NoMemory = ⊤
GivesNoOrder words (Help text) = IsAmong DisplayHelp (fault_of command_line words)
GivesNoOrder words Version = IsAmong DisplayVersion (fault_of command_line words)
GivesNoOrder words (Invalid text) =
    ((kind : ErrorKind) × IsAmong kind (fault_of command_line words) × (kind ≢ DisplayHelp)
    × (kind ≢ DisplayVersion))
    ⊎ IsNoOrder (subcommand_of command_line words)

-- What is printed for an error of clap of that kind.
abbrev pub GivesKind : ErrorKind → NoOrder → Type 0
GivesKind kind NoMemory = ⊤
GivesKind kind (Help text) = kind ≡ DisplayHelp
GivesKind kind Version = kind ≡ DisplayVersion
GivesKind kind (Invalid text) = (kind ≢ DisplayHelp) × (kind ≢ DisplayVersion) × (kind ≢ OutOfMemory)

-- A message, or out of memory.
abbrev pub IsNoHelp : NoOrder → Type 0
IsNoHelp NoMemory = ⊤
IsNoHelp (Help text) = ⊥
IsNoHelp Version = ⊥
IsNoHelp (Invalid text) = ⊤
