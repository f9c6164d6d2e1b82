-- What is printed about an error and its cause.
use Rattle.std.specs.Prelude.{◌≡◌, ◌≢◌, ℕ, List, ◌++◌, codes, All, Option, MatchOption, ⊤, string_bytes}
use Rattle.std.specs.Io.KnownBytes.{Keeps}
use Rattle.portal_server.specs.declared.error.ProgramError.TheVariants.{File, Network, Usage}
use Rattle.portal_server.specs.Errors.{line_of, exit_code_of}
use Rattle.portal_server.specs.Streams.{Outlets, Prints}
use Rattle.portal_files.specs.SettingsFault.{IsSettingsFault}
use Rattle.portal_files.specs.declared.settings_fault.SettingsFault.{SettingsFault}
use Rattle.portal_commands.specs.declared.causes.UsageFault.{UsageFault}
use Rattle.portal_commands.specs.declared.trouble.Trouble.{Trouble}
use Rattle.portal_commands.specs.Causes.{option_of, port_text, range_of, settings_text}

-- The line that may follow that of an error: what it is about, and the cause.
unfoldable pub second_line : List ℕ → List ℕ → List ℕ
second_line subject text = codes "  " ++ (subject ++ (codes ": " ++ (text ++ codes "\n")))

-- No line feed.
abbrev pub IsOneLine : List ℕ → Type 0
IsOneLine text = All (λ byte. byte ≢ 10) text

-- A second line is one line, follows that of `file`, and names the path.
abbrev pub NamesPath : List ℕ → Trouble → Type 0
NamesPath path trouble = MatchOption trouble.line ⊤
    (λ line. (trouble.error ≡ File) × (text : List ℕ) × IsOneLine path × IsOneLine text
    × (string_bytes line ≡ second_line path text))

-- A second line names the settings file, and a fault of these bytes.
abbrev pub TellsFault : List ℕ → List ℕ → Trouble → Type 0
TellsFault path bytes trouble = MatchOption trouble.line ⊤
    (λ line. (fault : SettingsFault) × IsSettingsFault bytes fault × IsOneLine path
    × (string_bytes line ≡ second_line path (settings_text fault)))

-- A port cannot be bound; a second line is one line, and names the port.
abbrev pub IsUnbound : ℕ → Trouble → Type 0
IsUnbound port trouble = (trouble.error ≡ Network) × MatchOption trouble.line ⊤
    (λ line. (text : List ℕ) × IsOneLine text × (string_bytes line ≡ second_line (port_text port) text))

-- A value on the command line is out of its range; a second line names its option and the range.
abbrev pub IsOutOfRange : UsageFault → Trouble → Type 0
IsOutOfRange fault trouble = (trouble.error ≡ Usage) × MatchOption trouble.line ⊤
    (λ line. string_bytes line ≡ second_line (option_of fault) (range_of fault))

-- The line of the error is printed, and the second line, if there is one.
abbrev pub Reports : Trouble → Option (List ℕ) → Option (List ℕ) → Type 0
Reports trouble printed printed_after =
    (between : Option (List ℕ)) × Prints printed between (line_of trouble.error)
    × MatchOption trouble.line (Keeps between printed_after)
    (λ line. Prints between printed_after (string_bytes line))

-- Both lines are printed, and the exit code is that of the error.
abbrev pub EndsTrouble : Trouble → Outlets → ℕ → Type 0
EndsTrouble trouble o status =
    (status ≡ exit_code_of trouble.error) × Keeps o.output o.output_after
    × Reports trouble o.errors o.errors_after

-- Both lines about a value out of its range are printed, and the exit code is 2.
abbrev pub EndsUsage : UsageFault → Outlets → ℕ → Type 0
EndsUsage fault o status = (trouble : Trouble) × IsOutOfRange fault trouble × EndsTrouble trouble o status
