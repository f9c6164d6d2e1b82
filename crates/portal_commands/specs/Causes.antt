-- The words of the causes that are told after the line of an error. Those of a settings file and of a command
-- line are fixed, but for the number of a line: no value that is in a file or on a command line is in them.
use Rattle.std.specs.Prelude.{ℕ, List, ◌++◌, codes, decimal}
use Rattle.portal_files.specs.SettingsFault.{name_of}
use Rattle.portal_files.specs.declared.settings_fault.SettingsKey.{SettingsKey}
use Rattle.portal_files.specs.declared.settings_fault.SettingsKey.TheVariants as key
use Rattle.portal_files.specs.declared.settings_fault.SettingsFault.{SettingsFault}
use Rattle.portal_files.specs.declared.settings_fault.SettingsFault.TheVariants.{NotToml, Missing, Wrong}
use Rattle.portal_files.specs.declared.settings_fault.SettingsFault.TheVariants.{FurtherKey, SameTokens}
use Rattle.portal_commands.specs.declared.causes.UsageFault.{UsageFault}
use Rattle.portal_commands.specs.declared.causes.UsageFault.TheVariants.{Arguments, Port, Now, Seed, From, To}
use Rattle.portal_commands.specs.declared.causes.UsageFault.TheVariants.{Days}

-- What the value of a key has to be.
abbrev pub rule_of : SettingsKey → List ℕ
rule_of key.Zone =
    codes
    "a POSIX TZ rule of 1 to 64 bytes, such as CET-1CEST,M3.5.0,M10.5.0/3, which is the last line of /usr/share/zoneinfo/Europe/Berlin"
rule_of key.PortalUrl = codes "a URL that begins with https:// and has 9 to 2048 bytes of visible ASCII"
rule_of key.VenueUrl = codes "a URL that begins with https:// and has 9 to 2048 bytes of visible ASCII"
rule_of key.DeskToken = codes "a text of 8 to 128 bytes of visible ASCII"
rule_of key.GatewayToken = codes "a text of 8 to 128 bytes of visible ASCII"

-- What is wrong with a settings file.
abbrev pub settings_text : SettingsFault → List ℕ
settings_text (NotToml line) =
    codes "line "
    ++ (decimal line ++ codes " is not TOML in UTF-8: a line is KEY = \"VALUE\", and no key occurs twice")
settings_text (Missing key) = name_of key ++ codes " is missing"
settings_text (Wrong key) = name_of key ++ (codes " is not " ++ rule_of key)
settings_text FurtherKey =
    codes "there is a key other than zone, portal_url, venue_url, desk_token and gateway_token"
settings_text SameTokens = codes "desk_token and gateway_token are the same"

-- The name of a port.
abbrev pub port_text : ℕ → List ℕ
port_text port = codes "port " ++ decimal port

-- The option or the arguments whose value is out of its range.
abbrev pub option_of : UsageFault → List ℕ
option_of Arguments = codes "arguments"
option_of Port = codes "--port"
option_of Now = codes "--now"
option_of Seed = codes "--seed"
option_of From = codes "FROM"
option_of To = codes "TO"
option_of Days = codes "FROM and TO"

-- The range of the values that it may have.
abbrev pub range_of : UsageFault → List ℕ
range_of Arguments = codes "text in UTF-8"
range_of Port = codes "1 to 65535"
range_of Now = codes "0 to 253370764799"
range_of Seed = codes "64 hexadecimal digits"
range_of From = codes "a date as YYYY-MM-DD, of the years 1969 to 9999"
range_of To = codes "a date as YYYY-MM-DD, of the years 1969 to 9999"
range_of Days = codes "the first and the last of 1 to 366 days"
