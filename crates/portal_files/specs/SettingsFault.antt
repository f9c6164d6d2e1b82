-- What is wrong with a file that is no settings file.
use Rattle.std.specs.Prelude.{◌≡◌, ◌≢◌, ℕ, ◌+◌, ◌≤◌, ◌==◌, List, length, take, count_by, codes, IsUtf8}
use Rattle.std.specs.Prelude.{Option, Some, None}
use Rattle.jiff_tz.specs.declared.timezone.TimeZone.{TimeZone}
use Rattle.toml.specs.Data.{Members, get_member}
use Rattle.toml.specs.Parse.{parse_document}
use Rattle.portal_files.specs.PlansFile.{member_count}
use Rattle.portal_files.specs.SettingsFile.{is_url, is_token, key_count, IsTextAt, IsVenueAt, IsZoneAt}
use Rattle.portal_files.specs.declared.settings_fault.SettingsKey.{SettingsKey}
use Rattle.portal_files.specs.declared.settings_fault.SettingsKey.TheVariants.{Zone, PortalUrl, VenueUrl}
use Rattle.portal_files.specs.declared.settings_fault.SettingsKey.TheVariants.{DeskToken, GatewayToken}
use Rattle.portal_files.specs.declared.settings_fault.SettingsFault.{SettingsFault}
use Rattle.portal_files.specs.declared.settings_fault.SettingsFault.TheVariants.{NotToml, Missing, Wrong}
use Rattle.portal_files.specs.declared.settings_fault.SettingsFault.TheVariants.{FurtherKey, SameTokens}

-- the name of a key in the file
abbrev pub name_of : SettingsKey → List ℕ
name_of Zone = codes "zone"
name_of PortalUrl = codes "portal_url"
name_of VenueUrl = codes "venue_url"
name_of DeskToken = codes "desk_token"
name_of GatewayToken = codes "gateway_token"

-- A key has no value that it may have. Only `venue_url` may be left out.
abbrev pub IsWrongAt : Members → SettingsKey → Type 0
IsWrongAt ms Zone = (zone : TimeZone) → ¬ IsZoneAt ms zone
IsWrongAt ms PortalUrl = (url : List ℕ) → ¬ IsTextAt is_url (codes "portal_url") ms url
IsWrongAt ms VenueUrl = (url : Option (List ℕ)) → ¬ IsVenueAt ms url
IsWrongAt ms DeskToken = (token : List ℕ) → ¬ IsTextAt is_token (codes "desk_token") ms token
IsWrongAt ms GatewayToken = (token : List ℕ) → ¬ IsTextAt is_token (codes "gateway_token") ms token

-- The table has this fault. The last two are told only of a table in which no key is wrong.
abbrev pub IsTableFault : Members → SettingsFault → Type 0
IsTableFault ms (NotToml line) = ⊥
IsTableFault ms (Missing key) = IsWrongAt ms key × (get_member (name_of key) ms ≡ None)
IsTableFault ms (Wrong key) = IsWrongAt ms key × (get_member (name_of key) ms ≢ None)
IsTableFault ms FurtherKey =
    ((key : SettingsKey) → ¬ IsWrongAt ms key)
    × (url : Option (List ℕ)) × IsVenueAt ms url × (member_count ms ≢ key_count url)
IsTableFault ms SameTokens =
    (token : List ℕ) × IsTextAt is_token (codes "desk_token") ms token
    × IsTextAt is_token (codes "gateway_token") ms token

-- the line of a place in a file, counted from 1
abbrev pub line_at : ℕ → List ℕ → ℕ
line_at place bytes = count_by (λ byte. byte == 10) (take place bytes) + 1

-- The file has this fault: it is no TOML in UTF-8, and the line is that of a place in it; or it is, and its
-- table has the fault.
abbrev pub IsSettingsFault : List ℕ → SettingsFault → Type 0
IsSettingsFault bytes (NotToml line) =
    (IsUtf8 bytes → parse_document bytes ≡ None) × (place : ℕ) × (place ≤ length bytes)
    × (line ≡ line_at place bytes)
IsSettingsFault bytes fault =
    (ms : Members) × IsUtf8 bytes × (parse_document bytes ≡ Some ms) × IsTableFault ms fault
