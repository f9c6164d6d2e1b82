-- The texts of settings, as they are in a table.
use Rattle.std.specs.Prelude.{option_map}
use Rattle.jiff.specs.ZoneView.{plain_zone}
use Rattle.portal_files.specs.SettingsFile.{SettingsValue}
use Rattle.portal_files.specs.declared.settings_file.Texts.{Texts}

-- the settings that they make
abbrev pub settings_of : Texts → SettingsValue
settings_of t = record {
  zone = plain_zone t.zone;
  portal_url = t.portal_url.now;
  venue_url = option_map (λ u. u.now) t.venue_url;
  desk_token = t.desk_token.now;
  gateway_token = t.gateway_token.now;
}
