-- The sample text is a settings file: what it says, and the zone of its rule.
use Rattle.portal_files.proofs.Common.{◌≡◌, ℕ, pos, List, [], ◌∷◌, codes, Some, None, refl, arith, lit≤, ints}
use Rattle.portal_files.proofs.Common.{IsOffsetSeconds, read_whole, tz_view, Posix, SettingsValue, IsZoneAt}
use Rattle.portal_files.proofs.Common.{IsSettingsTable, IsSettingsFile}
use Rattle.jiff_tz.proofs.OnLiterals.{jiff_tz_on_literals}
use Rattle.std.specs.Str.{IsUtf8, is_utf8, chars}
use Rattle.std.proofs.lemmas.Str.{IsUtf8-from_is_utf8}
use lib.Utf8.{encode}
use Rattle.jiff_core.specs.declared.offset.Offset.{Offset}
use Rattle.jiff_tz.specs.declared.abbreviation.Abbreviation.{Abbreviation}
use Rattle.jiff_tz.specs.declared.posix.TimeZone.{TimeZone as Rule}
use Rattle.portal_files.specs.declared.fault.FileFault.{FileFault}
use Rattle.portal_files.specs.declared.fault.FileFault.TheVariants.{Bad, Memory}
use Rattle.portal_files.proofs.SampleText.{sample_text, sample_members, sample_document}

abbrev pub utc_bytes : List ℕ
utc_bytes = 85 ∷ 84 ∷ 67 ∷ 0 ∷ 0 ∷ 0 ∷ 0 ∷ 0 ∷ 0 ∷ 0 ∷ 0 ∷ 0 ∷ 0 ∷ 0 ∷ 0 ∷ []

pub utc-utf8 : IsUtf8 (codes "UTC")
unfolding is_utf8 chars encode
utc-utf8 = IsUtf8-from_is_utf8 (codes "UTC") refl

abbrev pub utc_name : Abbreviation
utc_name = record { bytes = utc_bytes; len = 3; fits = lit≤ tt; text = ∣ utc-utf8 ∣₁ }

pub no-offset : IsOffsetSeconds (pos 0)
no-offset = omega (arith, ints)

abbrev pub utc_offset : Offset
utc_offset = record { seconds = pos 0; in_range = no-offset }

abbrev pub utc_rule : Rule
utc_rule = record { std_abbrev = utc_name; std_offset = utc_offset; dst = None }

utc-reads : read_whole (codes "UTC0") ≡ Some (tz_view utc_rule)
unfolding jiff_tz_on_literals
utc-reads = refl

sample-utf8 : IsUtf8 sample_text
unfolding is_utf8 chars encode
sample-utf8 = IsUtf8-from_is_utf8 sample_text refl

abbrev pub sample_value : SettingsValue
sample_value = record {
  zone = Posix utc_rule;
  portal_url = codes "https://wifi.example/portal";
  venue_url = None;
  desk_token = codes "desk-token";
  gateway_token = codes "gate-token";
}

sample-zone : IsZoneAt sample_members (Posix utc_rule)
sample-zone = record { text = codes "UTC0"; found = refl; least = lit≤ tt; most = lit≤ tt; read = utc-reads }

sample-table : IsSettingsTable sample_members sample_value
sample-table = record {
  count = refl;
  zone = sample-zone;
  portal_url = record { found = refl; good = refl };
  venue_url = refl;
  desk_token = record { found = refl; good = refl };
  gateway_token = record { found = refl; good = refl };
  differ = refl;
}

pub sample-file : IsSettingsFile sample_text sample_value
sample-file =
    record { members = sample_members; utf8 = sample-utf8; document = sample_document; table = sample-table }

pub only-memory : (e : FileFault) → (e ≡ Bad → ⊥) → e ≡ Memory
only-memory Bad differs = absurd (differs refl)
only-memory Memory differs = refl
