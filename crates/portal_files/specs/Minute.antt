-- The local time of a moment in a zone, to the minute.
use Rattle.std.specs.Prelude.{◌≡◌, ℕ, List, ◌∷◌, ◌++◌}
use Rattle.jiff_tz.specs.declared.timezone.TimeZone.{TimeZone}
use Rattle.jiff_core.specs.declared.civil.datetime.DateTime.{DateTime}
use Rattle.jiff.specs.Words.{civil_seconds, date_text}
use Rattle.portal_files.specs.LocalDay.{local_seconds}
use Rattle.portal_files.specs.Amount.{two_digits}

-- `YYYY-MM-DD HH:MM`
abbrev pub minute_text : DateTime → List ℕ
minute_text at = date_text at.date ++ 32 ∷ (two_digits at.time.hour ++ 58 ∷ two_digits at.time.minute)

-- The local time in the zone at the moment; the seconds are cut off.
pub record IsMinuteText (zone : TimeZone) (t : ℕ) (text : List ℕ) : Type 0 where
  pub at : DateTime
  pub shown : civil_seconds at ≡ local_seconds zone t
  pub text_is : text ≡ minute_text at
