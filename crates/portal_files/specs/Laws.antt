-- What the files determine.
use Rattle.std.specs.Prelude.{◌≡◌, ◌↔◌, ℕ, ℤ, List}
use Rattle.jiff.specs.Placed.{IsPosixZone}
use Rattle.jiff_tz.specs.declared.timezone.TimeZone.{TimeZone}
use Rattle.portal_model.specs.declared.plan.Plan.{Plan}
use Rattle.portal_model.specs.declared.takings.DayTakings.{DayTakings}
use Rattle.portal_files.specs.declared.sheet.BatchSheet.{BatchSheet}
use Rattle.portal_files.specs.PlansFile.{IsPlansFile}
use Rattle.portal_files.specs.SettingsFile.{SettingsValue, IsSettingsFile}
use Rattle.portal_files.specs.DayText.{IsDayText}
use Rattle.portal_files.specs.PrintFile.{IsPrintFile}
use Rattle.portal_files.specs.Report.{IsReport}

-- the bytes determine the plans
abbrev pub FixesPlans : Type 0
FixesPlans = (bytes : List ℕ) (ps qs : List Plan) → IsPlansFile bytes ps → IsPlansFile bytes qs → ps ≡ qs

-- The same texts, and zones of one rule.
pub record SameSettings (s t : SettingsValue) : Type 0 where
  pub rule : List ℕ
  pub first_zone : IsPosixZone rule s.zone
  pub second_zone : IsPosixZone rule t.zone
  pub portal_url : s.portal_url ≡ t.portal_url
  pub venue_url : s.venue_url ≡ t.venue_url
  pub desk_token : s.desk_token ≡ t.desk_token
  pub gateway_token : s.gateway_token ≡ t.gateway_token

-- the bytes determine the texts of the settings, and the rule of their zone
abbrev pub FixesSettings : Type 0
FixesSettings = (bytes : List ℕ) (s t : SettingsValue) → IsSettingsFile bytes s
    → IsSettingsFile bytes t → SameSettings s t

-- a day has one text, and a text is of one day
abbrev pub NamesDays : Type 0
NamesDays = (text later : List ℕ) (day next : ℤ) → IsDayText text day → IsDayText later next
    → (text ≡ later) ↔ (day ≡ next)

-- the zone and the sheet determine the print file
abbrev pub FixesPrintFile : Type 0
FixesPrintFile = (zone : TimeZone) (sheet : BatchSheet) (one other : List ℕ) → IsPrintFile zone sheet one
    → IsPrintFile zone sheet other → one ≡ other

-- the takings determine the report
abbrev pub FixesReport : Type 0
FixesReport = (days : List DayTakings) (one other : List ℕ) → IsReport days one → IsReport days other
    → one ≡ other
