-- What the counter prints: the batch sheet, and the takings of days.
use Rattle.std.specs.Prelude.{ℕ, List, map, Option, option_map, option_and_then}
use Rattle.jiff_tz.specs.declared.timezone.TimeZone.{TimeZone}
use Rattle.portal_model.specs.Span.{Span, days_of}
use Rattle.portal_model.specs.declared.takings.DayTakings.{DayTakings}
use Rattle.portal_model.specs.declared.plan.Plan.{Plan}
use Rattle.portal_model.specs.declared.record.Batch.{Batch}
use Rattle.portal_model.specs.History.{History, plan_of, batch_of, codes_of}
use Rattle.portal_files.specs.declared.sheet.BatchSheet.{BatchSheet}
use Rattle.portal_files.specs.Takings.{takings_of}

-- a batch of that plan, with these codes
abbrev pub sheet_with : Batch → List (List ℕ) → Plan → BatchSheet
sheet_with batch codes plan = record { batch = batch; plan = plan; codes = codes }

-- the batch of that id, with its plan, and its codes in order of issue
abbrev pub sheet_of : History → List ℕ → Option BatchSheet
sheet_of H id = option_and_then
    (λ batch. option_map (sheet_with batch (codes_of H id)) (plan_of H batch.plan)) (batch_of H id)

-- the takings of each day of a range, in order, by the civil days of a zone
abbrev pub takings_over : TimeZone → History → Span → List DayTakings
takings_over zone H range = map (takings_of zone H) (days_of range)
