-- Payments with their civil days.
use Rattle.std.specs.Prelude.{ℕ, ℤ, List, map}
use Rattle.jiff_tz.specs.declared.timezone.TimeZone.{TimeZone}
use Rattle.portal_files.specs.LocalDay.{local_day_of}

-- each payment's civil day in the zone, and its amount
abbrev pub paid_days : TimeZone → List (ℕ × ℕ) → List (ℤ × ℕ)
paid_days zone payments = map (λ p. (local_day_of zone p.0, p.1)) payments
