-- The local date.
use Rattle.portal_files.proofs.Common.{◌≡◌, ℕ, ◌<◌, ◌≤◌, ℤ, pos, negsuc, ◌+ℤ◌, ◌*ℤ◌, ◌≤ℤ◌, ◌<ℤ◌, arith, sym}
use Rattle.portal_files.proofs.Common.{◌∙◌, int_div_euclid, ints, IsOffsetSeconds, epoch_day, TimeZone, UTC}
use Rattle.portal_files.proofs.Common.{Unknown, Fixed, Posix, Tzif, IsDay, local_seconds, local_day_of}
use Rattle.jiff_tz.specs.Zone.{offset_at}
use Rattle.jiff_core.specs.Time.{time_seconds}
use Rattle.jiff_core.specs.declared.civil.time.Time.{Time}
use Rattle.jiff_core.specs.declared.civil.datetime.DateTime.{DateTime}
use Rattle.jiff_core.specs.DateTime.{civil_nanos, civil_seconds}
use Rattle.jiff.specs.Words.{nanos_of_seconds}
use Rattle.jiff.proofs.Family.{civil_nanos-civil_seconds}
use Rattle.jiff_tz.specs.PosixRule as PosixRule
use Rattle.jiff_tz.specs.Tzif as Table

pub offset-within : (zone : TimeZone) (n : ℤ) → IsOffsetSeconds (offset_at zone n)
unfolding offset_at
offset-within UTC n = omega (arith, ints)
offset-within Unknown n = omega (arith, ints)
offset-within (Fixed o) n = o.in_range
offset-within (Posix tz) n = (PosixRule.offset_at tz n).in_range
offset-within (Tzif z) n = (Table.offset_at z.now n).in_range

whole_seconds : (t off seconds : ℤ) (rest : ℕ) → rest < 1000000000
    → (seconds *ℤ pos 1000000000) +ℤ pos rest ≡ (t *ℤ pos 1000000000) +ℤ (off *ℤ pos 1000000000)
    → seconds ≡ t +ℤ off
whole_seconds t off seconds rest h e = omega (arith, ints)

-- the local time in a zone at a timestamp of whole seconds
pub shown-seconds : (zone place : TimeZone) (t : ℕ) (nanos : ℤ) (at : DateTime) → place ≡ zone
    → nanos ≡ pos t *ℤ pos 1000000000
    → civil_nanos at ≡ nanos +ℤ nanos_of_seconds (offset_at place nanos)
    → civil_seconds at ≡ local_seconds zone t
shown-seconds zone place t nanos at same is shown =
    let e = sym (civil_nanos-civil_seconds at) ∙ shown
    ∙ (λ i. is i +ℤ nanos_of_seconds (offset_at (same i) (is i))) in
    whole_seconds (pos t) (offset_at zone (pos t *ℤ pos 1000000000)) (civil_seconds at)
    at.time.subsec_nanosecond at.time.subsec_in e

whole_days : (z d : ℤ) → (d *ℤ pos 86400) ≤ℤ z → z <ℤ (d *ℤ pos 86400 +ℤ pos 86400)
    → int_div_euclid z (pos 86400) ≡ d
whole_days (pos a) (pos b) h k = omega (arith, ints)
whole_days (pos a) (negsuc b) h k = omega (arith, ints)
whole_days (negsuc a) (pos b) h k = omega (arith, ints)
whole_days (negsuc a) (negsuc b) h k = omega (arith, ints)

time_seconds-lt : (t : Time) → time_seconds t < 86400
time_seconds-lt t = omega (arith, t.hour_in, t.minute_in, t.second_in)

day_of-seconds : (z day : ℤ) (rest : ℕ) → rest < 86400 → z ≡ (day *ℤ pos 86400) +ℤ pos rest
    → int_div_euclid z (pos 86400) ≡ day
day_of-seconds z day rest h e = whole_days z day (omega (arith, ints)) (omega (arith, ints))

-- the date of the local time in the zone
pub day-from_seconds : (zone : TimeZone) (t : ℕ) (at : DateTime) → civil_seconds at ≡ local_seconds zone t
    → local_day_of zone t ≡ epoch_day at.date
unfolding civil_seconds
day-from_seconds zone t at e = day_of-seconds (local_seconds zone t) (epoch_day at.date)
    (time_seconds at.time) (time_seconds-lt at.time) (sym e)

day-range : (z : ℤ) → negsuc 93598 ≤ℤ z → z ≤ℤ pos 253370858398 → IsDay (int_div_euclid z (pos 86400))
day-range (pos a) h k = record { least = omega (arith, ints); most = omega (arith, ints) }
day-range (negsuc a) h k = record { least = omega (arith, ints); most = omega (arith, ints) }

pub local-day : (zone : TimeZone) (t : ℕ) → t ≤ 253370764799 → IsDay (local_day_of zone t)
local-day zone t h =
    let off = offset_at zone (pos t *ℤ pos 1000000000) in
    let within : IsOffsetSeconds off = offset-within zone (pos t *ℤ pos 1000000000) in
    day-range (pos t +ℤ off) (omega (arith, ints)) (omega (arith, ints))
