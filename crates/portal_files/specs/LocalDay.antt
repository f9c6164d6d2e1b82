-- The local date of a moment in a zone.
use Rattle.std.specs.Prelude.{ℕ, ℤ, pos, ◌+ℤ◌, ◌*ℤ◌}
use Rattle.std.specs.Int.{int_div_euclid}
use Rattle.jiff_tz.specs.declared.timezone.TimeZone.{TimeZone}
use Rattle.jiff.specs.Words.{offset_at}

-- the seconds of the local time at the moment, since 1970-01-01T00:00:00
abbrev pub local_seconds : TimeZone → ℕ → ℤ
local_seconds zone t = pos t +ℤ offset_at zone (pos t *ℤ pos 1000000000)

-- the days in them
abbrev pub local_day_of : TimeZone → ℕ → ℤ
local_day_of zone t = int_div_euclid (local_seconds zone t) (pos 86400)
