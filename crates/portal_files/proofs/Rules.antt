-- What a rule of a zone says settles its civil days.
use Rattle.portal_files.proofs.Common.{◌≡◌, ℕ, ℤ, pos, ◌+ℤ◌, ◌*ℤ◌, Bool, true, false, List, Option, Some}
use Rattle.portal_files.proofs.Common.{None, refl, ap, sym, ◌∙◌, option_map, unwrap_or, if◌then◌else◌, ◌&&◌}
use Rattle.portal_files.proofs.Common.{◌||◌, int_lt, ◌-ℤ◌, int_div_euclid, IsPosixZone, read_whole, TzText}
use Rattle.portal_files.proofs.Common.{DstText, tz_view, dst_view, TimeZone, Posix, local_day_of}
use Rattle.portal_files.proofs.Common.{RuleFixesDays}
use Rattle.jiff_tz.specs.Zone.{offset_at}
use Rattle.jiff_core.specs.Timestamp.{nanos_of_seconds}
use Rattle.jiff_core.specs.declared.Offset.{Offset}
use Rattle.jiff_tz.specs.PosixRule as rule
use Rattle.jiff_tz.specs.Year.{year_of_nanos}
use Rattle.jiff_tz.specs.declared.posix.Day.{Day}
use Rattle.jiff_tz.specs.declared.posix.Dst.{Dst}
use Rattle.jiff_tz.specs.declared.posix.TimeZone.{TimeZone as Rule}

-- when a rule's moment falls in the year, by what the rule says
abbrev pub nanos_said : ℤ → Day × ℤ → ℤ → ℤ
nanos_said y d seconds = rule.match_some (rule.rule_day y d.0) (rule.last_nanosecond y) (λ day.
    rule.clamp_to (rule.first_nanosecond y) (rule.last_nanosecond y)
    (day *ℤ rule.nanos_per_day +ℤ nanos_of_seconds (d.1 -ℤ seconds)))

-- when daylight saving time begins and ends in the year
abbrev pub window_said : DstText → ℤ → ℤ → ℤ × ℤ
window_said d y std =
    let start : ℤ = nanos_said y d.start std in
    let end : ℤ = nanos_said y d.finish d.seconds in
    let shifted : ℤ = rule.saturating_add end (nanos_of_seconds std) in
    if rule.int_same start (rule.first_nanosecond y)
    && (int_lt shifted (rule.first_nanosecond y) || int_lt (rule.last_nanosecond y) shifted)
    then (start, rule.last_nanosecond y)
    else (start, end)

window-said : (d : Dst) (y : ℤ) (std : Offset)
    → rule.utc_window d y std ≡ window_said (dst_view d) y std.seconds
unfolding rule.utc_window rule.rule_nanos
window-said d y std = refl

-- the offset at an instant, in seconds
abbrev pub offset_by : ℤ → Option DstText → ℤ → ℤ
offset_by std None n = std
offset_by std (Some d) n = if rule.in_window (window_said d (year_of_nanos n) std) n then d.seconds else std

chosen : (std : Offset) (d : Dst) (n : ℤ) (in_force : Bool)
    → (rule.match_some (if in_force then Some d else None) std (λ e. e.offset)).seconds
    ≡ (if in_force then d.offset.seconds else std.seconds)
chosen std d n true = refl
chosen std d n false = refl

offset-by : (std : Offset) (dst : Option Dst) (n : ℤ)
    → (rule.match_some (rule.dst_at_by std dst n) std (λ d. d.offset)).seconds
    ≡ offset_by std.seconds (option_map dst_view dst) n
offset-by std None n = refl
offset-by std (Some d) n =
    chosen std d n (rule.in_window (rule.utc_window d (year_of_nanos n) std) n)
    ∙ ap (λ w. if rule.in_window w n then d.offset.seconds else std.seconds)
    (window-said d (year_of_nanos n) std)

-- the same of a whole rule
abbrev pub offset_said : TzText → ℤ → ℤ
offset_said text n = offset_by text.std_seconds text.dst n

offset-said : (tz : Rule) (n : ℤ) → (rule.offset_at tz n).seconds ≡ offset_said (tz_view tz) n
offset-said tz n = offset-by tz.std_offset tz.dst n

-- the offset of a zone, by the rule that its text reads as
pub zone_offset-said : (text : List ℕ) (said : TzText) (zone : TimeZone) (n : ℤ) → read_whole text ≡ Some said
    → IsPosixZone text zone → offset_at zone n ≡ offset_said said n
unfolding offset_at
zone_offset-said text said (Posix tz) n reads is =
    offset-said tz n ∙ ap (λ o. offset_said (unwrap_or o said) n) (sym is ∙ reads)
zone_offset-said text said _ n reads is = absurd is

-- the civil day of a moment, by the rule
abbrev pub day_said : TzText → ℕ → ℤ
day_said said t = int_div_euclid (pos t +ℤ offset_said said (pos t *ℤ pos 1000000000)) (pos 86400)

pub local_day-said : (text : List ℕ) (said : TzText) (zone : TimeZone) → read_whole text ≡ Some said
    → IsPosixZone text zone → (t : ℕ) → local_day_of zone t ≡ day_said said t
local_day-said text said zone reads is t = ap (λ off. int_div_euclid (pos t +ℤ off) (pos 86400))
    (zone_offset-said text said zone (pos t *ℤ pos 1000000000) reads is)

pub rule_fixes_days : RuleFixesDays
rule_fixes_days text (Posix tz) other is also t =
    local_day-said text (tz_view tz) (Posix tz) is is t
    ∙ sym (local_day-said text (tz_view tz) other is also t)
rule_fixes_days text _ other is also t = absurd is
