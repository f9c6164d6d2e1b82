-- The test vectors for takings, computed from the rules of the zones.
use Rattle.portal_files.proofs.Common.{◌≡◌, ℕ, ◌+◌, ◌-◌, ◌%◌, ℤ, pos, ◌+ℤ◌, ◌-ℤ◌, ◌*ℤ◌, List, [], ◌∷◌, codes}
use Rattle.portal_files.proofs.Common.{Some, None, refl, sym, ap, ◌∙◌, lit≤, rules, length, filter}
use Rattle.portal_files.proofs.Common.{if◌then◌else◌, ◌&&◌, ◌||◌, int_lt, int_div_euclid, int_eq, Date}
use Rattle.portal_files.proofs.Common.{read_whole, TzText, DstText, DayTakings, Payment, payment}
use Rattle.portal_files.proofs.Common.{local_day_of, sum_of, TakingsLocalDay, TakingsRefundDay}
use Rattle.jiff_tz.proofs.OnLiterals.{jiff_tz_on_literals}
use Rattle.jiff_core.specs.Calendar.{day_count, days_from_civil, weekday_number}
use Rattle.jiff_core.specs.Timestamp.{nanos_of_seconds}
use Rattle.jiff_core.proofs.CalendarLemmas.{day_count-epoch}
use Rattle.jiff_core.proofs.MarchLemmas.{day_count-early, day_count-late}
use Rattle.jiff_tz.proofs.YearLemmas.{year_of_day-date}
use Rattle.jiff_tz.specs.PosixRule as rule
use Rattle.jiff_tz.specs.Year.{year_of_day}
use Rattle.jiff_tz.specs.declared.posix.Day.TheVariants.{WeekdayOfMonth}
use Rattle.portal_files.proofs.Rules.{window_said, day_said, local_day-said}

-- an hour ahead of UTC, and two from the last Sunday of March to that of October
abbrev summer_time : DstText
summer_time = record {
  name = codes "CEST";
  seconds = pos 7200;
  start = (WeekdayOfMonth 3 5 0, pos 7200);
  finish = (WeekdayOfMonth 10 5 0, pos 10800);
}

abbrev cet : TzText
cet = record { std_name = codes "CET"; std_seconds = pos 3600; dst = Some summer_time }

cet-reads : read_whole (codes "CET-1CEST,M3.5.0,M10.5.0/3") ≡ Some cet
unfolding jiff_tz_on_literals
cet-reads = refl

-- The days of 2020 from which the year and the rule are counted

day-number : (y : ℤ) (m d k : ℕ) → day_count y m d ≡ k → days_from_civil y m d ≡ pos k -ℤ pos 4371953
unfolding days_from_civil
day-number y m d k e =
    ap (λ n. pos n -ℤ pos (day_count (pos 1970) 1 1)) e ∙ ap (λ n. pos k -ℤ pos n) day_count-epoch

first-day : days_from_civil (pos 2020) 1 1 ≡ pos 18262
first-day = day-number (pos 2020) 1 1 4390215
    (day_count-early (pos 2020) 12019 1 1 refl (lit≤ tt) (lit≤ tt) (lit≤ tt))

first-of_march : days_from_civil (pos 2020) 3 1 ≡ pos 18322
first-of_march =
    day-number (pos 2020) 3 1 4390275 (day_count-late (pos 2020) 12020 3 1 refl (lit≤ tt) (lit≤ tt) (lit≤ tt))

end-of_march : days_from_civil (pos 2020) 3 31 ≡ pos 18352
end-of_march = day-number (pos 2020) 3 31 4390305
    (day_count-late (pos 2020) 12020 3 31 refl (lit≤ tt) (lit≤ tt) (lit≤ tt))

end-of_october : days_from_civil (pos 2020) 10 31 ≡ pos 18566
end-of_october = day-number (pos 2020) 10 31 4390519
    (day_count-late (pos 2020) 12020 10 31 refl (lit≤ tt) (lit≤ tt) (lit≤ tt))

march_first : Date
march_first = record {
  year = pos 2020;
  month = 3;
  day = 1;
  year_in = search rules;
  month_in = search rules;
  day_in = search rules;
}

-- the year of 2020-03-01
year-is : year_of_day (pos 18322) ≡ pos 2020
unfolding march_first
year-is = ap year_of_day (sym first-of_march) ∙ year_of_day-date march_first

-- a rule's moment on the last Sunday of a month, by the first day of a leap year and the last of the month
abbrev nanos_from : ℤ → ℤ → ℤ → ℤ → ℤ
nanos_from first last time seconds =
    rule.clamp_to (first *ℤ rule.nanos_per_day) ((first +ℤ pos 366) *ℤ rule.nanos_per_day -ℤ pos 1)
    ((last -ℤ pos ((rule.sunday_number last + 7 - 0) % 7)) *ℤ rule.nanos_per_day
    +ℤ nanos_of_seconds (time -ℤ seconds))

-- daylight saving time, by the first day of a leap year and the last ones of March and October
abbrev summer_from : ℤ → ℤ → ℤ → ℤ × ℤ
summer_from first march october =
    let start : ℤ = nanos_from first march (pos 7200) (pos 3600) in
    let end : ℤ = nanos_from first october (pos 10800) (pos 7200) in
    let shifted : ℤ = rule.saturating_add end (nanos_of_seconds (pos 3600)) in
    let low : ℤ = first *ℤ rule.nanos_per_day in
    let high : ℤ = (first +ℤ pos 366) *ℤ rule.nanos_per_day -ℤ pos 1 in
    if rule.int_same start low
    && (int_lt shifted low || int_lt high shifted) then (start, high) else (start, end)

summer-by_days : window_said summer_time (pos 2020) (pos 3600) ≡ summer_from (days_from_civil (pos 2020) 1 1)
    (days_from_civil (pos 2020) 3 31) (days_from_civil (pos 2020) 10 31)
unfolding rule.rule_day
summer-by_days = refl

-- daylight saving time begins on 2020-03-29 and ends on 2020-10-25, at 01:00 in UTC
summer : window_said summer_time (pos 2020) (pos 3600) ≡ (pos 1585443600000000000, pos 1603587600000000000)
unfolding weekday_number
summer =
    summer-by_days
    ∙ (λ i. summer_from (first-day i) (end-of_march i) (end-of_october i))

-- the day at that moment, by the window of daylight saving time
abbrev day_by : ℤ × ℤ → ℤ
day_by w = int_div_euclid (pos 1583105400
    +ℤ (if rule.in_window w (pos 1583105400000000000) then pos 7200 else pos 3600)) (pos 86400)

cet-day : day_said cet 1583105400 ≡ pos 18323
cet-day = ap (λ y. day_by (window_said summer_time y (pos 3600))) year-is ∙ ap day_by summer

abbrev utc : TzText
utc = record { std_name = codes "UTC"; std_seconds = pos 0; dst = None }

utc-reads : read_whole (codes "UTC0") ≡ Some utc
unfolding jiff_tz_on_literals
utc-reads = refl

-- the takings of a day, where one sale and one refund fall on these days
abbrev takings_by : ℤ → ℤ → List Payment → ℤ → List Payment → DayTakings
takings_by day sold sales refunded refunds = record {
  day = day;
  sold = length (filter (λ p. int_eq sold day) sales);
  sales = sum_of (filter (λ p. int_eq sold day) sales);
  refunded = length (filter (λ p. int_eq refunded day) refunds);
  refunds = sum_of (filter (λ p. int_eq refunded day) refunds);
}

pub takings_local_day : TakingsLocalDay
takings_local_day zone is =
    let day : local_day_of zone 1583105400 ≡ pos 18323 =
    local_day-said (codes "CET-1CEST,M3.5.0,M10.5.0/3") cet zone cet-reads is 1583105400 ∙ cet-day in
    let sale : List Payment = payment 1583105400 300 ∷ [] in
    (ap (λ d. takings_by (pos 18322) d sale d []) day, ap (λ d. takings_by (pos 18323) d sale d []) day)

pub takings_refund_day : TakingsRefundDay
takings_refund_day zone is =
    let sold : local_day_of zone 1000 ≡ pos 0 = local_day-said (codes "UTC0") utc zone utc-reads is 1000 in
    let refunded : local_day_of zone 86400 ≡ pos 1 =
    local_day-said (codes "UTC0") utc zone utc-reads is 86400 in
    let sale : List Payment = payment 1000 500 ∷ [] in
    let refund : List Payment = payment 86400 333 ∷ [] in (
      (λ i. takings_by (pos 0) (sold i) sale (refunded i) refund),
      (λ i. takings_by (pos 1) (sold i) sale (refunded i) refund),
    )
