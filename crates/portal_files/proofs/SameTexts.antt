-- What is printed has one text: a minute, a print file, the lines of a report.
use Rattle.portal_files.proofs.Common.{◌≡◌, ℕ, ◌<◌, List, [], ◌∷◌, ◌++◌, refl, ap}
use Rattle.portal_files.proofs.Common.{sym, ◌∙◌, arith, AllZip, concat, flat_map, DayTakings}
use Rattle.portal_files.proofs.Common.{TimeZone, DateTime, epoch_day, minute_text, IsMinuteText}
use Rattle.portal_files.proofs.Common.{IsPrintFile, code_fields, header, csv_line, two_digits}
use Rattle.jiff_core.specs.DateTime.{civil_seconds}
use Rattle.jiff_core.specs.Time.{time_seconds}
use Rattle.jiff_core.specs.declared.civil.time.Time.{Time}
use Rattle.jiff_core.proofs.SignedLemmas.{signed_arith}
use Rattle.portal_files.proofs.DateTexts.{names-days, same-text}
use Rattle.portal_files.specs.declared.sheet.BatchSheet.{BatchSheet}
use Rattle.portal_files.specs.Report.{IsDayLine, IsReport, header_line, takings_line, total_line, net_line}

-- a time lies within its day
within-day : (t : Time) → time_seconds t < 86_400
within-day t = omega arith

-- and its seconds give its parts
same-time : (a b : Time) → time_seconds a ≡ time_seconds b → (a.hour ≡ b.hour) × (a.minute ≡ b.minute)
same-time a b e = omega arith

-- the seconds of a civil time give its date and its time of day
same-civil : (a b : DateTime) → civil_seconds a ≡ civil_seconds b
    → (epoch_day a.date ≡ epoch_day b.date) × (time_seconds a.time ≡ time_seconds b.time)
unfolding civil_seconds
same-civil a b e = omega (arith, signed_arith, e, within-day a.time, within-day b.time)

same-minute : (a b : DateTime) → civil_seconds a ≡ civil_seconds b → minute_text a ≡ minute_text b
same-minute a b e =
    let civil = same-civil a b e in
    let time = same-time a.time b.time civil.1 in
    let date = same-text a.date b.date civil.0 in
    λ i. date i ++ 32 ∷ (two_digits (time.0 i) ++ 58 ∷ two_digits (time.1 i))

same-shown : (zone : TimeZone) (t : ℕ) (one other : List ℕ) → IsMinuteText zone t one
    → IsMinuteText zone t other → one ≡ other
same-shown zone t one other is so =
    is.text_is ∙ same-minute is.at so.at (is.shown ∙ sym so.shown) ∙ sym so.text_is

pub same-print_file : (zone : TimeZone) (sheet : BatchSheet) (one other : List ℕ) → IsPrintFile zone sheet one
    → IsPrintFile zone sheet other → one ≡ other
same-print_file zone sheet one other is so =
    let text : List ℕ → List ℕ =
    λ expires. csv_line header
    ++ flat_map (λ code. csv_line (code_fields sheet.plan expires code)) sheet.codes in
    is.text_is ∙ ap text (same-shown zone sheet.batch.expires is.expires so.expires is.shown so.shown)
    ∙ sym so.text_is

same-line : (d : DayTakings) (one other : List ℕ) → IsDayLine d one → IsDayLine d other → one ≡ other
same-line d one other is so =
    let date = (names-days is.date so.date d.day d.day is.is_date so.is_date).1 refl in
    is.line_is ∙ ap (λ t. takings_line t d.sold d.sales d.refunded d.refunds) date ∙ sym so.line_is

same-lines : (days : List DayTakings) (one other : List (List ℕ)) → AllZip IsDayLine days one
    → AllZip IsDayLine days other → one ≡ other
same-lines [] [] [] is so = refl
same-lines (d ∷ days) (a ∷ one) (b ∷ other) is so =
    let first = same-line d a b is.0 so.0 in
    let rest = same-lines days one other is.1 so.1 in
    λ i. first i ∷ rest i
same-lines [] (a ∷ one) other is so = absurd is
same-lines [] [] (b ∷ other) is so = absurd so
same-lines (d ∷ days) [] other is so = absurd is
same-lines (d ∷ days) (a ∷ one) [] is so = absurd so

pub same-report : (days : List DayTakings) (one other : List ℕ) → IsReport days one → IsReport days other
    → one ≡ other
same-report days one other is so =
    let lines = same-lines days is.lines so.lines is.day_lines so.day_lines in
    is.text_is ∙ ap (λ l. header_line ++ (concat l ++ (total_line days ++ net_line days))) lines
    ∙ sym so.text_is
