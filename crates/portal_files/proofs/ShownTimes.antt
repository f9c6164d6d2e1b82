-- The text of a civil time.
use Rattle.portal_files.proofs.Common.{◌≡◌, ℕ, List, [], ◌∷◌, ◌++◌, ◌∙◌, arith, decimal, false, format_spec}
use Rattle.portal_files.proofs.Common.{Date, DateTime, date_text, two_digits, minute_text}
use Rattle.std.specs.Fmt.{padded_integral}
use Rattle.jiff_core.specs.declared.civil.time.Time.{Time}
use Rattle.portal_files.proofs.Columns.{two-places}

abbrev places : ℕ → List ℕ
places n = padded_integral (format_spec 32 0 4 2 18446744073709551615) false [] (decimal n)

pub minute-parts : (at : DateTime) (d : Date) (t : Time) → d ≡ at.date → t ≡ at.time
    → date_text d ++ 32 ∷ (places t.hour ++ 58 ∷ places t.minute) ≡ minute_text at
minute-parts at d t date time =
    let text : Date → Time → List ℕ = λ d t. date_text d ++ 32 ∷ (places t.hour ++ 58 ∷ places t.minute) in
    let hour : places at.time.hour ≡ two_digits at.time.hour =
    two-places at.time.hour (omega (arith, at.time.hour_in)) in
    let minute : places at.time.minute ≡ two_digits at.time.minute =
    two-places at.time.minute (omega (arith, at.time.minute_in)) in
    (λ i. text (date i) (time i)) ∙ (λ i. date_text at.date ++ 32 ∷ (hour i ++ 58 ∷ minute i))
