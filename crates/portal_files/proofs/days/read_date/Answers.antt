use Rattle.portal_files.proofs.Common.{◌≡◌, ◌<◌, ℤ, pos, ◌+ℤ◌, ◌*ℤ◌, to_z, of_z, w8, w16, is_some, is_ok}
use Rattle.portal_files.proofs.Common.{true, false, ap, sym, ◌∙◌, arith, false≢true, ints}
use Rattle.portal_files.proofs.DateTexts.{WasReadAt, date-text, text-date, date-made}
use Rattle.portal_files.proofs.Tables.{some-from_ok}
use Rattle.portal_files.proofs.days.read_date.Goals as goal
use Rattle.portal_files.proofs.days.read_date.Goals.{After-ok}

was_read : (c : After-ok)
    → WasReadAt c.args.text.now c.in_ok-century.century c.in_ok-year.year c.in_ok-month.month c.in_ok-day.day
was_read c = record {
  ten = c.if-text-ne10.false;
  first_hyphen = c.if-text-ne45.false;
  second_hyphen = c.if-text-ne45-2.false;
  century = c.in_ok-century.ensures.some;
  year = c.in_ok-year.ensures.some;
  month = c.in_ok-month.ensures.some;
  day = c.in_ok-day.ensures.some;
}

pub returns-clause-some : goal.returns-clause-some
returns-clause-some c =
    let read = was_read c in
    let a = c.in_ok-century.century in
    let b = c.in_ok-year.year in
    let m = c.in_ok-month.month in
    let d = c.in_ok-day.day in
    let below : (a < 100) × (b < 100) × (m < 100) × (d < 100) =
    (read.century.below, read.year.below, read.month.below, read.day.below) in
    some-from_ok c.ok.result c.new.result _ _ c.ok.ensures.value
    (λ date ymd. date-text c.args.text.now a b m d date read
    (omega (arith, ints, ymd.0, c.from.ensures, c.from-2.ensures))
    (omega (arith, ints, ymd.1))
    (omega (arith, ints, ymd.2))) c.new.ensures.value

pub returns-clause-none : goal.returns-clause-none
returns-clause-none c = λ none date shown.
    let read = was_read c in
    let a = c.in_ok-century.century in
    let b = c.in_ok-year.year in
    let m = c.in_ok-month.month in
    let d = c.in_ok-day.day in
    let below : (a < 100) × (b < 100) × (m < 100) × (d < 100) =
    (read.century.below, read.year.below, read.month.below, read.day.below) in
    let is = text-date c.args.text.now a b m d date read shown.year shown.text_is in
    let y : ℤ = to_z w16 (of_z w16 (to_z w16 (of_z w16 (to_z w16 (of_z w16 c.from.result) *ℤ pos 100))
    +ℤ to_z w16 (of_z w16 c.from-2.result))) in
    let calendar = date-made y (to_z w8 m) (to_z w8 d) date
    (omega (arith, ints, is.0, c.from.ensures, c.from-2.ensures))
    (omega (arith, ints, is.1))
    (omega (arith, ints, is.2)) in
    let made : is_ok c.new.result ≡ true = c.new.ensures.succeeds.1 calendar in
    let gone : is_some c.ok.result ≡ false = ap is_some none in
    absurd (false≢true (sym gone ∙ c.ok.ensures.variant ∙ made))
