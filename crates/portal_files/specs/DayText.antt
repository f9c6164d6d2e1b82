-- Days as text.
use Rattle.std.specs.Prelude.{◌≡◌, ◌<◌, ℕ, ℤ, pos, ◌≤ℤ◌, List}
use Rattle.jiff_core.specs.declared.civil.date.Date.{Date}
use Rattle.jiff_fmt.specs.Text.{pad2}
use Rattle.jiff.specs.Words.{epoch_day, date_text}

-- The text is the day as `YYYY-MM-DD` (RFC 3339, section 5.6, full-date), of a year from 1969 to 9999.
pub record IsDayText (text : List ℕ) (day : ℤ) : Type 0 where
  pub date : Date
  pub text_is : text ≡ date_text date
  pub year : pos 1969 ≤ℤ date.year
  pub day_is : epoch_day date ≡ day

-- The text is the date as `YYYY-MM-DD`, of a year from 0 on.
pub record IsDateText (text : List ℕ) (date : Date) : Type 0 where
  pub text_is : text ≡ date_text date
  pub year : pos 0 ≤ℤ date.year

-- The two digits of a number below 100.
pub record IsPair (digits : List ℕ) (n : ℕ) : Type 0 where
  pub below : n < 100
  pub digits_are : digits ≡ pad2 n
