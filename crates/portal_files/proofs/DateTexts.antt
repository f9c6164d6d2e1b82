-- Dates and their texts, and the years of day numbers.
use Rattle.portal_files.proofs.Common.{◌≡◌, ℕ, ◌+◌, ◌*◌, ◌/◌, ◌%◌, ◌<◌, ◌≤◌, ℤ, pos, negsuc, ◌≤ℤ◌, List, []}
use Rattle.portal_files.proofs.Common.{◌∷◌, ◌++◌, length, get_or, take, drop, refl, ap, sym, ◌∙◌, subst}
use Rattle.portal_files.proofs.Common.{arith, Option, Some, None, is_some, IsSome, ◌↔◌, true, inl, inr, lit≤}
use Rattle.portal_files.proofs.Common.{IfSome, false≢true, ints, by_lt_z, Date, epoch_day, date_text, IsDay}
use Rattle.portal_files.proofs.Common.{IsPair, IsDateText, IsDayText}
use Rattle.jiff_core.specs.Calendar.{IsDate, IsYear}
use Rattle.jiff_core.proofs.CalendarLemmas.{days_in_month_bounds, days_from_civil-day_count}
use Rattle.jiff_core.proofs.CalendarLemmas.{day_count-last_of_year}
use Rattle.jiff_core.proofs.SignedLemmas.{signed_arith}
use Rattle.jiff_core.proofs.DateLemmas.{epoch_day-lt, epoch_day_range, epoch_day_same, epoch_day_injective}
use Rattle.jiff_core.proofs.DateLemmas.{cases_date, days_from_civil-next_year}
use Rattle.jiff_core.proofs.StandardFacts.{known_days}
use Rattle.jiff_fmt.specs.Text.{pad2, year_text}

abbrev ymd_text : ℤ → ℕ → ℕ → List ℕ
ymd_text y m d = year_text y ++ 45 ∷ [] ++ pad2 m ++ 45 ∷ [] ++ pad2 d

-- ten bytes, in their parts
ten-parts : (text p q r s : List ℕ) → length text ≡ 10 → get_or text 4 0 ≡ 45 → get_or text 7 0 ≡ 45
    → take 2 text ≡ p → take 2 (drop 2 text) ≡ q → take 2 (drop 5 text) ≡ r → take 2 (drop 8 text) ≡ s
    → text ≡ p ++ (q ++ 45 ∷ (r ++ 45 ∷ s))
ten-parts (t0 ∷ t1 ∷ t2 ∷ t3 ∷ t4 ∷ t5 ∷ t6 ∷ t7 ∷ t8 ∷ t9 ∷ []) p q r s n x y a b c d =
    λ i. a i ++ (b i ++ x i ∷ (c i ++ y i ∷ d i))
ten-parts _ p q r s n x y a b c d = absurd (omega arith)

-- what was read at the places of a text
pub record WasReadAt (text : List ℕ) (a b m d : ℕ) : Type 0 where
  pub ten : length text ≡ 10
  pub first_hyphen : get_or text 4 0 ≡ 45
  pub second_hyphen : get_or text 7 0 ≡ 45
  pub century : IsPair (take 2 text) a
  pub year : IsPair (take 2 (drop 2 text)) b
  pub month : IsPair (take 2 (drop 5 text)) m
  pub day : IsPair (take 2 (drop 8 text)) d

pub date-text : (text : List ℕ) (a b m d : ℕ) (date : Date) → WasReadAt text a b m d
    → date.year ≡ pos (a * 100 + b) → date.month ≡ m → date.day ≡ d
    → IsDateText text date
date-text text a b m d date is year month day =
    let below = is.year.below in
    let century_is : a ≡ (a * 100 + b) / 100 = omega arith in
    let year_is : b ≡ (a * 100 + b) % 100 = omega arith in
    record {
      text_is = ten-parts text (pad2 a) (pad2 b) (pad2 m) (pad2 d) is.ten is.first_hyphen is.second_hyphen
          is.century.digits_are is.year.digits_are is.month.digits_are is.day.digits_are
          ∙ (λ i. pad2 (century_is i) ++ (pad2 (year_is i) ++ 45 ∷ (pad2 m ++ 45 ∷ pad2 d)))
          ∙ sym (λ i. ymd_text (year i) (month i) (day i));
      year = omega (arith, ints, year);
    }

-- a number is known by its two digits
same-pair : (digits : List ℕ) (m n : ℕ) → n < 100 → IsPair digits m → digits ≡ pad2 n → m ≡ n
same-pair digits m n below is e =
    let both : pad2 m ≡ pad2 n = sym is.digits_are ∙ e in
    let tens : 48 + m / 10 ≡ 48 + n / 10 = ap (λ xs. get_or xs 0 0) both in
    let ones : 48 + m % 10 ≡ 48 + n % 10 = ap (λ xs. get_or xs 1 0) both in
    omega arith

natural : (z : ℤ) → pos 0 ≤ℤ z → (n : ℕ) × (z ≡ pos n)
natural (pos n) h = (n, refl)
natural (negsuc n) h = absurd (omega (arith, ints))

-- a date from the year 0 on has a year of four digits at most, and a month and a day of two
small-parts : (d : Date) (n : ℕ) → d.year ≡ pos n → (n ≤ 9999) × (d.month < 100) × (d.day < 100)
small-parts d n year =
    let in_range : IsYear (pos n) = subst IsYear year d.year_in in (
      omega (arith, ints),
      omega (arith, d.month_in.1),
      omega (arith, d.day_in.1, (days_in_month_bounds d.year d.month).0),
    )

-- the calendar has the date that a text is
text-date_of : (text : List ℕ) (a b m d : ℕ) (n : ℕ) (date : Date) → WasReadAt text a b m d
    → date.year ≡ pos n → text ≡ date_text date
    → (date.year ≡ pos (a * 100 + b)) × (date.month ≡ m) × (date.day ≡ d)
text-date_of text a b m d n date is year e =
    let shown : text ≡ ymd_text (pos n) date.month date.day =
    e ∙ ap (λ y. ymd_text y date.month date.day) year in
    let (small, month_small, day_small) = small-parts date n year in
    let century_is : a ≡ n / 100 =
    same-pair (take 2 text) a (n / 100) (omega arith) is.century (ap (take 2) shown) in
    let year_is : b ≡ n % 100 =
    same-pair (take 2 (drop 2 text)) b (n % 100) (omega arith) is.year (ap (λ x. take 2 (drop 2 x)) shown) in
    let month_is : m ≡ date.month =
    same-pair (take 2 (drop 5 text)) m date.month month_small is.month (ap (λ x. take 2 (drop 5 x)) shown) in
    let day_is : d ≡ date.day =
    same-pair (take 2 (drop 8 text)) d date.day day_small is.day (ap (λ x. take 2 (drop 8 x)) shown) in
    (year ∙ ap pos (omega arith), sym month_is, sym day_is)

pub text-date : (text : List ℕ) (a b m d : ℕ) (date : Date) → WasReadAt text a b m d
    → pos 0 ≤ℤ date.year → text ≡ date_text date
    → (date.year ≡ pos (a * 100 + b)) × (date.month ≡ m) × (date.day ≡ d)
text-date text a b m d date is positive e =
    let year = natural date.year positive in
    text-date_of text a b m d year.0 date is year.1 e

pub date-made : (y m d : ℤ) (date : Date) → y ≡ date.year → m ≡ pos date.month
    → d ≡ pos date.day → IsDate y m d
date-made y m d date year month day =
    let P : ℤ → ℤ → ℤ → Type 0 = λ y m d. IsDate y m d in
    let is : P date.year (pos date.month) (pos date.day) = (
      date.year_in,
      (omega (arith, ints, date.month_in.0), omega (arith, ints, date.month_in.1)),
      (omega (arith, ints, date.day_in.0), omega (arith, ints, date.day_in.1)),
    ) in
    subst (λ y. P y m d) (sym year)
    (subst (λ m. P date.year m d) (sym month) (subst (λ d. P date.year (pos date.month) d) (sym day) is))

pair : (n : ℕ) → n < 100 → IsPair (pad2 n) n
pair n h = record { below = h; digits_are = refl }

same-day_of : (a b : Date) (m n : ℕ) → a.year ≡ pos m → b.year ≡ pos n → date_text a ≡ date_text b
    → epoch_day a ≡ epoch_day b
same-day_of a b m n year later e =
    let shown : ymd_text (pos m) a.month a.day ≡ ymd_text (pos n) b.month b.day =
    sym (ap (λ y. ymd_text y a.month a.day) year) ∙ e ∙ ap (λ y. ymd_text y b.month b.day) later in
    let (m_small, a_month, a_day) = small-parts a m year in
    let (n_small, b_month, b_day) = small-parts b n later in
    let century : m / 100 ≡ n / 100 =
    same-pair _ (m / 100) (n / 100) (omega arith) (pair (m / 100) (omega arith)) (ap (take 2) shown) in
    let decade : m % 100 ≡ n % 100 = same-pair _ (m % 100) (n % 100) (omega arith)
    (pair (m % 100) (omega arith)) (ap (λ x. take 2 (drop 2 x)) shown) in
    let month : a.month ≡ b.month =
    same-pair _ a.month b.month b_month (pair a.month a_month) (ap (λ x. take 2 (drop 5 x)) shown) in
    let day : a.day ≡ b.day =
    same-pair _ a.day b.day b_day (pair a.day a_day) (ap (λ x. take 2 (drop 8 x)) shown) in
    let same : m ≡ n = omega arith in
    epoch_day_same a b (year ∙ ap pos same ∙ sym later) month day

-- a text is of one day
same-day : (a b : Date) (text : List ℕ) → IsDateText text a → IsDateText text b → epoch_day a ≡ epoch_day b
same-day a b text is so =
    let first = natural a.year is.year in
    let second = natural b.year so.year in
    same-day_of a b first.0 second.0 first.1 second.1 (sym is.text_is ∙ so.text_is)

-- the first day of 1969
abbrev new_year : Date
new_year = record {
  year = pos 1969;
  month = 1;
  day = 1;
  year_in = (omega (arith, ints), omega (arith, ints));
  month_in = (lit≤ tt, lit≤ tt);
  day_in = (lit≤ tt, lit≤ tt);
}

new_year-day : epoch_day new_year ≡ negsuc 364
new_year-day =
    omega (
      arith,
      signed_arith,
      known_days.0,
      days_from_civil-next_year (pos 1969) (pos 1970) (omega (arith, ints)) refl,
      day_count-last_of_year (pos 1969),
      days_from_civil-day_count,
    )

-- the days from 1969 on
pub day-from_year : (d : Date) → pos 1969 ≤ℤ d.year → IsDay (epoch_day d)
day-from_year d h =
    let range = epoch_day_range d in
    elim (cases_date d new_year) [
      | inl (inl year) ↦ absurd (omega (arith, ints))
      | inl (inr (year, inl month)) ↦ absurd (omega (arith, d.month_in.0))
      | inl (inr (year, inr day)) ↦ absurd (omega (arith, d.day_in.0))
      | inr (inl later) ↦ record {
        least = omega (arith, ints, epoch_day-lt new_year d later, new_year-day);
        most = omega (arith, ints);
      }
      | inr (inr same) ↦ record {
        least = omega (arith, ints, epoch_day_same d new_year same.0 same.1 same.2, new_year-day);
        most = omega (arith, ints);
      }
    ]

pub year-from_day : (d : Date) → IsDay (epoch_day d) → pos 1969 ≤ℤ d.year
year-from_day d h =
    let least = h.least in
    by_lt_z d.year (pos 1969)
    (λ before. absurd (omega (arith, ints, epoch_day-lt d new_year (inl before), new_year-day)))
    (λ from. from)

-- the day that was made of a date
pub day-found : (text : List ℕ) (date : Date) (n : ℤ) (r : Option ℤ) → IsDateText text date
    → n ≡ epoch_day date → IsSome r ↔ IsDay n → IfSome r (λ d. d ≡ n) → IfSome r (IsDayText text)
day-found text date n None shown is some value = value
day-found text date n (Some d) shown is some value =
    record {
      date = date;
      text_is = shown.text_is;
      year = year-from_day date (subst IsDay is (some.0 refl));
      day_is = sym is ∙ sym value;
    }

pub no-day : (text : List ℕ) (date : Date) (n : ℤ) (r : Option ℤ) → IsDateText text date → n ≡ epoch_day date
    → IsSome r ↔ IsDay n → r ≡ None → (day : ℤ) → IsDayText text day → ⊥
no-day text date n r shown is some none day so =
    let other : IsDateText text so.date =
    record { text_is = so.text_is; year = omega (arith, ints, so.year) } in
    let there : is_some r ≡ true = some.1
    (subst IsDay (sym (is ∙ same-day date so.date text shown other)) (day-from_year so.date so.year)) in
    absurd (false≢true (sym (ap is_some none) ∙ there))

-- a day has one date, and the date one text
pub same-text : (a b : Date) → epoch_day a ≡ epoch_day b → date_text a ≡ date_text b
same-text a b e =
    let same = epoch_day_injective a b e in
    λ i. ymd_text (same.0 i) (same.1 i) (same.2 i)

pub names-days : (text later : List ℕ) (day next : ℤ) → IsDayText text day → IsDayText later next
    → (text ≡ later) ↔ (day ≡ next)
names-days text later day next is so = (
  (λ e. sym is.day_is
      ∙ same-day is.date so.date later
      (record { text_is = sym e ∙ is.text_is; year = omega (arith, ints, is.year) })
      (record { text_is = so.text_is; year = omega (arith, ints, so.year) })
      ∙ so.day_is),
  (λ e. is.text_is ∙ same-text is.date so.date (is.day_is ∙ e ∙ sym so.day_is) ∙ sym so.text_is),
)

-- the text of a day's date
pub day-text : (text : List ℕ) (date : Date) (day : ℤ) → text ≡ date_text date → epoch_day date ≡ day
    → IsDay day → IsDayText text day
day-text text date day shown is range =
    record {
      date = date;
      text_is = shown;
      year = year-from_day date (subst IsDay (sym is) range);
      day_is = is;
    }
