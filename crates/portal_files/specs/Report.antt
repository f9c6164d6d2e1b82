-- The takings report.
use Rattle.std.specs.Prelude.{◌≡◌, ℕ, ◌-◌, List, [], ◌∷◌, ◌++◌, if◌then◌else◌, nat_lt, codes, decimal, sum_by}
use Rattle.std.specs.List.{join_with_byte, concat, AllZip}
use Rattle.portal_model.specs.declared.takings.DayTakings.{DayTakings}
use Rattle.portal_files.specs.DayText.{IsDayText}
use Rattle.portal_files.specs.Amount.{amount_text, right_in, left_in}

-- the cells of a line: a label, and the count and the sum of the sales and of the refunds
abbrev pub report_line : (label sold sales refunded refunds : List ℕ) → List ℕ
report_line label sold sales refunded refunds =
    join_with_byte 32 (left_in 10 label ∷ right_in 8 sold ∷ right_in 17 sales ∷ right_in 8 refunded
    ∷ right_in 17 refunds ∷ []) ++ 10 ∷ []

-- the names of the columns
abbrev pub header_line : List ℕ
header_line = report_line (codes "day") (codes "sold") (codes "sales") (codes "refunded") (codes "refunds")

-- a line with a label and numbers
abbrev pub takings_line : (label : List ℕ) (sold sales refunded refunds : ℕ) → List ℕ
takings_line label sold sales refunded refunds =
    report_line label (decimal sold) (amount_text sales) (decimal refunded) (amount_text refunds)

-- the line of a day
pub record IsDayLine (d : DayTakings) (line : List ℕ) : Type 0 where
  pub date : List ℕ
  pub is_date : IsDayText date d.day
  pub line_is : line ≡ takings_line date d.sold d.sales d.refunded d.refunds

-- the totals over the days
abbrev pub total_line : List DayTakings → List ℕ
total_line days = takings_line (codes "total") (sum_by (λ d. d.sold) days) (sum_by (λ d. d.sales) days)
    (sum_by (λ d. d.refunded) days) (sum_by (λ d. d.refunds) days)

-- the sales less the refunds, with a hyphen before it if the refunds are greater
abbrev pub net_text : (sales refunds : ℕ) → List ℕ
net_text sales refunds =
    if nat_lt sales refunds then 45 ∷ amount_text (refunds - sales) else amount_text (sales - refunds)

-- the net sum
abbrev pub net_line : List DayTakings → List ℕ
net_line days =
    codes "net " ++ net_text (sum_by (λ d. d.sales) days) (sum_by (λ d. d.refunds) days) ++ 10 ∷ []

-- The header, a line for each day in order, the totals and the net sum.
pub record IsReport (days : List DayTakings) (text : List ℕ) : Type 0 where
  pub lines : List (List ℕ)
  pub day_lines : AllZip IsDayLine days lines
  pub text_is : text ≡ header_line ++ (concat lines ++ (total_line days ++ net_line days))
