-- The takings of a day: sales and refunds.
use Rattle.std.specs.Prelude.{◌<◌, ◌^◌, ℕ, ℤ, Bool, List, length, All, cond, count_by, sum_by}
use Rattle.std.specs.Ordering.{int_eq}
use Rattle.portal_model.specs.declared.takings.DayTakings.{DayTakings}

-- a day and an amount
abbrev pub Pair : Type 0
Pair = ℤ × ℕ

-- the pair is of that day
abbrev pub is_on : ℤ → Pair → Bool
is_on day p = int_eq p.0 day

-- the amount, if the pair is of that day
abbrev pub amount_on : ℤ → Pair → ℕ
amount_on day p = cond (is_on day p) p.1 0

-- the number and the sum of the sales of that day, and of its refunds
abbrev pub takings_on : List Pair → List Pair → ℤ → DayTakings
takings_on sales refunds day = record {
  day = day;
  sold = count_by (is_on day) sales;
  sales = sum_by (amount_on day) sales;
  refunded = count_by (is_on day) refunds;
  refunds = sum_by (amount_on day) refunds;
}

-- the totals over the days fit the types of the fields
pub record TotalsFit (days : List DayTakings) : Type 0 where
  pub sold : sum_by (λ d. d.sold) days < 2 ^ 64
  pub sales : sum_by (λ d. d.sales) days < 2 ^ 128
  pub refunded : sum_by (λ d. d.refunded) days < 2 ^ 64
  pub refunds : sum_by (λ d. d.refunds) days < 2 ^ 128

-- as many pairs as memory can hold, with amounts of 64 bits
pub record AreAmounts (pairs : List Pair) : Type 0 where
  pub few : length pairs < 2 ^ 64
  pub small : All (λ p. p.1 < 2 ^ 64) pairs
