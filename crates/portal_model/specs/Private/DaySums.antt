-- The sums of the days while pairs are added.
use Rattle.std.specs.Prelude.{◌<◌, ◌+◌, ◌^◌, ℤ, List, cond, count_by, sum_by}
use Rattle.portal_model.specs.Takings.{Pair, is_on, amount_on}
use Rattle.portal_model.specs.declared.takings.DaySum.{DaySum}

-- the sum of no pairs
abbrev pub zero_sum : DaySum
zero_sum = record { count = 0; amount = 0 }

-- the number and the amounts of the pairs of the day
abbrev pub day_sum : List Pair → ℤ → DaySum
day_sum pairs day = record { count = count_by (is_on day) pairs; amount = sum_by (amount_on day) pairs }

-- the sum with one more pair, if it is of the day
abbrev pub with_pair : ℤ → Pair → DaySum → DaySum
with_pair day p s = record { count = s.count + cond (is_on day p) 1 0; amount = s.amount + amount_on day p }

-- one more pair does not overflow the sum
pub record CanAddPair (s : DaySum) : Type 0 where
  pub count : s.count + 1 < 2 ^ 64
  pub amount : s.amount + 2 ^ 64 < 2 ^ 128
