-- Days by their number since 1970-01-01, and ranges of them.
use Rattle.std.specs.Prelude.{ℕ, ◌+◌, ℤ, pos, negsuc, ◌+ℤ◌, ◌-ℤ◌, ◌≤ℤ◌, List, map}
use Rattle.std.specs.Int.{int_gap}
use Rattle.std.specs.List.{range_with_len}

-- a day that a local clock can show: from 1969-01-01 to 9999-12-31
pub record IsDay (number : ℤ) : Type 0 where
  pub least : negsuc 364 ≤ℤ number
  pub most : number ≤ℤ pos 2932896

-- the days from the first to the last
pub record Span : Type 0 where
  pub first : ℤ
  pub last : ℤ

-- in order, and at most 366 days
pub record IsSpan (first last : ℤ) : Type 0 where
  pub ordered : first ≤ℤ last
  pub short : (last -ℤ first) ≤ℤ pos 365

-- a span that ends on a day
pub record IsRange (first last : ℤ) : Type 0 where
  pub span : IsSpan first last
  pub last_is : IsDay last

-- the number of days
abbrev pub day_count : Span → ℕ
day_count s = int_gap s.first s.last + 1

-- the days, in order
abbrev pub days_of : Span → List ℤ
days_of s = map (λ k. s.first +ℤ pos k) (range_with_len 0 (day_count s))
