-- The takings of a local date.
use Rattle.std.specs.Prelude.{◌≡◌, ℕ, ℤ, pos, List, ◌∷◌, length, filter, sum_by, codes, IsPermutation}
use Rattle.std.specs.Ordering.{int_eq}
use Rattle.jiff.specs.Placed.{IsPosixZone}
use Rattle.jiff_tz.specs.declared.timezone.TimeZone.{TimeZone}
use Rattle.portal_model.specs.Takings.{Pair, takings_on}
use Rattle.portal_model.specs.declared.takings.DayTakings.{DayTakings}
use Rattle.portal_model.specs.declared.command.Command.TheVariants.{Refund}
use Rattle.portal_model.specs.History.{History, entry}
use Rattle.portal_model.specs.Payments.{Payment, sales_of, refunds_of, by_day}
use Rattle.portal_model.specs.TestVectors.{hour, code2, code3, history_with_plans, sold_at, gig_redeemed}
use Rattle.portal_files.specs.LocalDay.{local_day_of}

-- the payments whose moment falls on that local date of the zone
abbrev pub paid_on : TimeZone → ℤ → List Payment → List Payment
paid_on zone day payments = filter (λ p. int_eq (local_day_of zone p.at) day) payments

-- their sum
abbrev pub sum_of : List Payment → ℕ
sum_of payments = sum_by (λ p. p.amount) payments

-- the takings of a local date in the zone: the number of sales and of refunds in the history on it, and
-- their sums
abbrev pub takings_of : TimeZone → History → ℤ → DayTakings
takings_of zone H day = record {
  day = day;
  sold = length (paid_on zone day (sales_of H));
  sales = sum_of (paid_on zone day (sales_of H));
  refunded = length (paid_on zone day (refunds_of H));
  refunds = sum_of (paid_on zone day (refunds_of H));
}

-- the pairs are those of the payments with their local dates, in any order
abbrev pub ArePaid : TimeZone → List Payment → List Pair → Type 0
ArePaid zone payments pairs = IsPermutation (by_day (local_day_of zone) payments) pairs

-- the takings are added up from the sales and the refunds with their days, in any order
abbrev pub TakingsAreAdded : Type 0
TakingsAreAdded = (zone : TimeZone) (H : History) (sales refunds : List Pair)
    → ArePaid zone (sales_of H) sales → ArePaid zone (refunds_of H) refunds
    → (day : ℤ) → takings_on sales refunds day ≡ takings_of zone H day

-- zones of one rule have the same local dates
abbrev pub RuleFixesDays : Type 0
RuleFixesDays = (rule : List ℕ) (zone other : TimeZone) → IsPosixZone rule zone → IsPosixZone rule other
    → (t : ℕ) → local_day_of zone t ≡ local_day_of other t

-- ---- test vectors

-- so many sales and refunds on the day, and their sums
abbrev pub takings_with : ℤ → ℕ → ℕ → ℕ → ℕ → DayTakings
takings_with day sold sales refunded refunds =
    record { day = day; sold = sold; sales = sales; refunded = refunded; refunds = refunds }

-- an hour that was sold on 2020-03-01 at 23:30 UTC was sold on 2020-03-02 in central Europe, an hour ahead in
-- winter
abbrev pub TakingsLocalDay : Type 0
TakingsLocalDay = (zone : TimeZone) → IsPosixZone (codes "CET-1CEST,M3.5.0,M10.5.0/3") zone →
    let H = sold_at 1583105400 (codes "b1") hour code3 history_with_plans in
    (takings_of zone H (pos 18322) ≡ takings_with (pos 18322) 0 0 0 0)
    × (takings_of zone H (pos 18323) ≡ takings_with (pos 18323) 1 300 0 0)

-- a gibibyte that was sold on 1970-01-01, and refunded after one of its three uses on the day after
abbrev pub TakingsRefundDay : Type 0
TakingsRefundDay = (zone : TimeZone) → IsPosixZone (codes "UTC0") zone →
    let H = entry 86400 (Refund code2) ∷ gig_redeemed in
    (takings_of zone H (pos 0) ≡ takings_with (pos 0) 1 500 0 0)
    × (takings_of zone H (pos 1) ≡ takings_with (pos 1) 0 0 1 333)
