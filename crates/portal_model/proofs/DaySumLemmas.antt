-- The sum of the pairs so far of a day: adding a pair does not overflow.
use Rattle.portal_model.proofs.Common.{◌≡◌, ℕ, ◌+◌, ◌-◌, ◌^◌, ◌<◌, ◌≤◌, ℤ, pos, ◌+ℤ◌, cond, List, ◌++◌}
use Rattle.portal_model.proofs.Common.{length, get_or, take, drop, map, ap, sym, ◌∙◌, arith, inl, inr, All}
use Rattle.portal_model.proofs.Common.{count_by, range_with_len, mul-le-mul_right, cases_Bool, cond-true}
use Rattle.portal_model.proofs.Common.{cond-false, length-take, take-append-le, take_all, All-weaker}
use Rattle.portal_model.proofs.Common.{count_by-le-length, count_by_more_no, count_by_more_yes, sum_by_more}
use Rattle.portal_model.proofs.Common.{sum_by-le, Span, day_count, days_of, Pair, is_on, amount_on, day_sum}
use Rattle.portal_model.proofs.Common.{zero_sum, with_pair, CanAddPair, DayTakings}
use Rattle.std.proofs.lemmas.List.FromFn.{fill_by_all, get_or-map-range_with_len, length-map-range_with_len}
use Rattle.std.proofs.lemmas.Simd.{map-map}
use Rattle.portal_model.specs.declared.takings.DaySum.{DaySum}

count_more : (day : ℤ) (pairs : List Pair) (i : ℕ) (d : Pair) → i < length pairs
    → count_by (is_on day) (take (i + 1) pairs)
    ≡ count_by (is_on day) (take i pairs) + cond (is_on day (get_or pairs i d)) 1 0
count_more day pairs i d h =
    let p = get_or pairs i d in
    elim (cases_Bool (is_on day p)) [
      | inl is ↦
          omega (arith, count_by_more_yes (is_on day) pairs i d h is, cond-true {A = ℕ} (is_on day p) 1 0 is)
      | inr other ↦ omega
          (arith, count_by_more_no (is_on day) pairs i d h other, cond-false {A = ℕ} (is_on day p) 1 0 other)
    ]

pub day_sum_more : (day : ℤ) (pairs : List Pair) (i : ℕ) (d : Pair) → i < length pairs
    → day_sum (take (i + 1) pairs) day ≡ with_pair day (get_or pairs i d) (day_sum (take i pairs) day)
day_sum_more day pairs i d h =
    let count = count_more day pairs i d h in
    let amount = sum_by_more (amount_on day) pairs i d h in
    cc

amount_small : (day : ℤ) (p : Pair) → p.1 < 2 ^ 64 → amount_on day p ≤ 2 ^ 64 - 1
amount_small day p h = elim (cases_Bool (is_on day p)) [
  | inl is ↦ omega (arith, cond-true (is_on day p) p.1 0 is)
  | inr other ↦ omega (arith, cond-false (is_on day p) p.1 0 other)
]

-- fewer pairs than memory holds
pub day_sum_room : (day : ℤ) (pairs : List Pair) (i : ℕ) → i < length pairs → length pairs < 2 ^ 64
    → All (λ p. p.1 < 2 ^ 64) (take i pairs)
    → CanAddPair (day_sum (take i pairs) day)
day_sum_room day pairs i h few small =
    let so_far = take i pairs in
    let len = length-take i pairs in
    let at_most : length so_far ≤ 2 ^ 64 - 2 = omega arith in
    let each : All (λ (p : Pair). amount_on day p ≤ 2 ^ 64 - 1) so_far =
    All-weaker (λ (p : Pair). p.1 < 2 ^ 64) (λ (p : Pair). amount_on day p ≤ 2 ^ 64 - 1)
    (amount_small day) so_far small in
    record {
      count = omega (arith, count_by-le-length (is_on day) so_far);
      amount = omega (
        arith,
        sum_by-le (amount_on day) (2 ^ 64 - 1) so_far each,
        mul-le-mul_right (2 ^ 64 - 1) at_most,
      );
    }

-- what a write to a whole list leaves
pub whole : {X : Type 0} (n : ℕ) (xs ys : List X) → length ys ≡ n → take n (ys ++ drop (length ys) xs) ≡ ys
whole n xs ys h = take-append-le n ys (drop (length ys) xs) (omega arith) ∙ take_all n ys (omega arith)

-- the sums of all days of the range
pub sums_are : (pairs so_far : List Pair) (range : Span) (sums : List DaySum) → so_far ≡ pairs
    → length sums ≡ day_count range
    → ((k : ℕ) → k < day_count range → get_or sums k zero_sum ≡ day_sum so_far (range.first +ℤ pos k))
    → sums ≡ map (day_sum pairs) (days_of range)
sums_are pairs so_far range sums all many each =
    fill_by_all (λ k. day_sum so_far (range.first +ℤ pos k)) sums (day_count range) zero_sum many each
    ∙ sym (map-map (day_sum so_far) (λ k. range.first +ℤ pos k) (range_with_len 0 (day_count range)))
    ∙ ap (λ ps. map (day_sum ps) (days_of range)) all

pub many_days : {X : Type 0} (f : ℤ → X) (range : Span) → length (map f (days_of range)) ≡ day_count range
many_days f range =
    ap length (map-map f (λ k. range.first +ℤ pos k) (range_with_len 0 (day_count range)))
    ∙ length-map-range_with_len (λ k. f (range.first +ℤ pos k)) 0 (day_count range)

-- the sum of one of the days
pub day_at : (pairs : List Pair) (range : Span) (k : ℕ) (d : DaySum) (sums : List DaySum)
    → sums ≡ map (day_sum pairs) (days_of range) → k < day_count range
    → get_or sums k d ≡ day_sum pairs (range.first +ℤ pos k)
day_at pairs range k d sums is h =
    ap (λ xs. get_or xs k d)
    (is ∙ map-map (day_sum pairs) (λ k. range.first +ℤ pos k) (range_with_len 0 (day_count range)))
    ∙ get_or-map-range_with_len (λ k. day_sum pairs (range.first +ℤ pos k)) 0
    (day_count range) k k d h (omega arith)

-- the takings of a day, of its two sums
abbrev taken_of : ℤ → DaySum → DaySum → DayTakings
taken_of day sold back =
    record { day = day; sold = sold.count; sales = sold.amount; refunded = back.count; refunds = back.amount }

pub taken_same : {d day : ℤ} {s sold b back : DaySum} → d ≡ day → s ≡ sold → b ≡ back
    → taken_of d s b ≡ taken_of day sold back
taken_same at of_sales of_refunds = cc
