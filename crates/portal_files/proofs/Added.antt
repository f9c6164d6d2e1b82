-- Takings are added up from payments with their days, in any order.
use Rattle.portal_files.proofs.Common.{◌≡◌, ℕ, ◌+◌, ℤ, Bool, true, false, cond, List, [], ◌∷◌, refl, ap, sym}
use Rattle.portal_files.proofs.Common.{◌∙◌, arith, filter, length, sum_by, count_by, int_eq, TimeZone}
use Rattle.portal_files.proofs.Common.{DayTakings, Payment, sales_of, refunds_of, by_day, local_day_of}
use Rattle.portal_files.proofs.Common.{paid_on, sum_of, ArePaid, TakingsAreAdded}
use Rattle.std.proofs.lemmas.List.Sorted.{sum_by-IsPermutation}
use Rattle.std.proofs.lemmas.List.Sums.{sum_by-cons, length-filter}
use Rattle.portal_model.specs.Takings.{Pair, is_on, amount_on}
use Rattle.portal_model.proofs.Totals.{sum_by-map}

sum_by-filtered : (test : Payment → Bool) (f : Payment → ℕ) (payments : List Payment)
    → sum_by (λ p. cond (test p) (f p) 0) payments ≡ sum_by f (filter test payments)
sum_by-filtered test f [] = refl
sum_by-filtered test f (p ∷ ps) = sum_by-cons (λ q. cond (test q) (f q) 0) p ps
    ∙ ap (λ n. cond (test p) (f p) 0 + n) (sum_by-filtered test f ps) ∙ kept (test p)
  where
    kept : (passes : Bool) → cond passes (f p) 0 + sum_by f (filter test ps)
        ≡ sum_by f (cond passes (p ∷ filter test ps) (filter test ps))
    kept true = sym (sum_by-cons f p (filter test ps))
    kept false = omega arith

pub counted : (zone : TimeZone) (payments : List Payment) (pairs : List Pair) (day : ℤ)
    → ArePaid zone payments pairs → count_by (is_on day) pairs ≡ length (paid_on zone day payments)
counted zone payments pairs day same =
    sum_by-IsPermutation (λ p. cond (is_on day p) 1 0) (by_day (local_day_of zone) payments) pairs same
    ∙ sum_by-map (λ p. cond (is_on day p) 1 0) (λ q. (local_day_of zone q.at, q.amount)) payments
    ∙ sym (length-filter (λ p. int_eq (local_day_of zone p.at) day) payments)

pub summed : (zone : TimeZone) (payments : List Payment) (pairs : List Pair) (day : ℤ)
    → ArePaid zone payments pairs → sum_by (amount_on day) pairs ≡ sum_of (paid_on zone day payments)
summed zone payments pairs day same =
    sum_by-IsPermutation (amount_on day) (by_day (local_day_of zone) payments) pairs same
    ∙ sum_by-map (amount_on day) (λ q. (local_day_of zone q.at, q.amount)) payments
    ∙ sum_by-filtered (λ p. int_eq (local_day_of zone p.at) day) (λ p. p.amount) payments

abbrev pub day_takings : ℤ → ℕ → ℕ → ℕ → ℕ → DayTakings
day_takings day sold sales refunded refunds =
    record { day = day; sold = sold; sales = sales; refunded = refunded; refunds = refunds }

pub takings_added : TakingsAreAdded
takings_added zone H sales refunds sold refunded day =
    let a = counted zone (sales_of H) sales day sold in
    let b = summed zone (sales_of H) sales day sold in
    let c = counted zone (refunds_of H) refunds day refunded in
    let d = summed zone (refunds_of H) refunds day refunded in
    λ i. day_takings day (a i) (b i) (c i) (d i)
