-- Takings are computed from the payments between two times that enclose their days.
use Rattle.portal_desk_store.proofs.Common.{◌≡◌, ◌⊎◌, inl, inr, ℕ, zero, suc, ◌+◌, ◌<◌, ◌≤◌, ℤ, pos, negsuc}
use Rattle.portal_desk_store.proofs.Common.{◌+ℤ◌, ◌-ℤ◌, ◌*ℤ◌, ◌≤ℤ◌, Bool, true, false, cond, List, [], ◌∷◌}
use Rattle.portal_desk_store.proofs.Common.{◌++◌, Option, Some, None, map, refl, ap, subst, ◌∙◌, arith}
use Rattle.portal_desk_store.proofs.Common.{option_map, filter, length, sum_by, count_by, IsPermutation, ◌&&◌}
use Rattle.portal_desk_store.proofs.Common.{nat_le, IfOk, IfErr, Result, Ok, Err, option_to_list, ints}
use Rattle.portal_desk_store.proofs.Common.{Ghosts, Load, Issue, Sell, Redeem, Report, Refund, Close, History}
use Rattle.portal_desk_store.proofs.Common.{IssuedVoucher, entry, issued_of, uses_of, amount_left, IsLegal}
use Rattle.portal_desk_store.proofs.Common.{greatest_moment, local_day_of, takings_over, payment_of}
use Rattle.portal_desk_store.proofs.Common.{is_paid_within, AreSales, AreRefunds, Refusal, Ledger, history_of}
use Rattle.portal_desk_store.proofs.Common.{running, Returns, paid_days, StoreDesk, stop_flag}
use Rattle.portal_desk_store.proofs.Common.{MovesFromLedger}
use Rattle.std.specs.Int.{int_div_euclid, int_gap}
use Rattle.std.specs.List.{range_with_len, AllByRecursion}
use Rattle.std.specs.Ordering.{int_eq}
use Rattle.std.proofs.lemmas.Bool.{le-leb}
use Rattle.std.proofs.lemmas.Bool.Decides.{Decides-int_eq}
use Rattle.std.proofs.lemmas.List.Sorted.{IsPermutation-map}
use Rattle.std.proofs.lemmas.Simd.{map-map}
use Rattle.jiff_core.specs.Timestamp.{IsOffsetSeconds}
use Rattle.jiff_tz.specs.Zone.{offset_at}
use Rattle.jiff_tz.specs.PosixRule as PosixRule
use Rattle.jiff_tz.specs.Tzif as Table
use Rattle.jiff_tz.specs.declared.timezone.TimeZone.{TimeZone}
use Rattle.jiff_tz.specs.declared.timezone.TimeZone.TheVariants.{UTC, Unknown, Fixed, Posix, Tzif}
use Rattle.portal_model.specs.Span.{Span, day_count, days_of}
use Rattle.portal_model.specs.Takings.{Pair, is_on, amount_on, takings_on}
use Rattle.portal_model.specs.declared.takings.DayTakings.{DayTakings}
use Rattle.portal_model.specs.Payments.{Payment, payment, sales_of, refunds_of, by_day}
use Rattle.portal_files.specs.Takings.{paid_on, sum_of, takings_of, ArePaid}
use Rattle.portal_files.proofs.Added.{counted, summed, day_takings}
use Rattle.portal_model.specs.declared.refusal.Refusal.TheVariants.{NoMemory}
use Rattle.portal_desk_store.proofs.StepLemmas.{decided_stop}
use Rattle.portal_desk_store.proofs.StopLemmas.{lacks_memory}

-- ---- a zone's clock is less than two days off

offset-within : (zone : TimeZone) (n : ℤ) → IsOffsetSeconds (offset_at zone n)
unfolding offset_at
offset-within UTC n = omega (arith, ints)
offset-within Unknown n = omega (arith, ints)
offset-within (Fixed o) n = o.in_range
offset-within (Posix tz) n = (PosixRule.offset_at tz n).in_range
offset-within (Tzif z) n = (Table.offset_at z.now n).in_range

from_day : (z d : ℤ) → d ≤ℤ int_div_euclid z (pos 86400) → (d *ℤ pos 86400) ≤ℤ z
from_day (pos a) d h = omega (arith, ints)
from_day (negsuc a) d h = omega (arith, ints)

to_day : (z d : ℤ) → int_div_euclid z (pos 86400) ≤ℤ d → z ≤ℤ (d *ℤ pos 86400 +ℤ pos 86399)
to_day (pos a) d h = omega (arith, ints)
to_day (negsuc a) d h = omega (arith, ints)

pub not_before : (zone : TimeZone) (t : ℕ) (day : ℤ) → day ≤ℤ local_day_of zone t
    → ((day -ℤ pos 2) *ℤ pos 86400) ≤ℤ pos t
not_before zone t day h =
    let off = offset_at zone (pos t *ℤ pos 1000000000) in
    let within : IsOffsetSeconds off = offset-within zone (pos t *ℤ pos 1000000000) in
    let low : (day *ℤ pos 86400) ≤ℤ (pos t +ℤ off) = from_day (pos t +ℤ off) day h in
    omega (arith, ints)

pub not_after : (zone : TimeZone) (t : ℕ) (day : ℤ) → local_day_of zone t ≤ℤ day
    → pos t ≤ℤ ((day +ℤ pos 3) *ℤ pos 86400)
not_after zone t day h =
    let off = offset_at zone (pos t *ℤ pos 1000000000) in
    let within : IsOffsetSeconds off = offset-within zone (pos t *ℤ pos 1000000000) in
    let high : (pos t +ℤ off) ≤ℤ (day *ℤ pos 86400 +ℤ pos 86399) = to_day (pos t +ℤ off) day h in
    omega (arith, ints)

-- ---- each payment's time is in range

abbrev InRange : Payment → Type 0
InRange p = p.at ≤ greatest_moment

more_in_range : (ps : List Payment) (found : Option Payment) → AllByRecursion InRange ps
    → AllByRecursion InRange (option_to_list found)
    → AllByRecursion InRange (ps ++ option_to_list found)
more_in_range [] found all one = one
more_in_range (p ∷ ps) found all one = (all.0, more_in_range ps found all.1 one)

sold_in_range : (H : History) → IsLegal H → AllByRecursion InRange (sales_of H)
sold_in_range [] legal = tt
sold_in_range (entry t (Load plans) ∷ H) legal = sold_in_range H legal.1
sold_in_range (entry t (Issue b p codes) ∷ H) legal = sold_in_range H legal.1
sold_in_range (entry t (Sell c) ∷ H) legal =
    more_in_range (sales_of H) (option_map (λ (v : IssuedVoucher). payment t v.plan.price) (issued_of H c))
    (sold_in_range H legal.1) (one (issued_of H c))
  where
    one : (found : Option IssuedVoucher)
        → AllByRecursion InRange (option_to_list (option_map (λ v. payment t v.plan.price) found))
    one None = tt
    one (Some v) = (legal.0.in_range, tt)
sold_in_range (entry t (Redeem d c) ∷ H) legal = sold_in_range H legal.1
sold_in_range (entry t (Report n bytes) ∷ H) legal = sold_in_range H legal.1
sold_in_range (entry t (Refund c) ∷ H) legal = sold_in_range H legal.1
sold_in_range (entry t (Close n) ∷ H) legal = sold_in_range H legal.1

refunded_in_range : (H : History) → IsLegal H → AllByRecursion InRange (refunds_of H)
refunded_in_range [] legal = tt
refunded_in_range (entry t (Load plans) ∷ H) legal = refunded_in_range H legal.1
refunded_in_range (entry t (Issue b p codes) ∷ H) legal = refunded_in_range H legal.1
refunded_in_range (entry t (Sell c) ∷ H) legal = refunded_in_range H legal.1
refunded_in_range (entry t (Redeem d c) ∷ H) legal = refunded_in_range H legal.1
refunded_in_range (entry t (Report n bytes) ∷ H) legal = refunded_in_range H legal.1
refunded_in_range (entry t (Refund c) ∷ H) legal = more_in_range (refunds_of H)
    (option_map (λ (v : IssuedVoucher). payment t (amount_left v.plan (uses_of H c))) (issued_of H c))
    (refunded_in_range H legal.1) (one (issued_of H c))
  where
    one : (found : Option IssuedVoucher) → AllByRecursion InRange
        (option_to_list (option_map (λ v. payment t (amount_left v.plan (uses_of H c))) found))
    one None = tt
    one (Some v) = (legal.0.in_range, tt)
refunded_in_range (entry t (Close n) ∷ H) legal = refunded_in_range H legal.1

-- the test shows that two days are equal
int_eq-true : (x y : ℤ) → int_eq x y ≡ true → x ≡ y
int_eq-true x y is = grind (arith, ints, Decides-int_eq x y)

-- ---- a second test removes nothing, if the first passes nothing that the second rejects

filter-narrower : (f g : Payment → Bool) (ps : List Payment)
    → AllByRecursion (λ p. f p ≡ true → g p ≡ true) ps → filter f (filter g ps) ≡ filter f ps
filter-narrower f g [] all = refl
filter-narrower f g (p ∷ ps) all = by_test (filter-narrower f g ps all.1) (g p) refl
  where
    unkept : (passes : Bool) → f p ≡ passes → g p ≡ false
        → filter f ps ≡ cond passes (p ∷ filter f ps) (filter f ps)
    unkept true is refused = absurd (cc (all.0 is))
    unkept false is refused = refl

    by_test : filter f (filter g ps) ≡ filter f ps → (within : Bool) → g p ≡ within
        → filter f (cond within (p ∷ filter g ps) (filter g ps)) ≡ cond (f p) (p ∷ filter f ps) (filter f ps)
    by_test rest true is = ap (λ (ys : List Payment). cond (f p) (p ∷ ys) ys) rest
    by_test rest false is = rest ∙ unkept (f p) refl is

-- ---- adding up

-- the days of payments that were read
with_days : (zone : TimeZone) (payments : List Payment) (answer : List (ℕ × ℕ))
    → IsPermutation payments (map payment_of answer) → ArePaid zone payments (paid_days zone answer)
with_days zone payments answer same =
    let g : Payment → Pair = λ q. (local_day_of zone q.at, q.amount) in
    subst (λ (pairs : List Pair). IsPermutation (by_day (local_day_of zone) payments) pairs)
    (map-map g payment_of answer) (IsPermutation-map g payments (map payment_of answer) same)

-- the same of each of the days
alike : (range : Span) (f g : ℤ → DayTakings) (a n : ℕ)
    → ((k : ℕ) → k < a + n → f (range.first +ℤ pos k) ≡ g (range.first +ℤ pos k))
    → map f (map (λ k. range.first +ℤ pos k) (range_with_len a n))
    ≡ map g (map (λ k. range.first +ℤ pos k) (range_with_len a n))
alike range f g a zero same = refl
alike range f g a (suc n) same = ap (λ (d : DayTakings).
    d ∷ map f (map (λ k. range.first +ℤ pos k) (range_with_len (a + 1) n))) (same a (omega arith))
    ∙ ap (λ (ds : List DayTakings). g (range.first +ℤ pos a) ∷ ds)
    (alike range f g (a + 1) n (λ k below. same k (omega arith)))

-- a day of a range is not past both of its ends
pub at_most : (a b : ℤ) (k : ℕ) → k < int_gap a b + 1 → ((a +ℤ pos k) ≤ℤ a) ⊎ ((a +ℤ pos k) ≤ℤ b)
at_most a b zero below = inl (omega (arith, ints))
at_most (pos a) (pos b) (suc k) below = inr (omega (arith, ints))
at_most (pos a) (negsuc b) (suc k) below = absurd (omega arith)
at_most (negsuc a) (pos b) (suc k) below = inr (omega (arith, ints))
at_most (negsuc a) (negsuc b) (suc k) below = inr (omega (arith, ints))

-- each time of the days is between the two times
abbrev pub Holds : Span → ℕ → ℕ → Type 0
Holds range from to = (zone : TimeZone) (t k : ℕ) → t ≤ greatest_moment → k < day_count range
    → local_day_of zone t ≡ range.first +ℤ pos k → (from ≤ t) × (t ≤ to)

module _ (zone : TimeZone) (range : Span) (from to : ℕ) (holds : Holds range from to) where
  -- a payment of one of the days was read
  is_read : (k : ℕ) → k < day_count range → (p : Payment) → InRange p
      → int_eq (local_day_of zone p.at) (range.first +ℤ pos k) ≡ true → is_paid_within from to p ≡ true
  is_read k below p limit on =
      let it =
      holds zone p.at k limit below (int_eq-true (local_day_of zone p.at) (range.first +ℤ pos k) on) in
      let one : nat_le from p.at ≡ true = le-leb from p.at it.0 in
      let two : nat_le p.at to ≡ true = le-leb p.at to it.1 in
      ap (λ b. b && nat_le p.at to) one ∙ two

  each_read : (k : ℕ) → k < day_count range → (ps : List Payment) → AllByRecursion InRange ps
      → AllByRecursion (λ p.
      int_eq (local_day_of zone p.at) (range.first +ℤ pos k) ≡ true → is_paid_within from to p ≡ true) ps
  each_read k below [] all = tt
  each_read k below (p ∷ ps) all = (is_read k below p all.0, each_read k below ps all.1)

  on_day : (k : ℕ) → k < day_count range → (ps : List Payment) → AllByRecursion InRange ps
      → paid_on zone (range.first +ℤ pos k) (filter (is_paid_within from to) ps)
      ≡ paid_on zone (range.first +ℤ pos k) ps
  on_day k below ps all = filter-narrower (λ p. int_eq (local_day_of zone p.at) (range.first +ℤ pos k))
      (is_paid_within from to) ps (each_read k below ps all)

  one_day : (H : History) → IsLegal H → (sales refunds : List (ℕ × ℕ)) → AreSales H from to sales
      → AreRefunds H from to refunds
      → (k : ℕ) → k < day_count range → takings_on (paid_days zone sales) (paid_days zone refunds)
      (range.first +ℤ pos k) ≡ takings_of zone H (range.first +ℤ pos k)
  one_day H legal sales refunds sold refunded k below =
      let day = range.first +ℤ pos k in
      let S = filter (is_paid_within from to) (sales_of H) in
      let R = filter (is_paid_within from to) (refunds_of H) in
      let sp = with_days zone S sales sold.payments in
      let rp = with_days zone R refunds refunded.payments in
      let so : paid_on zone day S ≡ paid_on zone day (sales_of H) =
      on_day k below (sales_of H) (sold_in_range H legal) in
      let ro : paid_on zone day R ≡ paid_on zone day (refunds_of H) =
      on_day k below (refunds_of H) (refunded_in_range H legal) in
      let a : count_by (is_on day) (paid_days zone sales) ≡ length (paid_on zone day (sales_of H)) =
      counted zone S (paid_days zone sales) day sp ∙ ap length so in
      let b : sum_by (amount_on day) (paid_days zone sales) ≡ sum_of (paid_on zone day (sales_of H)) =
      summed zone S (paid_days zone sales) day sp ∙ ap sum_of so in
      let c : count_by (is_on day) (paid_days zone refunds) ≡ length (paid_on zone day (refunds_of H)) =
      counted zone R (paid_days zone refunds) day rp ∙ ap length ro in
      let d : sum_by (amount_on day) (paid_days zone refunds) ≡ sum_of (paid_on zone day (refunds_of H)) =
      summed zone R (paid_days zone refunds) day rp ∙ ap sum_of ro in
      λ i. day_takings day (a i) (b i) (c i) (d i)

  -- the takings of all days
  pub taken : (H : History) → IsLegal H → (sales refunds : List (ℕ × ℕ)) → AreSales H from to sales
      → AreRefunds H from to refunds
      → map (takings_on (paid_days zone sales) (paid_days zone refunds)) (days_of range)
      ≡ takings_over zone H range
  taken H legal sales refunds sold refunded = alike range
      (takings_on (paid_days zone sales) (paid_days zone refunds)) (takings_of zone H) 0 (day_count range)
      (λ k below. one_day H legal sales refunds sold refunded k (omega (arith, below)))

-- the result from the payments that were read
pub added_up : (zone : TimeZone) (range : Span) (from to : ℕ) → Holds range from to
    → (sales refunds : List (ℕ × ℕ)) (sold refunded : List Pair)
    → sold ≡ paid_days zone sales → refunded ≡ paid_days zone refunds → (H : History) → IsLegal H
    → AreSales H from to sales → AreRefunds H from to refunds
    → map (takings_on sold refunded) (days_of range) ≡ takings_over zone H range
added_up zone range from to holds sales refunds sold refunded one two H legal some others =
    ap (λ (ps : List Pair). map (takings_on ps refunded) (days_of range)) one
    ∙ ap (λ (ps : List Pair). map (takings_on (paid_days zone sales) ps) (days_of range)) two
    ∙ taken zone range from to holds H legal sales refunds some others

-- the result, if the payments are those of the ledger
adds_so : {V : Type 0} (result : Result V Refusal) (items : V → List DayTakings) (zone : TimeZone)
    (range : Span) (L : Ledger) (days : List DayTakings)
    → IfOk result (λ v. items v ≡ days) → IfErr result (λ r. r ≡ NoMemory)
    → days ≡ takings_over zone (history_of L) range
    → Returns result (λ v H. items v ≡ takings_over zone H range) (running L) (running L)
adds_so (Ok v) items zone range L days made memory same = (made ∙ same, refl)
adds_so (Err r) items zone range L days made memory same = inl (memory, refl)

pub adds_at : {S V : Type 0} {g : Ghosts S} {desk : StoreDesk S} {result : Result V Refusal}
    (items : V → List DayTakings) (zone : TimeZone) (range : Span)
    (from to : ℕ) → Holds range from to → (sales refunds : List (ℕ × ℕ)) (sold refunded : List Pair)
    → sold ≡ paid_days zone sales → refunded ≡ paid_days zone refunds
    → IfOk result (λ v. items v ≡ map (takings_on sold refunded) (days_of range))
    → IfErr result (λ r. r ≡ NoMemory)
    → MovesFromLedger g desk desk result (λ L after.
    IsLegal (history_of L) → AreSales (history_of L) from to sales → AreRefunds (history_of L) from to refunds
    → Returns result (λ v H. items v ≡ takings_over zone H range) (running L) after)
adds_at {desk = desk} {result = result} items zone range from to holds sales refunds sold refunded one
    two made memory = record {
      rest = (refl, refl, refl);
      fault_free = λ honest. honest;
      stops = decided_stop (stop_flag desk) result (lacks_memory result memory);
      step = λ honest L at. (
        running L,
        at,
        λ legal some others. adds_so result items zone range L _ made memory
            (added_up zone range from to holds sales refunds sold refunded one two
            (history_of L) legal some others),
      );
    }
