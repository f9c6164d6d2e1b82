-- Times and numbers are within their limits, in every row.
use Rattle.portal_model_laws.proofs.Common.{◌≡◌, ℕ, ◌+◌, ◌<◌, ◌≤◌, ◌⊎◌, inl, inr, max, Bool, true, false}
use Rattle.portal_model_laws.proofs.Common.{cond, not, List, [], ◌∷◌, length, Option, Some, None, get_or, pos}
use Rattle.portal_model_laws.proofs.Common.{neg_ℤ, ◌≤ℤ◌, refl, arith, leb-false, subst, ap, sym, ◌∙◌}
use Rattle.portal_model_laws.proofs.Common.{bytes_eq, nat_eq, nat_lt, nat_le, option_map, IfSome, All}
use Rattle.portal_model_laws.proofs.Common.{option_to_list, ints, nat_tests, All-nil, All-cons, All-append}
use Rattle.portal_model_laws.proofs.Common.{All-head, All-tail, All-weaker, All-map, Issue, Sell, Redeem}
use Rattle.portal_model_laws.proofs.Common.{Report, Refund, Close, Plan, Voucher, Session, Head, entry}
use Rattle.portal_model_laws.proofs.Common.{History, Place, places_from, IssuedVoucher, Grant, RefundEntry}
use Rattle.portal_model_laws.proofs.Common.{refund_entry_at, issued_of, sold_of, uses_of, refund_of, used_of}
use Rattle.portal_model_laws.proofs.Common.{closed_of, plan_of, batch_of, batch_row, expiry, voucher_of}
use Rattle.portal_model_laws.proofs.Common.{voucher_row, grants_of, greatest_session, members, oldest}
use Rattle.portal_model_laws.proofs.Common.{session_of, last_session_of, kept_if, is_open_at, head_of}
use Rattle.portal_model_laws.proofs.Common.{last_moment, limit_or_none, session_after, raised_by, batches_of}
use Rattle.portal_model_laws.proofs.Common.{places_of, row_of_place, count_of_place, openings, row_of_opening}
use Rattle.portal_model_laws.proofs.Common.{session_opened, total_of_opening, remaining_of, row_of_grant}
use Rattle.portal_model_laws.proofs.Common.{grant_rows, IsLegal, any_held, greatest_moment}
use Rattle.portal_model_laws.proofs.Common.{greatest_allowance, greatest_count, place_verdict, same_limits}
use Rattle.portal_model_laws.proofs.Common.{is_past}
use Rattle.portal_model_laws.specs.Laws.{RowsAreWithinLimits}
use Rattle.portal_model_laws.specs.Limits.{greatest_report, IsMoment, IsRowNumber, HeadIsWithin}
use Rattle.portal_model_laws.specs.Limits.{BatchIsWithin, VoucherIsWithin, SessionIsWithin, GrantIsWithin}
use Rattle.portal_model_laws.specs.Limits.{CountIsWithin, TotalIsWithin}
use Rattle.portal_model_laws.proofs.Basics.{picked, some-same}
use Rattle.portal_model_laws.proofs.Accepted.{passed, issuable, redeemable}
use Rattle.portal_model_laws.proofs.Placing.{before_row}
use Rattle.portal_model_laws.proofs.Uses.{UsesFit, uses_fit}
use Rattle.portal_model_laws.proofs.Bounds.{RefundFits, refund_fits, sessions_fewer}
use Rattle.portal_model_laws.proofs.Openings.{IsFirst, openings_first, session_at}
use Rattle.portal_model_laws.proofs.Opens.{adds}
use Rattle.portal_model_laws.proofs.Placed.{ArePlaced, are_placed, IsJoining, joining-low, no-zero}
use Rattle.portal_model_laws.proofs.Placed.{All-openings}

-- The head

last_within : (H : History) → IsLegal H → IsMoment (last_moment H)
last_within [] legal = omega arith
last_within (entry t command ∷ H) legal = legal.0.in_range

-- what the placing of an accepted redemption has shown
pub record IsPlaceable (head : Head) (plan : Plan) (t : ℕ) (running : Option Session) : Type 0 where
  pub count : head.grants < greatest_count
  pub ends : IfSome running (λ s. is_past greatest_moment s.ends plan.seconds ≡ false)
  pub allowance : IfSome running (λ s. is_past greatest_allowance s.allowance plan.bytes ≡ false)
  pub new_end : running ≡ None → t + plan.seconds ≤ greatest_moment

not-above : (limit n : ℕ) → nat_lt limit n ≡ false → n ≤ limit
not-above limit n e = grind (arith, nat_tests)

placeable : (head : Head) (plan : Plan) (t : ℕ) (running : Option Session)
    → place_verdict head plan t running ≡ None → IsPlaceable head plan t running
placeable head plan t None e =
    let timely = passed (nat_lt greatest_moment (t + plan.seconds)) _ _ e in
    let counted = passed (nat_le greatest_count head.grants) _ _ timely.1 in
    record {
      count = leb-false greatest_count head.grants counted.0;
      ends = tt;
      allowance = tt;
      new_end = λ none. not-above greatest_moment (t + plan.seconds) timely.0;
    }
placeable head plan t (Some s) e =
    let extends = passed (not s.extend) _ _ e in
    let shaped = passed (not (same_limits s plan)) _ _ extends.1 in
    let granted = passed (is_past greatest_allowance s.allowance plan.bytes) _ _ shaped.1 in
    let timely = passed (is_past greatest_moment s.ends plan.seconds) _ _ granted.1 in
    let counted = passed (nat_le greatest_count head.grants) _ _ timely.1 in
    record {
      count = leb-false greatest_count head.grants counted.0;
      ends = timely.0;
      allowance = granted.0;
      new_end = λ none. cc;
    }

redeem-placeable : (H : History) (t : ℕ) (d c : List ℕ)
    → IsLegal (entry t (Redeem d c) ∷ H) → (i : IssuedVoucher) → issued_of H c ≡ Some i
    → IsPlaceable (head_of H) i.plan t (kept_if (is_open_at t) (last_session_of H d))
redeem-placeable H t d c legal i is =
    let found = redeemable (head_of H) (voucher_of H c) (last_session_of H d) t legal.0.accepted in
    let same : found.0 ≡ voucher_row H c i =
    some-same found.0 (voucher_row H c i) (sym found.1 ∙ ap (option_map (voucher_row H c)) is) in
    subst (λ (v : Voucher). IsPlaceable (head_of H) v.plan t (kept_if (is_open_at t) (last_session_of H d)))
    same
    (placeable (head_of H) found.0.plan t (kept_if (is_open_at t) (last_session_of H d)) found.3)

grants_within : (H : History) → IsLegal H → length (grants_of H) ≤ greatest_count
grants_within [] legal = omega arith
grants_within (entry t (Redeem d c) ∷ H) legal =
    let new = adds H t d c legal in
    let low : length (grants_of H) < greatest_count =
    (redeem-placeable H t d c legal new.issued new.found).count in
    subst (λ (gs : List Grant). length gs ≤ greatest_count) (sym new.grants) (omega arith)
grants_within (_ ∷ H) legal = grants_within H legal.1

head_within : (H : History) → IsLegal H → HeadIsWithin (head_of H)
head_within H legal =
    record { last = last_within H legal; grants = grants_within H legal; sessions = sessions_fewer H }

-- Batches

batch_within : (t : ℕ) (b : List ℕ) (size : ℕ) (o : Option Plan) → IsMoment t
    → 1 ≤ size → size ≤ 500 → ((plan : Plan) → o ≡ Some plan → IsMoment (expiry t plan))
    → All BatchIsWithin (option_to_list (option_map (batch_row t b size) o))
batch_within t b size None at least most timely = All-nil BatchIsWithin
batch_within t b size (Some plan) at least most timely =
    All-cons BatchIsWithin (batch_row t b size plan) []
    (record { issued = at; expires = timely plan refl; size_least = least; size_most = most })
    (All-nil BatchIsWithin)

batches_within : (H : History) → IsLegal H → All BatchIsWithin (batches_of H)
batches_within [] legal = All-nil BatchIsWithin
batches_within (entry t (Issue b p codes) ∷ H) legal =
    let facts = issuable (plan_of H p) (batch_of H b) (any_held H codes) codes t legal.0.accepted in
    All-append BatchIsWithin (batches_of H)
    (option_to_list (option_map (batch_row t b (length codes)) (plan_of H p))) (batches_within H legal.1)
    (batch_within t b (length codes) (plan_of H p) legal.0.in_range
    legal.0.well_formed.0 legal.0.well_formed.1
    (λ plan e. let same : facts.plan_is ≡ plan = some-same facts.plan_is plan (sym facts.known ∙ e) in
    subst (λ (x : Plan). IsMoment (expiry t x)) same
    (not-above greatest_moment (expiry t facts.plan_is) facts.timely)))
batches_within (_ ∷ H) legal = batches_within H legal.1

-- Vouchers and counts

below-all : (b : List ℕ) (n : ℕ) (codes : List (List ℕ))
    → All (λ k. k.place < n + length codes) (places_from b n codes)
below-all b n [] = λ i d h. absurd (omega arith)
below-all b n (code ∷ codes) =
    All-cons (λ (k : Place). k.place < n + length (code ∷ codes))
    (record { code = code; batch = b; place = n }) (places_from b (n + 1) codes) (omega arith)
    (All-weaker (λ (k : Place). k.place < n + 1 + length codes)
    (λ (k : Place). k.place < n + length (code ∷ codes)) (λ k low. omega arith) (places_from b (n + 1) codes)
    (below-all b (n + 1) codes))

places_within : (H : History) → IsLegal H → All (λ k. k.place < 500) (places_of H)
places_within [] legal = All-nil (λ (k : Place). k.place < 500)
places_within (entry t (Issue b p codes) ∷ H) legal =
    let few : length codes ≤ 500 = legal.0.well_formed.1 in
    All-append (λ (k : Place). k.place < 500) (places_of H) (places_from b 0 codes) (places_within H legal.1)
    (All-weaker (λ (k : Place). k.place < 0 + length codes) (λ (k : Place). k.place < 500)
    (λ k low. omega arith) (places_from b 0 codes) (below-all b 0 codes))
places_within (_ ∷ H) legal = places_within H legal.1

-- of two values within limits, the chosen one
if-within : {A : Type 0} (P : A → Type 0) (b : Bool) (o p : Option A) → IfSome o P
    → IfSome p P → IfSome (cond b o p) P
if-within P true o p h k = h
if-within P false o p h k = k

sold_within : (H : History) → IsLegal H → (code : List ℕ) → IfSome (sold_of H code) IsMoment
sold_within [] legal code = tt
sold_within (entry t (Sell c) ∷ H) legal code = if-within IsMoment (bytes_eq c code) (Some t) (sold_of H code)
    legal.0.in_range (sold_within H legal.1 code)
sold_within (_ ∷ H) legal code = sold_within H legal.1 code

repaid-moment : (o : Option IssuedVoucher) (t n : ℕ) → IsMoment t
    → IfSome (option_map (refund_entry_at t n) o) (λ r. IsMoment r.at)
repaid-moment None t n h = tt
repaid-moment (Some i) t n h = h

refund_moment : (H : History) → IsLegal H → (code : List ℕ) → IfSome (refund_of H code) (λ r. IsMoment r.at)
refund_moment [] legal code = tt
refund_moment (entry t (Refund c) ∷ H) legal code =
    if-within (λ (r : RefundEntry). IsMoment r.at) (bytes_eq c code)
    (option_map (refund_entry_at t (uses_of H code)) (issued_of H code)) (refund_of H code)
    (repaid-moment (issued_of H code) t (uses_of H code) legal.0.in_range) (refund_moment H legal.1 code)
refund_moment (_ ∷ H) legal code = refund_moment H legal.1 code

amount-within : (o : Option IssuedVoucher) (r : Option RefundEntry) → RefundFits o r
    → IfSome (option_map (λ x. x.amount) r) (λ amount. amount ≤ 100000000)
amount-within None None h = tt
amount-within None (Some r) h = cc
amount-within (Some i) None h = tt
amount-within (Some i) (Some r) h = let low : i.plan.price ≤ 100000000 = i.plan.price_limit in
    omega (arith, h)

moment-of : (r : Option RefundEntry) → IfSome r (λ x. IsMoment x.at)
    → IfSome (option_map (λ x. x.at) r) IsMoment
moment-of None h = tt
moment-of (Some r) h = h

voucher_within : (H : History) → IsLegal H → (k : Place) → k.place < 500 → VoucherIsWithin (row_of_place H k)
voucher_within H legal k low = record {
  place = low;
  sold = sold_within H legal k.code;
  refunded = moment-of (refund_of H k.code) (refund_moment H legal k.code);
  amount = amount-within (issued_of H k.code) (refund_of H k.code) (refund_fits H k.code legal);
}

uses-within : (o : Option IssuedVoucher) (n : ℕ) → UsesFit o n → n ≤ 100000
uses-within None n h = omega arith
uses-within (Some i) n h = let low : i.plan.uses ≤ 100000 = i.plan.uses_limit in omega (arith, h)

count_within : (H : History) → IsLegal H → (k : Place) → CountIsWithin (count_of_place H k)
count_within H legal k =
    record { redeemed = uses-within (issued_of H k.code) (uses_of H k.code) (uses_fit H legal k.code) }

-- Sessions

used_within : (H : History) → IsLegal H → (n : ℕ) → used_of H n ≤ greatest_report
used_within [] legal n = omega arith
used_within (entry t (Report m bytes) ∷ H) legal n =
    go (nat_eq m n) legal.0.well_formed (used_within H legal.1 n)
  where
    go : (b : Bool) → bytes ≤ greatest_report → used_of H n ≤ greatest_report
        → cond b (max bytes (used_of H n)) (used_of H n) ≤ greatest_report
    go true low rest = omega arith
    go false low rest = rest
used_within (_ ∷ H) legal n = used_within H legal.1 n

closed_within : (H : History) → IsLegal H → (n : ℕ) → IfSome (closed_of H n) IsMoment
closed_within [] legal n = tt
closed_within (entry t (Close m) ∷ H) legal n =
    if-within IsMoment (nat_eq m n) (Some t) (closed_of H n) legal.0.in_range (closed_within H legal.1 n)
closed_within (_ ∷ H) legal n = closed_within H legal.1 n

-- the end and the allowance of a session are within their limits
pub record IsFitting (s : Session) : Type 0 where
  pub ends : IfSome s.ends IsMoment
  pub allowance : IfSome s.allowance (λ a. a ≤ greatest_allowance)

limited-within : (P : ℕ → Type 0) (given total : ℕ) → P total → IfSome (limit_or_none given total) P
limited-within P given total h = if-within P (nat_eq given 0) None (Some total) tt h

raised-within : (greatest : ℕ) (o : Option ℕ) (more : ℕ) → is_past greatest o more ≡ false
    → IfSome (raised_by o more) (λ x. x ≤ greatest)
raised-within greatest None more e = tt
raised-within greatest (Some limit) more e = not-above greatest (limit + more) e

fits-after : (head : Head) (plan : Plan) (running : Option Session) (d : List ℕ) (t : ℕ)
    → IsPlaceable head plan t running → IsFitting (session_after head plan running d t)
fits-after head plan None d t places_from =
    let bytes : plan.bytes ≤ 1000000000000000 = plan.bytes_limit in
    record {
      ends = limited-within IsMoment plan.seconds (t + plan.seconds) (places_from.new_end refl);
      allowance = limited-within (λ a. a ≤ greatest_allowance) plan.bytes plan.bytes (omega arith);
    }
fits-after head plan (Some s) d t places_from = record {
  ends = raised-within greatest_moment s.ends plan.seconds places_from.ends;
  allowance = raised-within greatest_allowance s.allowance plan.bytes places_from.allowance;
}

session_fits : (H : History) → IsLegal H → (n : ℕ) (s : Session) → session_of H n ≡ Some s → IsFitting s
session_fits [] legal n s e = cc
session_fits (entry t (Redeem d c) ∷ H) legal n s e =
    let running : Option Session = kept_if (is_open_at t) (last_session_of H d) in
    let new = adds H t d c legal in
    let after : Session = session_after (head_of H) new.issued.plan running d t in
    let fits = fits-after (head_of H) new.issued.plan running d t
    (redeem-placeable H t d c legal new.issued new.found) in
    elim (picked (nat_eq after.number n) after s (session_of H n) (sym (new.session n) ∙ e)) [
      | inl is ↦ subst IsFitting is.1 fits
      | inr is ↦ session_fits H legal.1 n s is.1
    ]
session_fits (x ∷ H) legal n s e =
    let found = before_row H (x ∷ H) n s e in
    let before = session_fits H legal.1 n _ found.1 in
    subst IsFitting found.2 (record { ends = before.ends; allowance = before.allowance })

-- Grants

low-sessions : (gs : List Grant) → ArePlaced gs
    → All (λ g. (1 ≤ g.session) × (g.session ≤ greatest_session gs)) gs
low-sessions [] places_from = All-nil (λ (g : Grant). (1 ≤ g.session) × (g.session ≤ greatest_session []))
low-sessions (g ∷ gs) places_from =
    All-cons (λ (x : Grant). (1 ≤ x.session) × (x.session ≤ greatest_session (g ∷ gs))) g gs
    (go places_from.0)
    (All-weaker (λ (x : Grant). (1 ≤ x.session) × (x.session ≤ greatest_session gs))
    (λ (x : Grant). (1 ≤ x.session) × (x.session ≤ greatest_session (g ∷ gs))) (λ x h. (h.0, omega arith)) gs
    (low-sessions gs places_from.1))
  where
    go : (g.session ≡ greatest_session gs + 1) ⊎ IsJoining g gs
        → (1 ≤ g.session) × (g.session ≤ greatest_session (g ∷ gs))
    go (inl new) = (omega arith, omega arith)
    go (inr joins) =
        let low = joining-low g gs joins in
        let some : g.session ≡ 0 → ⊥ = λ e. let none = ap oldest (no-zero gs places_from.1) in
        let found = ap (λ (n : ℕ). oldest (members gs n)) (sym e) ∙ joins.found in
        cc in
        (omega arith, omega arith)

moments_within : (H : History) → IsLegal H → All (λ g. IsMoment g.at) (grants_of H)
moments_within [] legal = All-nil (λ (g : Grant). IsMoment g.at)
moments_within (entry t (Redeem d c) ∷ H) legal =
    let new = adds H t d c legal in
    subst (All (λ (g : Grant). IsMoment g.at)) (sym new.grants)
    (All-cons (λ (g : Grant). IsMoment g.at) _ (grants_of H) legal.0.in_range (moments_within H legal.1))
moments_within (_ ∷ H) legal = moments_within H legal.1

numbers_within : (H : History) → IsLegal H → All (λ g. IsRowNumber g.session) (grants_of H)
numbers_within H legal =
    let few : greatest_session (grants_of H) ≤ length (grants_of H) = sessions_fewer H in
    let least : length (grants_of H) ≤ greatest_count = grants_within H legal in
    All-weaker (λ (g : Grant). (1 ≤ g.session) × (g.session ≤ greatest_session (grants_of H)))
    (λ (g : Grant). IsRowNumber g.session) (λ g h. (h.0, omega arith)) (grants_of H)
    (low-sessions (grants_of H) (are_placed H legal))

grant-rows-within : (gs : List Grant) → length gs ≤ greatest_count → All (λ g. IsMoment g.at) gs
    → All (λ g. IsRowNumber g.session) gs → All GrantIsWithin (grant_rows gs)
grant-rows-within [] few moments numbers = All-nil GrantIsWithin
grant-rows-within (g ∷ gs) few moments numbers =
    All-append GrantIsWithin (grant_rows gs) (row_of_grant (length gs + 1) g ∷ [])
    (grant-rows-within gs (omega arith) (All-tail (λ (x : Grant). IsMoment x.at) g gs moments)
    (All-tail (λ (x : Grant). IsRowNumber x.session) g gs numbers))
    (All-cons GrantIsWithin (row_of_grant (length gs + 1) g) []
    (record {
      number = (omega arith, omega arith);
      session = All-head (λ (x : Grant). IsRowNumber x.session) g gs numbers;
      moment = All-head (λ (x : Grant). IsMoment x.at) g gs moments;
      seconds = g.plan.seconds_limit;
      bytes = g.plan.bytes_limit;
    }) (All-nil GrantIsWithin))

-- Rows of sessions and totals

left-least : (used : ℕ) (allowance : Option ℕ) → used ≤ greatest_report
    → IfSome (remaining_of used allowance) (λ left. neg_ℤ (pos greatest_report) ≤ℤ left)
left-least used None low = tt
left-least used (Some a) low = omega (arith, ints)

left-most : (used : ℕ) (allowance : Option ℕ) → IfSome allowance (λ a. a ≤ greatest_allowance)
    → IfSome (remaining_of used allowance) (λ left. left ≤ℤ pos greatest_allowance)
left-most used None low = tt
left-most used (Some a) low = omega (arith, ints)

session_within : (H : History) → IsLegal H → (g : Grant) → IsMoment g.at → IsRowNumber g.session
    → SessionIsWithin (row_of_opening H g)
session_within H legal g at number = record {
  number = number;
  opened = at;
  used = used_within H legal g.session;
  closed = closed_within H legal g.session;
}

total_within : (H : History) → IsLegal H → (g : Grant) → IsRowNumber g.session → IsFirst (grants_of H) g
    → TotalIsWithin (total_of_opening H g)
total_within H legal g number first =
    let fits = session_fits H legal g.session (session_opened H g) (session_at H g first) in
    record {
      number = number;
      ends = fits.ends;
      least = left-least (used_of H g.session) (session_opened H g).allowance (used_within H legal g.session);
      most = left-most (used_of H g.session) (session_opened H g).allowance fits.allowance;
    }

pub rows_are_within_limits : RowsAreWithinLimits
rows_are_within_limits H legal =
    let gs : List Grant = grants_of H in
    let numbers : All (λ g. IsRowNumber g.session) (openings gs) =
    All-openings (λ (g : Grant). IsRowNumber g.session) gs (numbers_within H legal) in
    let moments : All (λ g. IsMoment g.at) (openings gs) =
    All-openings (λ (g : Grant). IsMoment g.at) gs (moments_within H legal) in
    record {
      head = head_within H legal;
      batches = batches_within H legal;
      vouchers = All-map VoucherIsWithin (row_of_place H) (places_of H)
          (All-weaker (λ (k : Place). k.place < 500) (λ k. VoucherIsWithin (row_of_place H k))
          (λ k low. voucher_within H legal k low) (places_of H) (places_within H legal));
      sessions = All-map SessionIsWithin (row_of_opening H) (openings gs)
          (λ i d h. session_within H legal (get_or (openings gs) i d) (moments i d h) (numbers i d h));
      grants = grant-rows-within gs (grants_within H legal) (moments_within H legal) (numbers_within H legal);
      counts = All-map CountIsWithin (count_of_place H) (places_of H)
          (λ i d h. count_within H legal (get_or (places_of H) i d));
      totals = All-map TotalIsWithin (total_of_opening H) (openings gs) (λ i d h.
          total_within H legal (get_or (openings gs) i d) (numbers i d h) (openings_first gs i d h));
    }
