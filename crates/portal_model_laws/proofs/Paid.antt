-- What was paid and paid back, by the rows of the vouchers.
use Rattle.portal_model_laws.proofs.Common.{◌≡◌, ℕ, ◌+◌, Bool, true, false, cond, List, [], ◌∷◌, ◌++◌, map}
use Rattle.portal_model_laws.proofs.Common.{Option, Some, None, get_or, refl, subst, ap, sym, ◌∙◌}
use Rattle.portal_model_laws.proofs.Common.{filter_map-append, bytes_eq, option_map, option_and_then, is_some}
use Rattle.portal_model_laws.proofs.Common.{◌||◌, All, option_or, option_to_list, filter_map, cons_option}
use Rattle.portal_model_laws.proofs.Common.{list_any, All-nil, All-cons, All-head, All-tail, All-weaker}
use Rattle.portal_model_laws.proofs.Common.{append-nil, Issue, Sell, Refund, Plan, Batch, Voucher, entry}
use Rattle.portal_model_laws.proofs.Common.{History, Place, places_from, IssuedVoucher, RefundEntry}
use Rattle.portal_model_laws.proofs.Common.{refund_entry_at, amount_left, issued_of, sold_of, uses_of}
use Rattle.portal_model_laws.proofs.Common.{refund_of, plan_of, batch_of, voucher_of, voucher_row, rows_of}
use Rattle.portal_model_laws.proofs.Common.{plans_of, places_of, row_of_place, plan_among, IsLegal, any_held}
use Rattle.portal_model_laws.proofs.Common.{has_duplicate}
use Rattle.std.specs.List.Sorted.{IsPermutation}
use Rattle.std.proofs.lemmas.List.Sorted.{IsPermutation-refl, IsPermutation-sym, IsPermutation-cons}
use Rattle.std.proofs.lemmas.List.Sorted.{IsPermutation-trans, IsPermutation-middle, IsPermutation-push_more}
use Rattle.portal_model.specs.Payments.{sales_from, refunds_from, Payment, payment, sales_of, refunds_of}
use Rattle.portal_model.specs.Payments.{sale_from, refund_from, plan_of_row}
use Rattle.portal_model_laws.specs.Laws.{SalesAreRows, RefundsAreRows}
use Rattle.portal_model_laws.proofs.Basics.{found-listed, bytes_same, bytes_refl, or-false, some-of-map}
use Rattle.portal_model_laws.proofs.Basics.{some-same, none-of-map, is_some-none}
use Rattle.portal_model_laws.proofs.Accepted.{issuable, sellable, refundable}
use Rattle.portal_model_laws.proofs.Plans.{plan_is_row}
use Rattle.portal_model_laws.proofs.Issuing.{place_among, IsBacked, Agrees, agrees-some, issued_is_placed}
use Rattle.portal_model_laws.proofs.Unissued.{unissued}
use Rattle.portal_model_laws.proofs.Keys.{batch_is_row, codes_in, codes_apart}

-- Lists of payments

filter_map-alike : {X : Type 0} (f g : X → Option Payment) (xs : List X) → All (λ x. f x ≡ g x) xs
    → filter_map f xs ≡ filter_map g xs
filter_map-alike f g [] all = refl
filter_map-alike f g (x ∷ xs) all =
    let here : f x ≡ g x = All-head (λ y. f y ≡ g y) x xs all in
    let rest : filter_map f xs ≡ filter_map g xs =
    filter_map-alike f g xs (All-tail (λ y. f y ≡ g y) x xs all) in
    rw (here, rest)

filter_map-none : {X : Type 0} (f : X → Option Payment) (xs : List X)
    → All (λ x. f x ≡ None) xs → filter_map f xs ≡ []
filter_map-none f [] all = refl
filter_map-none f (x ∷ xs) all =
    let here : f x ≡ None = All-head (λ y. f y ≡ None) x xs all in
    let rest : filter_map f xs ≡ [] = filter_map-none f xs (All-tail (λ y. f y ≡ None) x xs all) in
    rw (here, rest)

filter_map-map : {X Y : Type 0} (f : Y → Option Payment) (h : X → Y) (xs : List X)
    → filter_map f (map h xs) ≡ filter_map (λ x. f (h x)) xs
filter_map-map f h [] = refl
filter_map-map f h (x ∷ xs) = ap (cons_option (f (h x))) (filter_map-map f h xs)

-- what no element passes
none-pass : {X Y : Type 0} (test : Y → Bool) (f : X → Y) (xs : List X) → list_any test (map f xs) ≡ false
    → All (λ x. test (f x) ≡ false) xs
none-pass test f [] e = All-nil (λ x. test (f x) ≡ false)
none-pass test f (x ∷ xs) e =
    let parts = or-false (test (f x)) (list_any test (map f xs)) e in
    All-cons (λ y. test (f y) ≡ false) x xs parts.0 (none-pass test f xs parts.1)

-- the payments of the codes at the places
abbrev paid_at : (List ℕ → Option Payment) → List Place → List Payment
paid_at paid places = filter_map (λ k. paid k.code) places

-- One more payment

front : (p q : Payment) (xs ys : List Payment) → IsPermutation (p ∷ xs) ys
    → IsPermutation (p ∷ q ∷ xs) (q ∷ ys)
front p q xs ys h =
    IsPermutation-trans (p ∷ q ∷ xs) (q ∷ p ∷ xs) (q ∷ ys)
    (IsPermutation-sym (q ∷ p ∷ xs) (p ∷ q ∷ xs) (IsPermutation-middle (q ∷ []) p xs))
    (IsPermutation-cons q (p ∷ xs) ys h)

module _ (code : List ℕ) (p : Payment) (before after : List ℕ → Option Payment) (none : before code ≡ None)
    (is : (c : List ℕ) → after c ≡ cond (bytes_eq code c) (Some p) (before c)) where
  other-kept : (k : Place) → bytes_eq code k.code ≡ false → after k.code ≡ before k.code
  other-kept k other = is k.code ∙ ap (λ (b : Bool). cond b (Some p) (before k.code)) other

  unchanged : (places : List Place) → list_any (bytes_eq code) (codes_in places) ≡ false
      → paid_at after places ≡ paid_at before places
  unchanged places absent =
      filter_map-alike (λ k. after k.code) (λ k. before k.code) places
      (All-weaker (λ (k : Place). bytes_eq code k.code ≡ false) (λ k. after k.code ≡ before k.code) other-kept
      places (none-pass (bytes_eq code) (λ (k : Place). k.code) places absent))

  one-more : (places : List Place) → has_duplicate (codes_in places) ≡ false
      → list_any (bytes_eq code) (codes_in places) ≡ true
      → IsPermutation (p ∷ paid_at before places) (paid_at after places)
  one-more [] apart has = cc
  one-more (k ∷ places) apart has = go (one-more places) (bytes_eq code k.code) refl has
    where
      twice : (list_any (bytes_eq k.code) (codes_in places) ≡ false)
          × (has_duplicate (codes_in places) ≡ false)
      twice = or-false (list_any (bytes_eq k.code) (codes_in places)) (has_duplicate (codes_in places)) apart

      beside : (o : Option Payment) → IsPermutation (p ∷ paid_at before places) (paid_at after places)
          → IsPermutation (p ∷ cons_option o (paid_at before places)) (cons_option o (paid_at after places))
      beside None rest = rest
      beside (Some q) rest = front p q (paid_at before places) (paid_at after places) rest

      go : (has_duplicate (codes_in places) ≡ false → list_any (bytes_eq code) (codes_in places) ≡ true
          → IsPermutation (p ∷ paid_at before places) (paid_at after places))
          → (b : Bool) → bytes_eq code k.code ≡ b → (b || list_any (bytes_eq code) (codes_in places)) ≡ true
          → IsPermutation (p ∷ paid_at before (k ∷ places)) (paid_at after (k ∷ places))
      go rest true same h =
          let absent : list_any (bytes_eq code) (codes_in places) ≡ false =
          subst (λ (c : List ℕ). list_any (bytes_eq c) (codes_in places) ≡ false)
          (sym (bytes_same code k.code same)) twice.0 in
          let new : after k.code ≡ Some p =
          is k.code ∙ ap (λ (b : Bool). cond b (Some p) (before k.code)) same in
          let old : before k.code ≡ None = ap before (sym (bytes_same code k.code same)) ∙ none in
          let others : paid_at after places ≡ paid_at before places = unchanged places absent in
          let left : p ∷ paid_at before (k ∷ places) ≡ p ∷ paid_at before places =
          ap (λ o. p ∷ cons_option o (paid_at before places)) old in
          let right : paid_at after (k ∷ places) ≡ p ∷ paid_at before places =
          ap (λ o. cons_option o (paid_at after places)) new ∙ ap (λ ps. p ∷ ps) others in
          subst (λ ps. IsPermutation ps (paid_at after (k ∷ places))) (sym left)
          (subst (IsPermutation (p ∷ paid_at before places)) (sym right)
          (IsPermutation-refl (p ∷ paid_at before places)))
      go rest false other h =
          subst (λ o. IsPermutation (p ∷ paid_at before (k ∷ places)) (cons_option o (paid_at after places)))
          (sym (other-kept k other)) (beside (before k.code) (rest twice.1 h))

-- an issued code is among the places
issued-listed : (H : History) → IsLegal H → (code : List ℕ) (i : IssuedVoucher) → issued_of H code ≡ Some i
    → list_any (bytes_eq code) (codes_in (places_of H)) ≡ true
issued-listed H legal code i e =
    sym (found-listed (λ (k : Place). k.code) code (places_of H))
    ∙ sym (agrees-some (batch_of H) (plan_of H) (issued_of H code) (place_among (places_of H) code)
    (issued_is_placed H legal code))
    ∙ ap is_some e

-- Sales

-- the sale of a code
abbrev sale_at : History → List ℕ → Option Payment
sale_at H code =
    option_and_then (λ at. option_map (λ i. payment at i.plan.price) (issued_of H code)) (sold_of H code)

-- an issue changes no sale
sale-kept : (o new : Option IssuedVoucher) (sold : Option ℕ) → (o ≡ None → sold ≡ None)
    → option_and_then (λ t. option_map (λ i. payment t i.plan.price) (option_or o new)) sold
    ≡ option_and_then (λ t. option_map (λ i. payment t i.plan.price) o) sold
sale-kept o new None h = refl
sale-kept None new (Some t) h = let none = h refl in cc
sale-kept (Some i) new (Some t) h = refl

-- a code that was not issued has no sale
unsold : (H : History) (code : List ℕ) → sold_of H code ≡ None → sale_at H code ≡ None
unsold H code none =
    ap (option_and_then (λ at. option_map (λ i. payment at i.plan.price) (issued_of H code))) none

placed-none : (f : List ℕ → Option Payment) (b : List ℕ) (n : ℕ) (codes : List (List ℕ))
    → All (λ c. f c ≡ None) codes → paid_at f (places_from b n codes) ≡ []
placed-none f b n [] all = refl
placed-none f b n (code ∷ codes) all =
    let here : f code ≡ None = All-head (λ c. f c ≡ None) code codes all in
    let rest : paid_at f (places_from b (n + 1) codes) ≡ [] =
    placed-none f b (n + 1) codes (All-tail (λ c. f c ≡ None) code codes all) in
    rw (here, rest)

free-codes : (H : History) (codes : List (List ℕ)) → any_held H codes ≡ false
    → All (λ c. issued_of H c ≡ None) codes
free-codes H [] e = All-nil (λ c. issued_of H c ≡ None)
free-codes H (code ∷ codes) e =
    let parts = or-false (is_some (issued_of H code)) (any_held H codes) e in
    All-cons (λ c. issued_of H c ≡ None) code codes (is_some-none (issued_of H code) parts.0)
    (free-codes H codes parts.1)

-- new codes are not paid, and the payments of the others stay
paid_issue : (H : History) (before after : List ℕ → Option Payment)
    → ((code : List ℕ) → after code ≡ before code)
    → ((code : List ℕ) → issued_of H code ≡ None → before code ≡ None)
    → (b : List ℕ) (codes : List (List ℕ)) → any_held H codes ≡ false
    → paid_at after (places_of H ++ places_from b 0 codes) ≡ paid_at before (places_of H)
paid_issue H before after kept unpaid b codes free =
    let old = filter_map-alike (λ (k : Place). after k.code) (λ k. before k.code) (places_of H)
    (λ i d h. kept ((get_or (places_of H) i d).code)) in
    let new : paid_at after (places_from b 0 codes) ≡ [] =
    placed-none after b 0 codes (All-weaker (λ c. issued_of H c ≡ None) (λ c. after c ≡ None)
    (λ c none. kept c ∙ unpaid c none) codes (free-codes H codes free)) in
    filter_map-append (λ (k : Place). after k.code) (places_of H) (places_from b 0 codes)
    ∙ ap (λ ps. paid_at after (places_of H) ++ ps) new
    ∙ append-nil (paid_at after (places_of H))
    ∙ old

sales_issue : (H : History) → IsLegal H → (t : ℕ) (b p : List ℕ) (codes : List (List ℕ))
    → any_held H codes ≡ false
    → paid_at (sale_at (entry t (Issue b p codes) ∷ H)) (places_of H ++ places_from b 0 codes)
    ≡ paid_at (sale_at H) (places_of H)
sales_issue H legal t b p codes free =
    paid_issue H (sale_at H) (sale_at (entry t (Issue b p codes) ∷ H))
    (λ code. sale-kept (issued_of H code) _ (sold_of H code) (λ none. (unissued H legal code none).sold))
    (λ code none. unsold H code (unissued H legal code none).sold) b codes free

sales_sell : (H : History) → IsLegal H → (t : ℕ) (c : List ℕ) (v : Voucher)
    → voucher_of H c ≡ Some v → v.sold ≡ None
    → IsPermutation (sales_of H) (paid_at (sale_at H) (places_of H))
    → IsPermutation (sales_of (entry t (Sell c) ∷ H)) (paid_at (sale_at (entry t (Sell c) ∷ H)) (places_of H))
sales_sell H legal t c v is kept before =
    let issued = some-of-map (voucher_row H c) (issued_of H c) v is in
    let i : IssuedVoucher = issued.0 in
    let none : sold_of H c ≡ None = ap (λ (x : Voucher). x.sold) issued.2 ∙ kept in
    let paid : Payment = payment t i.plan.price in
    let one : sales_of (entry t (Sell c) ∷ H) ≡ sales_of H ++ paid ∷ [] =
    ap (λ o. sales_of H ++ option_to_list (option_map (λ x. payment t x.plan.price) o)) issued.1 in
    let more = one-more c paid (sale_at H) (sale_at (entry t (Sell c) ∷ H)) (unsold H c none)
    (λ code. go i issued.1 code (bytes_eq c code) refl) (places_of H) (codes_apart H legal)
    (issued-listed H legal c i issued.1) in
    subst (λ ps. IsPermutation ps (paid_at (sale_at (entry t (Sell c) ∷ H)) (places_of H))) (sym one)
    (IsPermutation-push_more (sales_of H) (paid_at (sale_at H) (places_of H))
    (paid_at (sale_at (entry t (Sell c) ∷ H)) (places_of H)) paid before more)
  where
    go : (i : IssuedVoucher) → issued_of H c ≡ Some i → (code : List ℕ) (b : Bool) → bytes_eq c code ≡ b
        → option_and_then (λ at. option_map (λ x. payment at x.plan.price) (issued_of H code))
        (cond b (Some t) (sold_of H code)) ≡ cond b (Some (payment t i.plan.price)) (sale_at H code)
    go i e code true same = ap (λ (x : List ℕ). option_map (λ y. payment t y.plan.price) (issued_of H x))
        (sym (bytes_same c code same)) ∙ ap (option_map (λ x. payment t x.plan.price)) e
    go i e code false same = refl

sales_placed : (H : History) → IsLegal H → IsPermutation (sales_of H) (paid_at (sale_at H) (places_of H))
sales_placed [] legal = IsPermutation-refl []
sales_placed (entry t (Issue b p codes) ∷ H) legal =
    subst (IsPermutation (sales_of H)) (sym (sales_issue H legal.1 t b p codes
    (issuable (plan_of H p) (batch_of H b) (any_held H codes) codes t legal.0.accepted).free))
    (sales_placed H legal.1)
sales_placed (entry t (Sell c) ∷ H) legal =
    let v = sellable (voucher_of H c) t legal.0.accepted in
    sales_sell H legal.1 t c v.0 v.1 v.2 (sales_placed H legal.1)
sales_placed (_ ∷ H) legal = sales_placed H legal.1

-- A place that is among the places is the place of its code
own_place : (places : List Place) → has_duplicate (codes_in places) ≡ false
    → All (λ k. place_among places k.code ≡ Some k) places
own_place [] apart = All-nil (λ (k : Place). place_among [] k.code ≡ Some k)
own_place (k ∷ places) apart =
    let parts =
    or-false (list_any (bytes_eq k.code) (codes_in places)) (has_duplicate (codes_in places)) apart in
    All-cons (λ (x : Place). place_among (k ∷ places) x.code ≡ Some x) k places
    (ap (λ (b : Bool). cond b (Some k) (place_among places k.code)) (bytes_refl k.code))
    (λ i d h.
    ap (λ (b : Bool). cond b (Some k) (place_among places (get_or places i d).code))
    (none-pass (bytes_eq k.code) (λ (x : Place). x.code) places parts.0 i d h)
    ∙ own_place places parts.1 i d h)

plan-alike : (H : History) → IsLegal H → (k : Place) (i : IssuedVoucher)
    → IsBacked (batch_of H) (plan_of H) i k → plan_of_row (rows_of H) (row_of_place H k) ≡ Some i.plan
plan-alike H legal k i back =
    ap (option_and_then (λ (batch : Batch). plan_among (plans_of H) batch.plan))
    (sym (batch_is_row H legal k.batch) ∙ back.found)
    ∙ sym (plan_is_row H back.batch.plan)
    ∙ back.plan

sale-alike : (H : History) → IsLegal H → (k : Place) (o : Option IssuedVoucher) (q : Option Place)
    → q ≡ Some k → Agrees (batch_of H) (plan_of H) o q
    → sale_from (rows_of H) (row_of_place H k)
    ≡ option_and_then (λ at. option_map (λ i. payment at i.plan.price) o) (sold_of H k.code)
sale-alike H legal k None None e h = cc
sale-alike H legal k None (Some j) e h = absurd h
sale-alike H legal k (Some i) None e h = cc
sale-alike H legal k (Some i) (Some j) e h =
    let back : IsBacked (batch_of H) (plan_of H) i k =
    subst (IsBacked (batch_of H) (plan_of H) i) (some-same j k e) h in
    ap (λ o. option_and_then (λ at. option_map (λ (plan : Plan). payment at plan.price) o) (sold_of H k.code))
    (plan-alike H legal k i back)

-- what holds of a place that is the place of its code, with what is known of the code
pub places-agree : (H : History) → IsLegal H
    → All (λ k. place_among (places_of H) k.code ≡ Some k) (places_of H)
places-agree H legal = own_place (places_of H) (codes_apart H legal)

pub sales_are_rows : SalesAreRows
sales_are_rows H legal =
    let rows : paid_at (sale_at H) (places_of H) ≡ sales_from (rows_of H) =
    filter_map-alike (λ k. sale_at H k.code) (λ k. sale_from (rows_of H) (row_of_place H k)) (places_of H)
    (All-weaker (λ (k : Place). place_among (places_of H) k.code ≡ Some k)
    (λ k. sale_at H k.code ≡ sale_from (rows_of H) (row_of_place H k))
    (λ k own. sym (sale-alike H legal k (issued_of H k.code) (place_among (places_of H) k.code) own
    (issued_is_placed H legal k.code))) (places_of H) (places-agree H legal))
    ∙ sym (filter_map-map (sale_from (rows_of H)) (row_of_place H) (places_of H)) in
    subst (IsPermutation (sales_of H)) rows (sales_placed H legal)

-- Refunds

-- the refund of a code
abbrev refund_at : History → List ℕ → Option Payment
refund_at H code = option_map (λ r. payment r.at r.amount) (refund_of H code)

unrefunded : (H : History) (code : List ℕ) → refund_of H code ≡ None → refund_at H code ≡ None
unrefunded H code none = ap (option_map (λ (r : RefundEntry). payment r.at r.amount)) none

refunds_issue : (H : History) → IsLegal H → (b : List ℕ) (codes : List (List ℕ)) → any_held H codes ≡ false
    → paid_at (refund_at H) (places_of H ++ places_from b 0 codes) ≡ paid_at (refund_at H) (places_of H)
refunds_issue H legal b codes free = paid_issue H (refund_at H) (refund_at H) (λ code. refl)
    (λ code none. unrefunded H code (unissued H legal code none).refund) b codes free

refunds_refund : (H : History) → IsLegal H → (t : ℕ) (c : List ℕ) (v : Voucher)
    → voucher_of H c ≡ Some v → v.refund ≡ None
    → IsPermutation (refunds_of H) (paid_at (refund_at H) (places_of H))
    → IsPermutation (refunds_of (entry t (Refund c) ∷ H))
    (paid_at (refund_at (entry t (Refund c) ∷ H)) (places_of H))
refunds_refund H legal t c v is kept before =
    let issued = some-of-map (voucher_row H c) (issued_of H c) v is in
    let i : IssuedVoucher = issued.0 in
    let none : refund_of H c ≡ None = none-of-map (λ (r : RefundEntry). r.amount) (refund_of H c)
    (ap (λ (x : Voucher). x.refund) issued.2 ∙ kept) in
    let paid : Payment = payment t (amount_left i.plan (uses_of H c)) in
    let one : refunds_of (entry t (Refund c) ∷ H) ≡ refunds_of H ++ paid ∷ [] = ap (λ o. refunds_of H
    ++ option_to_list (option_map (λ x. payment t (amount_left x.plan (uses_of H c))) o)) issued.1 in
    let more = one-more c paid (refund_at H) (refund_at (entry t (Refund c) ∷ H)) (unrefunded H c none)
    (λ code. go i issued.1 code (bytes_eq c code) refl) (places_of H) (codes_apart H legal)
    (issued-listed H legal c i issued.1) in
    subst (λ ps. IsPermutation ps (paid_at (refund_at (entry t (Refund c) ∷ H)) (places_of H))) (sym one)
    (IsPermutation-push_more (refunds_of H) (paid_at (refund_at H) (places_of H))
    (paid_at (refund_at (entry t (Refund c) ∷ H)) (places_of H)) paid before more)
  where
    go : (i : IssuedVoucher) → issued_of H c ≡ Some i → (code : List ℕ) (b : Bool) → bytes_eq c code ≡ b
        → option_map (λ r. payment r.at r.amount)
        (cond b (option_map (refund_entry_at t (uses_of H code)) (issued_of H code)) (refund_of H code))
        ≡ cond b (Some (payment t (amount_left i.plan (uses_of H c)))) (refund_at H code)
    go i e code true same =
        ap (λ (x : List ℕ). option_map (λ r. payment r.at r.amount)
        (option_map (refund_entry_at t (uses_of H x)) (issued_of H x))) (sym (bytes_same c code same))
        ∙ ap (λ o. option_map (λ r. payment r.at r.amount) (option_map (refund_entry_at t (uses_of H c)) o)) e
    go i e code false same = refl

refunds_placed : (H : History) → IsLegal H
    → IsPermutation (refunds_of H) (paid_at (refund_at H) (places_of H))
refunds_placed [] legal = IsPermutation-refl []
refunds_placed (entry t (Issue b p codes) ∷ H) legal =
    subst (IsPermutation (refunds_of H)) (sym (refunds_issue H legal.1 b codes
    (issuable (plan_of H p) (batch_of H b) (any_held H codes) codes t legal.0.accepted).free))
    (refunds_placed H legal.1)
refunds_placed (entry t (Refund c) ∷ H) legal =
    let v = refundable (voucher_of H c) legal.0.accepted in
    refunds_refund H legal.1 t c v.0 v.1 v.2 (refunds_placed H legal.1)
refunds_placed (_ ∷ H) legal = refunds_placed H legal.1

refund-alike : (H : History) (k : Place) → refund_from (row_of_place H k) ≡ refund_at H k.code
refund-alike H k = go (refund_of H k.code)
  where
    go : (o : Option RefundEntry)
        → option_and_then (λ at. option_map (payment at) (option_map (λ r. r.amount) o))
        (option_map (λ r. r.at) o) ≡ option_map (λ r. payment r.at r.amount) o
    go None = refl
    go (Some r) = refl

pub refunds_are_rows : RefundsAreRows
refunds_are_rows H legal =
    let rows : paid_at (refund_at H) (places_of H) ≡ refunds_from (rows_of H) =
    filter_map-alike (λ k. refund_at H k.code) (λ k. refund_from (row_of_place H k)) (places_of H)
    (λ i d h. sym (refund-alike H (get_or (places_of H) i d)))
    ∙ sym (filter_map-map refund_from (row_of_place H) (places_of H)) in
    subst (IsPermutation (refunds_of H)) rows (refunds_placed H legal)
