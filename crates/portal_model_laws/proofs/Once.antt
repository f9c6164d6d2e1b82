-- A voucher is sold and refunded at most once, and a session closed at most once.
use Rattle.portal_model_laws.proofs.Common.{◌≡◌, ℕ, ◌+◌, ◌≤◌, Bool, true, false, cond, List, [], ◌∷◌, Option}
use Rattle.portal_model_laws.proofs.Common.{Some, None, refl, arith, subst, ap, sym, ◌∙◌, bytes_eq, nat_eq}
use Rattle.portal_model_laws.proofs.Common.{option_map, is_some, Sell, Refund, Close, Voucher, Session, entry}
use Rattle.portal_model_laws.proofs.Common.{History, RefundEntry, refund_entry_at, issued_of, sold_of}
use Rattle.portal_model_laws.proofs.Common.{uses_of, refund_of, closed_of, voucher_of, voucher_row, grants_of}
use Rattle.portal_model_laws.proofs.Common.{members, oldest, session_of, session_row, IsLegal}
use Rattle.portal_model_laws.specs.Laws.{times_sold, times_refunded, times_closed, VoucherIsSoldOnce}
use Rattle.portal_model_laws.specs.Laws.{VoucherIsRefundedOnce, SessionIsClosedOnce}
use Rattle.portal_model_laws.proofs.Basics.{bytes_same, nat_eq-same, some-of-map, none-of-map}
use Rattle.portal_model_laws.proofs.Accepted.{sellable, refundable, closable}

-- one where there is a value
abbrev once : {A : Type 0} → Option A → ℕ
once o = cond (is_some o) 1 0

once-low : {A : Type 0} (o : Option A) → once o ≤ 1
once-low None = omega arith
once-low (Some x) = omega arith

-- one more entry, where the key is the same and there was no value
one-more : {A : Type 0} (b : Bool) (n : ℕ) (before after : Option A) → n ≡ once before
    → (b ≡ true → (before ≡ None) × ((x : A) × (after ≡ Some x)))
    → cond b (n + 1) n ≡ once (cond b after before)
one-more true n before after is h =
    let facts = h refl in
    let none : n ≡ 0 = is ∙ ap once facts.0 in
    let some : once after ≡ 1 = ap once facts.1.1 in
    omega arith
one-more false n before after is h = is

-- Sales

sale-new : (H : History) (c code : List ℕ) (v : Voucher) → voucher_of H c ≡ Some v → v.sold ≡ None
    → bytes_eq c code ≡ true → sold_of H code ≡ None
sale-new H c code v is unsold same =
    let issued = some-of-map (voucher_row H c) (issued_of H c) v is in
    subst (λ (x : List ℕ). sold_of H x ≡ None) (bytes_same c code same)
    (ap (λ (w : Voucher). w.sold) issued.2 ∙ unsold)

sales_are : (H : History) → IsLegal H → (code : List ℕ) → times_sold H code ≡ once (sold_of H code)
sales_are [] legal code = refl
sales_are (entry t (Sell c) ∷ H) legal code =
    let v = sellable (voucher_of H c) t legal.0.accepted in
    one-more (bytes_eq c code) (times_sold H code) (sold_of H code) (Some t) (sales_are H legal.1 code)
    (λ same. (sale-new H c code v.0 v.1 v.2 same, (t, refl)))
sales_are (_ ∷ H) legal code = sales_are H legal.1 code

pub voucher_is_sold_once : VoucherIsSoldOnce
voucher_is_sold_once H legal code =
    subst (λ (n : ℕ). n ≤ 1) (sym (sales_are H legal code)) (once-low (sold_of H code))

-- Refunds

refund-new : (H : History) (t : ℕ) (c code : List ℕ) (v : Voucher) → voucher_of H c ≡ Some v → v.refund ≡ None
    → bytes_eq c code ≡ true
    → (refund_of H code ≡ None)
    × ((r : RefundEntry) × (option_map (refund_entry_at t (uses_of H code)) (issued_of H code) ≡ Some r))
refund-new H t c code v is kept same =
    let issued = some-of-map (voucher_row H c) (issued_of H c) v is in
    let none : refund_of H c ≡ None = none-of-map (λ (r : RefundEntry). r.amount) (refund_of H c)
    (ap (λ (w : Voucher). w.refund) issued.2 ∙ kept) in
    subst (λ (x : List ℕ). (refund_of H x ≡ None)
    × ((r : RefundEntry) × (option_map (refund_entry_at t (uses_of H x)) (issued_of H x) ≡ Some r)))
    (bytes_same c code same) (
      none,
      (refund_entry_at t (uses_of H c) issued.0, ap (option_map (refund_entry_at t (uses_of H c))) issued.1),
    )

refunds_are : (H : History) → IsLegal H → (code : List ℕ) → times_refunded H code ≡ once (refund_of H code)
refunds_are [] legal code = refl
refunds_are (entry t (Refund c) ∷ H) legal code =
    let v = refundable (voucher_of H c) legal.0.accepted in
    one-more (bytes_eq c code) (times_refunded H code) (refund_of H code)
    (option_map (refund_entry_at t (uses_of H code)) (issued_of H code)) (refunds_are H legal.1 code)
    (refund-new H t c code v.0 v.1 v.2)
refunds_are (_ ∷ H) legal code = refunds_are H legal.1 code

pub voucher_is_refunded_once : VoucherIsRefundedOnce
voucher_is_refunded_once H legal code =
    subst (λ (n : ℕ). n ≤ 1) (sym (refunds_are H legal code)) (once-low (refund_of H code))

-- Closes

close-new : (H : History) (m n : ℕ) (s : Session) → session_of H m ≡ Some s → s.closed ≡ None
    → nat_eq m n ≡ true → closed_of H n ≡ None
close-new H m n s is kept same =
    let found =
    some-of-map (session_row H m (members (grants_of H) m)) (oldest (members (grants_of H) m)) s is in
    subst (λ (x : ℕ). closed_of H x ≡ None) (nat_eq-same m n same)
    (ap (λ (r : Session). r.closed) found.2 ∙ kept)

closes_are : (H : History) → IsLegal H → (n : ℕ) → times_closed H n ≡ once (closed_of H n)
closes_are [] legal n = refl
closes_are (entry t (Close m) ∷ H) legal n =
    let s = closable (session_of H m) legal.0.accepted in
    one-more (nat_eq m n) (times_closed H n) (closed_of H n) (Some t) (closes_are H legal.1 n)
    (λ same. (close-new H m n s.0 s.1 s.2 same, (t, refl)))
closes_are (_ ∷ H) legal n = closes_are H legal.1 n

pub session_is_closed_once : SessionIsClosedOnce
session_is_closed_once H legal n =
    subst (λ (k : ℕ). k ≤ 1) (sym (closes_are H legal n)) (once-low (closed_of H n))
