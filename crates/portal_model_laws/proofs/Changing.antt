-- What an accepted command leaves in the records.
use Rattle.portal_model_laws.proofs.Common.{Voucher, ◌≡◌, ℕ, Bool, cond, List, ◌∷◌, length, Option, Some}
use Rattle.portal_model_laws.proofs.Common.{None, refl, ap, sym, ◌∙◌, bytes_eq, nat_eq, is_some, option_map}
use Rattle.portal_model_laws.proofs.Common.{option_and_then, option_or, list_any, Sell, Refund, Close, Plan}
use Rattle.portal_model_laws.proofs.Common.{Session, entry, History, Place, places_from, IssuedVoucher}
use Rattle.portal_model_laws.proofs.Common.{issued_at, RefundEntry, refund_entry_at, amount_left, issued_of}
use Rattle.portal_model_laws.proofs.Common.{sold_of, uses_of, refund_of, plan_of, batch_of, batch_row}
use Rattle.portal_model_laws.proofs.Common.{voucher_of, voucher_row, grants_of, members, session_of}
use Rattle.portal_model_laws.proofs.Common.{session_row, closed_of, IsLegal}
use Rattle.portal_model_laws.specs.Laws.{ChangesGiveRecords}
use Rattle.portal_model_laws.specs.Records.{HasChanged, new_voucher}
use Rattle.portal_model_laws.proofs.Keys.{codes-placed}
use Rattle.portal_model_laws.proofs.Basics.{found-listed, cond-ap, cond-same, bytes_same}
use Rattle.portal_model_laws.proofs.Commands.{OfEach, by_command}
use Rattle.portal_model_laws.proofs.Plans.{or-added, plan-id}
use Rattle.portal_model_laws.proofs.Issuing.{place_among}
use Rattle.portal_model_laws.proofs.Unissued.{unissued}
use Rattle.portal_model_laws.proofs.Placing.{redeem_leads}
use Rattle.portal_model_laws.proofs.Openings.{session_changed, report_session}

-- Issue

-- a code is in the list exactly if it has a place in the batch
placed-listed : (code b : List ℕ) (n : ℕ) (codes : List (List ℕ))
    → is_some (place_among (places_from b n codes) code) ≡ list_any (bytes_eq code) codes
placed-listed code b n codes = found-listed (λ (k : Place). k.code) code (places_from b n codes)
    ∙ ap (list_any (bytes_eq code)) (codes-placed b n codes)

module _ (H : History) (legal : IsLegal H) (t : ℕ) (b p : List ℕ) (codes : List (List ℕ)) (plan : Plan)
    (known : plan_of H p ≡ Some plan) where
  issued_voucher : (code : List ℕ) (q : Option Place) → issued_of H code ≡ None
      → option_map (voucher_row H code)
      (option_and_then (λ k. option_map (issued_at t b k.place) (plan_of H p)) q)
      ≡ cond (is_some q) (Some (new_voucher (batch_row t b (length codes) plan) code plan)) None
  issued_voucher code None none = refl
  issued_voucher code (Some k) none =
      let h = unissued H legal code none in
      ap (λ o. option_map (voucher_row H code) (option_map (issued_at t b k.place) o)) known
      ∙ rw (h.sold, h.uses, h.refund)

  new_vouchers-are : (code : List ℕ) (o : Option IssuedVoucher) → issued_of H code ≡ o
      → option_map (voucher_row H code) (option_or o (option_and_then
      (λ k. option_map (issued_at t b k.place) (plan_of H p)) (place_among (places_from b 0 codes) code)))
      ≡ option_or (option_map (voucher_row H code) o) (cond (list_any (bytes_eq code) codes)
      (option_map (new_voucher (batch_row t b (length codes) plan) code) (plan_of H plan.id)) None)
  new_vouchers-are code (Some i) is = refl
  new_vouchers-are code None is =
      let of_batch : plan_of H plan.id ≡ Some plan = ap (plan_of H) (plan-id H p plan known) ∙ known in
      issued_voucher code (place_among (places_from b 0 codes) code) is
      ∙ ap (λ (x : Bool). cond x (Some (new_voucher (batch_row t b (length codes) plan) code plan)) None)
      (placed-listed code b 0 codes)
      ∙ ap (λ o. cond (list_any (bytes_eq code) codes)
      (option_map (new_voucher (batch_row t b (length codes) plan) code) o) None) (sym of_batch)

-- Sell and refund

sold_voucher : (H : History) (t : ℕ) (c : List ℕ) (i : IssuedVoucher)
    → issued_of H c ≡ Some i → (code : List ℕ)
    → voucher_of (entry t (Sell c) ∷ H) code
    ≡ cond (bytes_eq c code) (Some (record (voucher_row H c i) { sold = Some t })) (voucher_of H code)
sold_voucher H t c i e code =
    let with_sale : List ℕ → Option ℕ → Option Voucher =
    λ x o. option_map (λ y. record (voucher_row H x y) { sold = o }) (issued_of H x) in
    cond-ap (with_sale code) (bytes_eq c code) (Some t) (sold_of H code)
    ∙ cond-same (bytes_eq c code) (with_sale code (Some t))
    (Some (record (voucher_row H c i) { sold = Some t })) (voucher_of H code)
    (λ same. ap (λ (x : List ℕ). with_sale x (Some t)) (sym (bytes_same c code same))
    ∙ ap (option_map (λ y. record (voucher_row H c y) { sold = Some t })) e)

refunded_voucher : (H : History) (t : ℕ) (c : List ℕ) (i : IssuedVoucher)
    → issued_of H c ≡ Some i → (code : List ℕ)
    → voucher_of (entry t (Refund c) ∷ H) code ≡ cond (bytes_eq c code) (Some
    (record (voucher_row H c i) { refund = Some (amount_left i.plan (uses_of H c)) })) (voucher_of H code)
refunded_voucher H t c i e code =
    let repaid : List ℕ → Option RefundEntry =
    λ x. option_map (refund_entry_at t (uses_of H x)) (issued_of H x) in
    let with_refund : List ℕ → Option RefundEntry → Option Voucher = λ x o.
    option_map (λ y. record (voucher_row H x y) { refund = option_map (λ r. r.amount) o }) (issued_of H x) in
    cond-ap (with_refund code) (bytes_eq c code) (repaid code) (refund_of H code)
    ∙ cond-same (bytes_eq c code) (with_refund code (repaid code)) (Some
    (record (voucher_row H c i) { refund = Some (amount_left i.plan (uses_of H c)) })) (voucher_of H code)
    (λ same. ap (λ (x : List ℕ). with_refund x (repaid x)) (sym (bytes_same c code same))
    ∙ ap (λ o. option_map (λ y. record (voucher_row H c y)
    { refund = option_map (λ r. r.amount) (option_map (refund_entry_at t (uses_of H c)) o) }) o) e)

-- Report and close

closed_session : (H : History) (t m : ℕ) (s : Session) → session_of H m ≡ Some s → (n : ℕ)
    → session_of (entry t (Close m) ∷ H) n
    ≡ cond (nat_eq s.number n) (Some (record s { closed = Some t })) (session_of H n)
closed_session H t m s e n =
    session_changed H (entry t (Close m) ∷ H) m n s (λ r. record r { closed = Some t }) e
    (λ first. cond-ap (λ o. record (session_row H n (members (grants_of H) n) first) { closed = o })
    (nat_eq m n) (Some t) (closed_of H n))

each-changed : (H : History) → IsLegal H → (t : ℕ)
    → OfEach H t (λ command ch. HasChanged H (entry t command ∷ H) ch)
each-changed H legal t = record {
  load = λ plans. record {
    plans = λ id. or-added H id plans (plan_of H id) refl;
    batches = λ id. refl;
    vouchers = λ code. refl;
    sessions = λ n. refl;
  };
  issue = λ b p codes plan is. record {
    plans = λ id. refl;
    batches =
        λ id. ap (λ o. cond (bytes_eq b id) (option_map (batch_row t b (length codes)) o) (batch_of H id)) is;
    vouchers = λ code. new_vouchers-are H legal t b p codes plan is code (issued_of H code) refl;
    sessions = λ n. refl;
  };
  sell = λ c i is. record {
    plans = λ id. refl;
    batches = λ id. refl;
    vouchers = sold_voucher H t c i is;
    sessions = λ n. refl;
  };
  redeem = λ d c i is.
      let leaves = redeem_leads H legal d c t (voucher_row H c i) (ap (option_map (voucher_row H c)) is) in
      record {
        plans = λ id. refl;
        batches = λ id. refl;
        vouchers = leaves.voucher;
        sessions = leaves.session;
      };
  report = λ n bytes s is. record {
    plans = λ id. refl;
    batches = λ id. refl;
    vouchers = λ code. refl;
    sessions = report_session H t n bytes s is;
  };
  refund = λ c i is. record {
    plans = λ id. refl;
    batches = λ id. refl;
    vouchers = refunded_voucher H t c i is;
    sessions = λ n. refl;
  };
  close = λ n s is. record {
    plans = λ id. refl;
    batches = λ id. refl;
    vouchers = λ code. refl;
    sessions = closed_session H t n s is;
  };
}

pub changes_give_records : ChangesGiveRecords
changes_give_records H legal command t follows ch e =
    by_command H t (λ command ch. HasChanged H (entry t command ∷ H) ch) (each-changed H legal t) command ch e
