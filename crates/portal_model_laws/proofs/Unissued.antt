-- A code that was not issued was not sold, redeemed or refunded.
use Rattle.portal_model_laws.proofs.Common.{◌≡◌, ℕ, ◌+◌, List, ◌∷◌, [], true, Some, None, refl, subst, ap}
use Rattle.portal_model_laws.proofs.Common.{sym, ◌∙◌, bytes_eq, option_map, Issue, Sell, Redeem, Refund}
use Rattle.portal_model_laws.proofs.Common.{Voucher, entry, History, refund_entry_at, issued_of, sold_of}
use Rattle.portal_model_laws.proofs.Common.{uses_of, refund_of, voucher_of, voucher_row, head_of}
use Rattle.portal_model_laws.proofs.Common.{last_session_of, IsLegal}
use Rattle.portal_model_laws.proofs.Basics.{bytes_same, cond-not, or-none}
use Rattle.portal_model_laws.proofs.Accepted.{sellable, redeemable, refundable}

pub record IsUntouched (H : History) (code : List ℕ) : Type 0 where
  pub sold : sold_of H code ≡ None
  pub uses : uses_of H code ≡ 0
  pub refund : refund_of H code ≡ None

no_voucher : (H : History) (c code : List ℕ) (v : Voucher) → issued_of H code ≡ None → voucher_of H c ≡ Some v
    → bytes_eq c code ≡ true → ⊥
no_voucher H c code v none is same =
    let here : voucher_of H c ≡ None = subst (λ (x : List ℕ). voucher_of H x ≡ None)
    (sym (bytes_same c code same)) (ap (option_map (voucher_row H code)) none) in
    cc

untouched-sold : (H : History) → IsLegal H → (code : List ℕ) → issued_of H code ≡ None → sold_of H code ≡ None
untouched-sold [] legal code none = refl
untouched-sold (entry t (Issue b p codes) ∷ H) legal code none =
    untouched-sold H legal.1 code (or-none (issued_of H code) _ none).0
untouched-sold (entry t (Sell c) ∷ H) legal code none =
    let v = sellable (voucher_of H c) t legal.0.accepted in
    cond-not (bytes_eq c code) (Some t) (sold_of H code) (no_voucher H c code v.0 none v.1)
    ∙ untouched-sold H legal.1 code none
untouched-sold (_ ∷ H) legal code none = untouched-sold H legal.1 code none

untouched-uses : (H : History) → IsLegal H → (code : List ℕ) → issued_of H code ≡ None → uses_of H code ≡ 0
untouched-uses [] legal code none = refl
untouched-uses (entry t (Issue b p codes) ∷ H) legal code none =
    untouched-uses H legal.1 code (or-none (issued_of H code) _ none).0
untouched-uses (entry t (Redeem d c) ∷ H) legal code none =
    let v = redeemable (head_of H) (voucher_of H c) (last_session_of H d) t legal.0.accepted in
    cond-not (bytes_eq c code) (uses_of H code + 1) (uses_of H code) (no_voucher H c code v.0 none v.1)
    ∙ untouched-uses H legal.1 code none
untouched-uses (_ ∷ H) legal code none = untouched-uses H legal.1 code none

untouched-refund : (H : History) → IsLegal H → (code : List ℕ) → issued_of H code ≡ None
    → refund_of H code ≡ None
untouched-refund [] legal code none = refl
untouched-refund (entry t (Issue b p codes) ∷ H) legal code none =
    untouched-refund H legal.1 code (or-none (issued_of H code) _ none).0
untouched-refund (entry t (Refund c) ∷ H) legal code none =
    let v = refundable (voucher_of H c) legal.0.accepted in
    cond-not (bytes_eq c code) (option_map (refund_entry_at t (uses_of H code)) (issued_of H code))
    (refund_of H code) (no_voucher H c code v.0 none v.1) ∙ untouched-refund H legal.1 code none
untouched-refund (_ ∷ H) legal code none = untouched-refund H legal.1 code none

pub unissued : (H : History) → IsLegal H → (code : List ℕ) → issued_of H code ≡ None → IsUntouched H code
unissued H legal code none = record {
  sold = untouched-sold H legal code none;
  uses = untouched-uses H legal code none;
  refund = untouched-refund H legal code none;
}
