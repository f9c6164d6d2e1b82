-- A voucher is never redeemed beyond its uses.
use Rattle.portal_model_laws.proofs.Common.{◌≡◌, ℕ, ◌+◌, ◌<◌, ◌≤◌, Bool, true, false, cond, List, [], ◌∷◌}
use Rattle.portal_model_laws.proofs.Common.{Option, Some, None, refl, arith, subst, sym, bytes_eq, option_map}
use Rattle.portal_model_laws.proofs.Common.{option_or, Issue, Redeem, Voucher, Session, Head, entry, History}
use Rattle.portal_model_laws.proofs.Common.{IssuedVoucher, issued_of, uses_of, voucher_row, head_of}
use Rattle.portal_model_laws.proofs.Common.{last_session_of, IsLegal, redeem_verdict}
use Rattle.portal_model_laws.specs.Laws.{UsesAreBounded}
use Rattle.portal_model_laws.proofs.Basics.{bytes_same, some-same}
use Rattle.portal_model_laws.proofs.Accepted.{use-left, redeemable}

abbrev pub UsesFit : Option IssuedVoucher → ℕ → Type 0
UsesFit None n = n ≡ 0
UsesFit (Some v) n = n ≤ v.plan.uses

fits-option_or : (o x : Option IssuedVoucher) (n : ℕ) → UsesFit o n → UsesFit (option_or o x) n
fits-option_or None None n h = h
fits-option_or None (Some v) n h = omega arith
fits-option_or (Some v) x n h = h

fits-redeem : (head : Head) (o : Option IssuedVoucher) (H : History) (c : List ℕ)
    (last : Option Session) (t : ℕ)
    → redeem_verdict head (option_map (voucher_row H c) o) last t ≡ None → UsesFit o (uses_of H c + 1)
fits-redeem head None H c last t e = cc
fits-redeem head (Some i) H c last t e =
    let found = redeemable head (Some (voucher_row H c i)) last t e in
    let left = use-left found.0 t found.2 in
    let same : found.0 ≡ voucher_row H c i = some-same found.0 (voucher_row H c i) (sym found.1) in
    let low : uses_of H c < i.plan.uses = subst (λ (v : Voucher). v.redeemed < v.plan.uses) same left in
    omega arith

fits-cond : (b : Bool) (o : Option IssuedVoucher) (n : ℕ) → (b ≡ true → UsesFit o (n + 1)) → UsesFit o n
    → UsesFit o (cond b (n + 1) n)
fits-cond true o n more same = more refl
fits-cond false o n more same = same

pub uses_fit : (H : History) → IsLegal H → (code : List ℕ) → UsesFit (issued_of H code) (uses_of H code)
uses_fit [] legal code = refl
uses_fit (entry t (Issue b p codes) ∷ H) legal code =
    fits-option_or (issued_of H code) _ (uses_of H code) (uses_fit H legal.1 code)
uses_fit (entry t (Redeem d c) ∷ H) legal code =
    fits-cond (bytes_eq c code) (issued_of H code) (uses_of H code)
    (λ same. subst (λ (x : List ℕ). UsesFit (issued_of H x) (uses_of H x + 1)) (bytes_same c code same)
    (fits-redeem (head_of H) (issued_of H c) H c (last_session_of H d) t legal.0.accepted))
    (uses_fit H legal.1 code)
uses_fit (_ ∷ H) legal code = uses_fit H legal.1 code

from_fit : (H : History) (code : List ℕ) (o : Option IssuedVoucher) (v : Voucher) → UsesFit o (uses_of H code)
    → option_map (voucher_row H code) o ≡ Some v → v.redeemed ≤ v.plan.uses
from_fit H code None v fit e = cc
from_fit H code (Some i) v fit e =
    let same : voucher_row H code i ≡ v = cc in
    subst (λ (w : Voucher). w.redeemed ≤ w.plan.uses) same fit

pub uses_bounded : UsesAreBounded
uses_bounded H legal code v e = from_fit H code (issued_of H code) v (uses_fit H legal code) e
