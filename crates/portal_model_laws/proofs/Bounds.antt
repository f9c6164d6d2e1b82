-- Refunds, what remains, and the number of sessions.
use Rattle.portal_model_laws.proofs.Common.{All, All-nil, All-cons, All-weaker, ◌≡◌, ℕ, ◌-◌, ◌*◌, ◌<◌, ◌≤◌}
use Rattle.portal_model_laws.proofs.Common.{Bool, true, false, cond, List, [], ◌∷◌, length, Option, Some}
use Rattle.portal_model_laws.proofs.Common.{None, refl, arith, subst, ap, ◌∙◌, bytes_eq, option_map, nat_lt}
use Rattle.portal_model_laws.proofs.Common.{is_none, ◌&&◌, unwrap_or, option_or, nat_tests, Issue, Redeem}
use Rattle.portal_model_laws.proofs.Common.{Refund, Plan, Voucher, Session, entry, History, IssuedVoucher}
use Rattle.portal_model_laws.proofs.Common.{Grant, RefundEntry, refund_entry_at, amount_left, issued_of}
use Rattle.portal_model_laws.proofs.Common.{refund_of, uses_of, voucher_row, grants_of, grant_at}
use Rattle.portal_model_laws.proofs.Common.{greatest_session, members, oldest, last_number, session_of}
use Rattle.portal_model_laws.proofs.Common.{session_row, last_session_of, kept_if, is_open_at, is_below}
use Rattle.portal_model_laws.proofs.Common.{last_moment, effective_moment, IsLegal}
use Rattle.std.proofs.Math.Nat.{div-le_of_le-mul, mul_comm, mul-le-mul_left}
use Rattle.portal_model_laws.specs.Laws.{SessionsAreFewer, RefundsAreBounded, RemainsIsBounded}
use Rattle.portal_model_laws.proofs.Placing.{kept-some, number-of, number-le, granted, All-oldest}
use Rattle.portal_model_laws.proofs.Basics.{and-true, some-of-map}

-- Sessions are fewer than redemptions

more-grants : (o : Option IssuedVoucher) (gs : List Grant) (running : Option Session) (t : ℕ) (d c : List ℕ)
    → ((s : Session) → running ≡ Some s → s.number ≤ greatest_session gs) → greatest_session gs ≤ length gs
    → greatest_session (unwrap_or (option_map (grant_at t d c gs running) o) gs)
    ≤ length (unwrap_or (option_map (grant_at t d c gs running) o) gs)
more-grants None gs running t d c low h = h
more-grants (Some i) gs None t d c low h = omega arith
more-grants (Some i) gs (Some s) t d c low h = let l = low s refl in omega arith

pub low-running : (H : History) (t : ℕ) (d : List ℕ) (s : Session)
    → kept_if (is_open_at t) (last_session_of H d) ≡ Some s → s.number ≤ greatest_session (grants_of H)
low-running H t d s is =
    let last : session_of H (last_number (grants_of H) d) ≡ Some s =
    kept-some (is_open_at t) (last_session_of H d) s is in
    let low = number-le (grants_of H) H (last_number (grants_of H) d) s last in
    let same = number-of H (grants_of H) (last_number (grants_of H) d) s last in
    omega arith

pub sessions_fewer : SessionsAreFewer
sessions_fewer [] = omega arith
sessions_fewer (entry t (Redeem d c) ∷ H) = more-grants (issued_of H c) (grants_of H)
    (kept_if (is_open_at t) (last_session_of H d)) t d c (low-running H t d) (sessions_fewer H)
sessions_fewer (_ ∷ H) = sessions_fewer H

-- A refund is at most the price

amount-low : (p : Plan) (n : ℕ) → amount_left p n ≤ p.price
amount-low p n =
    let less : p.uses - n ≤ p.uses = omega arith in
    let product : p.price * (p.uses - n) ≤ p.price * p.uses = mul-le-mul_left p.price less in
    div-le_of_le-mul p.uses (omega (arith, mul_comm p.price p.uses, product))

abbrev pub RefundFits : Option IssuedVoucher → Option RefundEntry → Type 0
RefundFits None r = r ≡ None
RefundFits (Some i) None = Unit {0}
RefundFits (Some i) (Some r) = r.amount ≤ i.plan.price

fits-or : (o x : Option IssuedVoucher) (r : Option RefundEntry) → RefundFits o r
    → RefundFits (option_or o x) r
fits-or None None r h = h
fits-or None (Some i) None h = tt
fits-or None (Some i) (Some r) h = cc
fits-or (Some i) x r h = h

fits-repaid : (b : Bool) (o : Option IssuedVoucher) (t n : ℕ) (r : Option RefundEntry) → RefundFits o r
    → RefundFits o (cond b (option_map (refund_entry_at t n) o) r)
fits-repaid true None t n r h = refl
fits-repaid true (Some i) t n r h = amount-low i.plan n
fits-repaid false o t n r h = h

pub refund_fits : (H : History) (code : List ℕ) → IsLegal H → RefundFits (issued_of H code) (refund_of H code)
refund_fits [] code legal = refl
refund_fits (entry t (Issue b p codes) ∷ H) code legal =
    fits-or (issued_of H code) _ (refund_of H code) (refund_fits H code legal.1)
refund_fits (entry t (Refund c) ∷ H) code legal = fits-repaid (bytes_eq c code) (issued_of H code) t
    (uses_of H code) (refund_of H code) (refund_fits H code legal.1)
refund_fits (_ ∷ H) code legal = refund_fits H code legal.1

repaid-low : (i : IssuedVoucher) (o : Option RefundEntry) (amount : ℕ) → RefundFits (Some i) o
    → option_map (λ (r : RefundEntry). r.amount) o ≡ Some amount → amount ≤ i.plan.price
repaid-low i None amount h e = cc
repaid-low i (Some r) amount h e = let same : r.amount ≡ amount = cc in omega arith

pub refunds_bounded : RefundsAreBounded
refunds_bounded H legal code v amount is e =
    let issued = some-of-map (voucher_row H code) (issued_of H code) v is in
    let i : IssuedVoucher = issued.0 in
    let fits : RefundFits (Some i) (refund_of H code) =
    subst (λ (o : Option IssuedVoucher). RefundFits o (refund_of H code)) issued.1
    (refund_fits H code legal) in
    let low = repaid-low i (refund_of H code) amount fits (ap (λ (w : Voucher). w.refund) issued.2 ∙ e) in
    subst (λ (w : Voucher). amount ≤ w.plan.price) issued.2 low

-- What remains

abbrev IsBy : ℕ → Grant → Type 0
IsBy m g = g.at ≤ m

by-later : (m n : ℕ) (gs : List Grant) → m ≤ n → All (IsBy m) gs → All (IsBy n) gs
by-later m n gs le all = All-weaker (IsBy m) (IsBy n) (λ g h. omega arith) gs all

by-placed : (o : Option IssuedVoucher) (gs : List Grant) (running : Option Session) (t : ℕ) (d c : List ℕ)
    → All (IsBy t) gs → All (IsBy t) (unwrap_or (option_map (grant_at t d c gs running) o) gs)
by-placed None gs running t d c all = all
by-placed (Some i) gs running t d c all = All-cons (IsBy t) (granted gs running d c i t) gs (omega arith) all

all_before : (H : History) → IsLegal H → All (IsBy (last_moment H)) (grants_of H)
all_before [] legal = All-nil (IsBy 0)
all_before (entry t (Redeem d c) ∷ H) legal =
    by-placed (issued_of H c) (grants_of H) (kept_if (is_open_at t) (last_session_of H d)) t d c
    (by-later (last_moment H) t (grants_of H) legal.0.in_order (all_before H legal.1))
all_before (entry t _ ∷ H) legal =
    by-later (last_moment H) t (grants_of H) legal.0.in_order (all_before H legal.1)

opened-before : (H : History) → IsLegal H → (n : ℕ) (s : Session) → session_of H n ≡ Some s
    → s.opened ≤ last_moment H
opened-before H legal n s e =
    let found =
    some-of-map (session_row H n (members (grants_of H) n)) (oldest (members (grants_of H) n)) s e in
    let low = All-oldest (IsBy (last_moment H)) (grants_of H) n found.0 (all_before H legal) found.1 in
    subst (λ (r : Session). r.opened ≤ last_moment H) found.2 low

below-is : (t : ℕ) (o : Option ℕ) (limit : ℕ) → is_below t o ≡ true → o ≡ Some limit → t < limit
below-is t o limit h e =
    let test : nat_lt t limit ≡ true = subst (λ (x : Option ℕ). is_below t x ≡ true) e h in
    grind (arith, nat_tests)

pub remains_bounded : RemainsIsBounded
remains_bounded H legal n t s e is_open =
    let t' : ℕ = effective_moment H t in
    let first = and-true (is_none s.closed) (is_below t' s.ends && is_below s.used s.allowance) is_open in
    let both = and-true (is_below t' s.ends) (is_below s.used s.allowance) first.1 in
    let opened = opened-before H legal n s e in
    let after : last_moment H ≤ t' = omega arith in
    record {
      seconds = λ ends is. let low : t' < ends = below-is t' s.ends ends both.0 is in
          (omega arith, omega arith);
      bytes =
          λ allowance is. let low : s.used < allowance = below-is s.used s.allowance allowance both.1 is in
          (omega arith, omega arith);
    }
