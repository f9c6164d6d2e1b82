-- Where redemptions are placed, and what that leaves in the records.
use Rattle.portal_model_laws.proofs.Common.{false, true, All, All-head, All-tail, inl, inr, ◌≡◌, ℕ, ◌+◌, ◌<◌}
use Rattle.portal_model_laws.proofs.Common.{◌≤◌, max, Bool, cond, List, [], ◌∷◌, length, Option, Some, None}
use Rattle.portal_model_laws.proofs.Common.{refl, arith, subst, ap, sym, ◌∙◌, zero-add, bytes_eq, option_map}
use Rattle.portal_model_laws.proofs.Common.{nat_eq, sum_by, unwrap_or, option_or, sum_by-cons}
use Rattle.portal_model_laws.proofs.Common.{bytes_eq-Decides, Redeem, Report, Close, Voucher, Session, Head}
use Rattle.portal_model_laws.proofs.Common.{entry, History, IssuedVoucher, Grant, issued_of, uses_of}
use Rattle.portal_model_laws.proofs.Common.{voucher_of, voucher_row, grants_of, grant_at, greatest_session}
use Rattle.portal_model_laws.proofs.Common.{members, oldest, last_number, session_in, session_of, session_row}
use Rattle.portal_model_laws.proofs.Common.{last_session_of, used_of, closed_of, limit_or_none, kept_if}
use Rattle.portal_model_laws.proofs.Common.{is_open_at, head_of, place_of, IsLegal, raised_by, session_after}
use Rattle.portal_model_laws.proofs.Common.{head_after}
use Rattle.portal_model_laws.specs.Laws.{RedeemGivesRecords, RedeemLeaves}
use Rattle.portal_model_laws.proofs.Accepted.{reportable, closable}
use Rattle.std.proofs.lemmas.Option.{none-some}
use Rattle.portal_model_laws.proofs.Basics.{cond-ap, picked, cond-false, cond-same, nat_eq-other, nat_eq-same}
use Rattle.portal_model_laws.proofs.Basics.{some-of-map}

abbrev pub head_row : ℕ → List Grant → Head
head_row t gs = record { last = t; grants = length gs; sessions = greatest_session gs }

-- no grant is in a session above the greatest
pub members-above : (gs : List Grant) (n : ℕ) → greatest_session gs < n → members gs n ≡ []
members-above [] n h = refl
members-above (g ∷ gs) n h =
    cond-false (nat_eq g.session n) (g ∷ members gs n) (members gs n)
    (nat_eq-other g.session n (λ e. omega arith)) ∙ members-above gs n (omega arith)

pub session_in-above : (gs : List Grant) (H : History) (n : ℕ) → greatest_session gs < n
    → session_in gs H n ≡ None
session_in-above gs H n h = ap (λ ms. option_map (session_row H n ms) (oldest ms)) (members-above gs n h)

-- what holds of every grant holds of the first of a session
pub All-oldest : (P : Grant → Type 0) (gs : List Grant) (n : ℕ) (g : Grant) → All P gs
    → oldest (members gs n) ≡ Some g → P g
All-oldest P [] n g all e = cc
All-oldest P (x ∷ gs) n g all e =
    go (All-oldest P gs n g (All-tail P x gs all)) (All-head P x gs all) (nat_eq x.session n) e
  where
    pick : (o : Option Grant) → (o ≡ Some g → P g) → P x → option_or o (Some x) ≡ Some g → P g
    pick None rest here is = let same : x ≡ g = cc in subst P same here
    pick (Some y) rest here is = rest is

    go : (oldest (members gs n) ≡ Some g → P g) → P x → (b : Bool)
        → oldest (cond b (x ∷ members gs n) (members gs n)) ≡ Some g → P g
    go rest here true is = pick (oldest (members gs n)) rest here is
    go rest here false is = rest is

-- a session's number is at most the greatest
pub number-le : (gs : List Grant) (H : History) (n : ℕ) (s : Session) → session_in gs H n ≡ Some s
    → n ≤ greatest_session gs
number-le gs H n s e =
    let not_above : greatest_session gs < n → ⊥ = λ h. let none = session_in-above gs H n h in cc in
    omega arith

greatest-grant : (o : Option IssuedVoucher) (gs : List Grant) (running : Option Session)
    (t n : ℕ) (d c : List ℕ)
    → greatest_session (unwrap_or (option_map (grant_at t d c gs running) o) gs) < n → greatest_session gs < n
greatest-grant None gs running t n d c h = h
greatest-grant (Some i) gs running t n d c h = omega arith

-- a session that was never opened has no report and no close
pub unreported : (H : History) → IsLegal H → (n : ℕ) → greatest_session (grants_of H) < n
    → (used_of H n ≡ 0) × (closed_of H n ≡ None)
unreported [] legal n h = (refl, refl)
unreported (entry t (Redeem d c) ∷ H) legal n h =
    unreported H legal.1 n (greatest-grant (issued_of H c) (grants_of H)
    (kept_if (is_open_at t) (session_in (grants_of H) H (last_number (grants_of H) d))) t n d c h)
unreported (entry t (Report m bytes) ∷ H) legal n h =
    let before = unreported H legal.1 n h in
    let known = reportable (session_of H m) legal.0.accepted in
    let low = number-le (grants_of H) H m known.0 known.1 in (
      cond-false (nat_eq m n) (max bytes (used_of H n)) (used_of H n) (nat_eq-other m n (λ e. omega arith))
          ∙ before.0,
      before.1,
    )
unreported (entry t (Close m) ∷ H) legal n h =
    let before = unreported H legal.1 n h in
    let known = closable (session_of H m) legal.0.accepted in
    let low = number-le (grants_of H) H m known.0 known.1 in (
      before.0,
      cond-false (nat_eq m n) (Some t) (closed_of H n) (nat_eq-other m n (λ e. omega arith)) ∙ before.1,
    )
unreported (_ ∷ H) legal n h = unreported H legal.1 n h

limited-more : (given total more : ℕ)
    → limit_or_none given (total + more) ≡ raised_by (limit_or_none given total) more
limited-more given total more = sym (cond-ap (λ o. raised_by o more) (nat_eq given 0) None (Some total))

pub kept-some : {A : Type 0} (test : A → Bool) (o : Option A) (s : A) → kept_if test o ≡ Some s → o ≡ Some s
kept-some test None s e = cc
kept-some test (Some x) s e =
    elim (picked (test x) x s None e) [ inl is ↦ ap Some is.1 | inr is ↦ absurd (none-some s is.1) ]

-- the session of g and of those before it
abbrev session_with : Grant → List Grant → History → ℕ → Option Session
session_with g ms H n = option_map (session_row H n (g ∷ ms)) (oldest (g ∷ ms))

session_in-cons : (g : Grant) (gs : List Grant) (H : History) (n : ℕ)
    → session_in (g ∷ gs) H n
    ≡ cond (nat_eq g.session n) (session_with g (members gs n) H n) (session_in gs H n)
session_in-cons g gs H n = cond-ap (λ ms. option_map (session_row H n ms) (oldest ms)) (nat_eq g.session n)
    (g ∷ members gs n) (members gs n)

-- a limit of the session, with one more grant
more-limited : (given at : ℕ) (f : Grant → ℕ) (g : Grant) (ms : List Grant)
    → limit_or_none given (at + sum_by f (g ∷ ms)) ≡ raised_by (limit_or_none given (at + sum_by f ms)) (f g)
more-limited given at f g ms =
    let one : at + sum_by f (g ∷ ms) ≡ (at + sum_by f ms) + f g = omega (arith, sum_by-cons f g ms) in
    ap (limit_or_none given) one ∙ limited-more given (at + sum_by f ms) (f g)

more-limited_0 : (given : ℕ) (f : Grant → ℕ) (g : Grant) (ms : List Grant)
    → limit_or_none given (sum_by f (g ∷ ms)) ≡ raised_by (limit_or_none given (sum_by f ms)) (f g)
more-limited_0 given f g ms =
    let one : sum_by f (g ∷ ms) ≡ sum_by f ms + f g = omega (arith, sum_by-cons f g ms) in
    ap (limit_or_none given) one ∙ limited-more given (sum_by f ms) (f g)

abbrev extended : Session → Grant → Session
extended s g =
    record s { ends = raised_by s.ends g.plan.seconds; allowance = raised_by s.allowance g.plan.bytes }

extended-row : (H : History) (n : ℕ) (g first : Grant) (ms : List Grant)
    → session_row H n (g ∷ ms) first ≡ extended (session_row H n ms first) g
extended-row H n g first ms =
    rw (
      more-limited first.plan.seconds first.at (λ x. x.plan.seconds) g ms,
      more-limited_0 first.plan.bytes (λ x. x.plan.bytes) g ms,
    )

extended-session : (H : History) (gs : List Grant) (n : ℕ) (s : Session) (g : Grant)
    → session_in gs H n ≡ Some s
    → session_with g (members gs n) H n ≡ Some (extended s g)
extended-session H gs n s g e =
    let found = some-of-map (session_row H n (members gs n)) (oldest (members gs n)) s e in
    ap (λ o. option_map (session_row H n (g ∷ members gs n)) (option_or o (Some g))) found.1
    ∙ ap Some (extended-row H n g found.0 (members gs n) ∙ ap (λ r. extended r g) found.2)

pub number-of : (H : History) (gs : List Grant) (n : ℕ) (s : Session)
    → session_in gs H n ≡ Some s → s.number ≡ n
number-of H gs n s e =
    let found = some-of-map (session_row H n (members gs n)) (oldest (members gs n)) s e in
    sym (ap (λ (r : Session). r.number) found.2)

-- a session, and what it was before a command that adds no grant
pub before_row : (H now : History) (n : ℕ) (s : Session) → session_in (grants_of H) now n ≡ Some s
    → (first : Grant) × (session_of H n ≡ Some (session_row H n (members (grants_of H) n) first))
    × (session_row now n (members (grants_of H) n) first ≡ s)
before_row H now n s e =
    let ms : List Grant = members (grants_of H) n in
    let found = some-of-map (session_row now n ms) (oldest ms) s e in
    (found.0, ap (option_map (session_row H n ms)) found.1, found.2)

abbrev pub granted : List Grant → Option Session → List ℕ → List ℕ → IssuedVoucher → ℕ → Grant
granted gs running d c i t =
    record { session = place_of gs running; device = d; code = c; plan = i.plan; at = t }

opened-session : (H : History) → IsLegal H → (d c : List ℕ) (i : IssuedVoucher) (t : ℕ)
    → let gs = grants_of H in
    session_with (granted gs None d c i t) (members gs (greatest_session gs + 1)) H (greatest_session gs + 1)
    ≡ Some (session_after (head_of H) i.plan None d t)
opened-session H legal d c i t =
    let k : ℕ = greatest_session (grants_of H) + 1 in
    let g : Grant = granted (grants_of H) None d c i t in
    let none : members (grants_of H) k ≡ [] = members-above (grants_of H) k (omega arith) in
    let fresh : (used_of H k ≡ 0) × (closed_of H k ≡ None) = unreported H legal k (omega arith) in
    ap (λ ms. option_map (session_row H k (g ∷ ms)) (oldest (g ∷ ms))) none
    ∙ rw (fresh.0, fresh.1, zero-add i.plan.seconds, zero-add i.plan.bytes)

session-cases : (H : History) → IsLegal H
    → (d c : List ℕ) (i : IssuedVoucher) (t : ℕ) (running : Option Session)
    → kept_if (is_open_at t) (last_session_of H d) ≡ running → (n : ℕ)
    → let s = session_after (head_of H) i.plan running d t in
    session_in (granted (grants_of H) running d c i t ∷ grants_of H) H n
    ≡ cond (nat_eq s.number n) (Some s) (session_of H n)
session-cases H legal d c i t None is n =
    let gs : List Grant = grants_of H in
    let k : ℕ = greatest_session gs + 1 in
    let g : Grant = granted gs None d c i t in
    let s : Session = session_after (head_of H) i.plan None d t in
    session_in-cons g gs H n
    ∙ cond-same (nat_eq k n) (session_with g (members gs n) H n) (Some s) (session_of H n)
    (λ e. subst (λ (q : ℕ). session_with g (members gs q) H q ≡ Some s) (nat_eq-same k n e)
    (opened-session H legal d c i t))
session-cases H legal d c i t (Some s) is n =
    let gs : List Grant = grants_of H in
    let m : ℕ = last_number gs d in
    let g : Grant = granted gs (Some s) d c i t in
    let last : session_of H m ≡ Some s = kept-some (is_open_at t) (last_session_of H d) s is in
    session_in-cons g gs H n
    ∙ cond-same (nat_eq s.number n) (session_with g (members gs n) H n) (Some (extended s g)) (session_of H n)
    (λ e. subst (λ (q : ℕ). session_with g (members gs q) H q ≡ Some (extended s g))
    (sym (number-of H gs m s last) ∙ nat_eq-same s.number n e) (extended-session H gs m s g last))

pub head-after : (H : History) (d c : List ℕ) (i : IssuedVoucher) (t : ℕ) (running : Option Session)
    → kept_if (is_open_at t) (last_session_of H d) ≡ running
    → let gs = granted (grants_of H) running d c i t ∷ grants_of H in
    head_row t gs ≡ head_after (head_of H) running t
head-after H d c i t None is =
    let gs : List Grant = grants_of H in
    let more : max (greatest_session gs + 1) (greatest_session gs) ≡ greatest_session gs + 1 = omega arith in
    let longer : length (granted gs None d c i t ∷ gs) ≡ length gs + 1 = omega arith in
    rw (longer, more)
head-after H d c i t (Some s) is =
    let gs : List Grant = grants_of H in
    let m : ℕ = last_number gs d in
    let last : session_of H m ≡ Some s = kept-some (is_open_at t) (last_session_of H d) s is in
    let low : m ≤ greatest_session gs = number-le gs H m s last in
    let same : s.number ≡ m = number-of H gs m s last in
    let more : max s.number (greatest_session gs) ≡ greatest_session gs = omega arith in
    let longer : length (granted gs (Some s) d c i t ∷ gs) ≡ length gs + 1 = omega arith in
    rw (longer, more)

-- the voucher, with that many redemptions
abbrev row_with : History → List ℕ → ℕ → IssuedVoucher → Voucher
row_with H code n i = record (voucher_row H code i) { redeemed = n }

used-once : (H : History) (d c : List ℕ) (t : ℕ) (code : List ℕ)
    → voucher_of (entry t (Redeem d c) ∷ H) code
    ≡ cond (bytes_eq c code)
    (option_map (row_with H code (uses_of H code + 1)) (issued_of H code)) (voucher_of H code)
used-once H d c t code = cond-ap (λ n. option_map (row_with H code n) (issued_of H code)) (bytes_eq c code)
    (uses_of H code + 1) (uses_of H code)

pub redeem_leads : RedeemGivesRecords
redeem_leads H legal d c t v e =
    let running : Option Session = kept_if (is_open_at t) (last_session_of H d) in
    let gs : List Grant = grants_of H in
    let found : (i : IssuedVoucher) × (issued_of H c ≡ Some i) × (voucher_row H c i ≡ v) =
    some-of-map (voucher_row H c) (issued_of H c) v e in
    let i : IssuedVoucher = found.0 in
    let placed : grants_of (entry t (Redeem d c) ∷ H) ≡ granted gs running d c i t ∷ gs =
    ap (λ o. unwrap_or (option_map (grant_at t d c gs running) o) gs) found.1 in
    let at_row : RedeemLeaves H d c t (voucher_row H c i)
    (session_after (head_of H) i.plan running d t) running = record {
      head = ap (head_row t) placed ∙ head-after H d c i t running refl;
      session = λ n. ap (λ x. session_in x H n) placed ∙ session-cases H legal d c i t running refl n;
      voucher = λ code.
          used-once H d c t code
          ∙ cond-same (bytes_eq c code) (option_map (row_with H code (uses_of H code + 1)) (issued_of H code))
          (Some (row_with H c (uses_of H c + 1) i)) (voucher_of H code)
          (λ same. subst (λ (x : List ℕ). option_map (row_with H x (uses_of H x + 1)) (issued_of H x)
          ≡ Some (row_with H c (uses_of H c + 1) i))
          ((bytes_eq-Decides c code).0 same) (ap (option_map (row_with H c (uses_of H c + 1))) found.1));
    } in
    subst (λ (w : Voucher). RedeemLeaves H d c t w (session_after (head_of H) w.plan running d t) running)
    found.2 at_row
