-- A session that is open is the last one of its device.
use Rattle.portal_model_laws.proofs.Common.{◌≡◌, ℕ, ◌+◌, ◌<◌, ◌≤◌, inl, inr, max, Bool, true, false, cond}
use Rattle.portal_model_laws.proofs.Common.{List, [], ◌∷◌, Option, Some, None, refl, arith, subst, ap, sym}
use Rattle.portal_model_laws.proofs.Common.{◌∙◌, bytes_eq, option_map, nat_eq, is_none, ◌&&◌, unwrap_or}
use Rattle.portal_model_laws.proofs.Common.{filter, nat_tests, Redeem, Report, Close, Session, entry, History}
use Rattle.portal_model_laws.proofs.Common.{IssuedVoucher, Grant, issued_of, voucher_of, voucher_row}
use Rattle.portal_model_laws.proofs.Common.{grants_of, grant_at, greatest_session, members, last_number}
use Rattle.portal_model_laws.proofs.Common.{session_of, session_row, last_session_of, kept_if, is_open_at}
use Rattle.portal_model_laws.proofs.Common.{is_below, used_of, closed_of, last_moment, effective_moment}
use Rattle.portal_model_laws.proofs.Common.{head_of, IsLegal, session_after}
use Rattle.portal_model_laws.specs.Laws.{OpenIsLast, OneSessionIsOpen}
use Rattle.portal_model.specs.History.{Entry, session_in}
use Rattle.portal_model_laws.proofs.Placing.{kept-some, number-of, before_row, granted, redeem_leads}
use Rattle.portal_model_laws.proofs.Accepted.{redeemable}
use Rattle.std.proofs.lemmas.Bool.{cases_Bool}
use Rattle.portal_model_laws.proofs.Basics.{cond-false, nat_eq-other, nat_eq-refl, cond-ap, cond-true, picked}
use Rattle.portal_model_laws.proofs.Basics.{and-true, bytes_refl, bytes_same, nat_eq-same, some-of-map}
use Rattle.portal_model_laws.proofs.Basics.{some-same, true-and}

-- An accepted redemption has a voucher, and is placed

-- what a redemption adds to the grants
pub record Adds (H : History) (t : ℕ) (d c : List ℕ) (running : Option Session) : Type 0 where
  pub issued : IssuedVoucher
  pub found : issued_of H c ≡ Some issued
  pub grants : grants_of (entry t (Redeem d c) ∷ H) ≡ granted (grants_of H) running d c issued t ∷ grants_of H
  pub session : (n : ℕ) → session_of (entry t (Redeem d c) ∷ H) n
      ≡ cond (nat_eq (session_after (head_of H) issued.plan running d t).number n)
      (Some (session_after (head_of H) issued.plan running d t)) (session_of H n)

pub adds : (H : History) (t : ℕ) (d c : List ℕ) → IsLegal (entry t (Redeem d c) ∷ H)
    → Adds H t d c (kept_if (is_open_at t) (last_session_of H d))
adds H t d c legal =
    let running : Option Session = kept_if (is_open_at t) (last_session_of H d) in
    let found = redeemable (head_of H) (voucher_of H c) (last_session_of H d) t legal.0.accepted in
    let issued = some-of-map (voucher_row H c) (issued_of H c) found.0 found.1 in
    let leaves =
    redeem_leads H legal.1 d c t (voucher_row H c issued.0) (ap (option_map (voucher_row H c)) issued.1) in
    record {
      issued = issued.0;
      found = issued.1;
      grants =
          ap (λ o. unwrap_or (option_map (grant_at t d c (grants_of H) running) o) (grants_of H)) issued.1;
      session = leaves.session;
    }

-- The last session number of a device, with one more redemption
last-more : (g : Grant) (gs : List Grant) (d : List ℕ) → last_number (g ∷ gs) d
    ≡ cond (bytes_eq g.device d) (max g.session (last_number gs d)) (last_number gs d)
last-more g gs d = let own : List Grant = filter (λ x. bytes_eq x.device d) gs in
    cond-ap greatest_session (bytes_eq g.device d) (g ∷ own) own

pub last-low : (gs : List Grant) (d : List ℕ) → last_number gs d ≤ greatest_session gs
last-low [] d = omega arith
last-low (g ∷ gs) d = rw (last-more g gs d) (go (bytes_eq g.device d) (last-low gs d))
  where
    go : (b : Bool) → last_number gs d ≤ greatest_session gs
        → cond b (max g.session (last_number gs d)) (last_number gs d) ≤ max g.session (greatest_session gs)
    go true h = omega arith
    go false h = omega arith

-- A session that is not open stays so

pub below-later : (t u : ℕ) (o : Option ℕ) → t ≤ u → is_below u o ≡ true → is_below t o ≡ true
below-later t u None le h = refl
below-later t u (Some limit) le h = grind (arith, nat_tests)

-- open later, with as much used or more: it was open before
was-open : (s : Session) (closed : Option ℕ) (used t u : ℕ) → t ≤ u → s.used ≤ used
    → (is_none closed ≡ true → is_none s.closed ≡ true)
    → is_open_at u (record s { used = used; closed = closed }) ≡ true → is_open_at t s ≡ true
was-open s closed used t u later more kept h =
    let first = and-true (is_none closed) (is_below u s.ends && is_below used s.allowance) h in
    let both = and-true (is_below u s.ends) (is_below used s.allowance) first.1 in
    true-and (is_none s.closed) (is_below t s.ends && is_below s.used s.allowance) (kept first.0)
    (true-and (is_below t s.ends) (is_below s.used s.allowance) (below-later t u s.ends later both.0)
    (below-later s.used used s.allowance more both.1))

-- Sessions are of the device whose last one they are

abbrev LastIsOwn : History → Type 0
LastIsOwn H = (d : List ℕ) (s : Session) → session_of H (last_number (grants_of H) d) ≡ Some s → s.device ≡ d

-- that no session but the last of its device is open from t on
abbrev OnlyLast : History → ℕ → Type 0
OnlyLast H t = (n u : ℕ) (s : Session) → session_of H n ≡ Some s → t ≤ u → is_open_at u s ≡ true
    → n ≡ last_number (grants_of H) s.device

-- a redemption in the last session of its device changes no last number
pub last-kept : (g : Grant) (gs : List Grant) (d : List ℕ) → g.session ≡ last_number gs g.device
    → last_number (g ∷ gs) d ≡ last_number gs d
last-kept g gs d is = last-more g gs d ∙ go (bytes_eq g.device d) refl
  where
    go : (b : Bool) → bytes_eq g.device d ≡ b
        → cond b (max g.session (last_number gs d)) (last_number gs d) ≡ last_number gs d
    go true same =
        let e : g.session ≡ last_number gs d = is ∙ ap (last_number gs) (bytes_same g.device d same) in
        omega arith
    go false same = refl

-- a grant in a new session is the last of its device, and changes no other
pub last-new : (g : Grant) (gs : List Grant) (d : List ℕ) → greatest_session gs < g.session
    → bytes_eq g.device d ≡ true → last_number (g ∷ gs) d ≡ g.session
last-new g gs d above same =
    let low = last-low gs d in
    let one : max g.session (last_number gs d) ≡ g.session = omega arith in
    last-more g gs d ∙ ap (λ (b : Bool). cond b (max g.session (last_number gs d)) (last_number gs d)) same
    ∙ one

pub last-other : (g : Grant) (gs : List Grant) (d : List ℕ) → bytes_eq g.device d ≡ false
    → last_number (g ∷ gs) d ≡ last_number gs d
last-other g gs d other =
    last-more g gs d ∙ ap (λ (b : Bool). cond b (max g.session (last_number gs d)) (last_number gs d)) other

placed-own : (H : History) (t : ℕ) (d c : List ℕ) (running : Option Session)
    → kept_if (is_open_at t) (last_session_of H d) ≡ running → Adds H t d c running → LastIsOwn H
    → LastIsOwn (entry t (Redeem d c) ∷ H)
placed-own H t d c None is new own d' s e =
    let gs : List Grant = grants_of H in
    let fresh : Session = session_after (head_of H) new.issued.plan None d t in
    let n : ℕ = last_number (granted gs None d c new.issued t ∷ gs) d' in
    let here : session_of (entry t (Redeem d c) ∷ H) n ≡ Some s = subst
    (λ (x : List Grant). session_of (entry t (Redeem d c) ∷ H) (last_number x d') ≡ Some s) new.grants e in
    let left = sym (new.session n) ∙ here in
    elim (cases_Bool (bytes_eq d d')) [
      | inl agree ↦
          let last : n ≡ fresh.number =
          last-new (granted gs None d c new.issued t) gs d' (omega arith) agree in
          let test : nat_eq fresh.number n ≡ true =
          ap (nat_eq fresh.number) last ∙ nat_eq-refl fresh.number in
          let same : fresh ≡ s = some-same fresh s
          (sym (cond-true (nat_eq fresh.number n) (Some fresh) (session_of H n) test) ∙ left) in
          sym (ap (λ (x : Session). x.device) same) ∙ bytes_same d d' agree
      | inr differ ↦
          let last : n ≡ last_number gs d' = last-other (granted gs None d c new.issued t) gs d' differ in
          let low = last-low gs d' in
          let other : nat_eq fresh.number n ≡ false = nat_eq-other fresh.number n (λ same. omega arith) in
          own d' s (subst (λ (k : ℕ). session_of H k ≡ Some s) last
          (sym (cond-false (nat_eq fresh.number n) (Some fresh) (session_of H n) other) ∙ left))
    ]
placed-own H t d c (Some r) is new own d' s e =
    let gs : List Grant = grants_of H in
    let g : Grant = granted gs (Some r) d c new.issued t in
    let after : Session = session_after (head_of H) new.issued.plan (Some r) d t in
    let last : session_of H (last_number gs d) ≡ Some r =
    kept-some (is_open_at t) (last_session_of H d) r is in
    let same : r.number ≡ last_number gs d = number-of H gs (last_number gs d) r last in
    let n : ℕ = last_number gs d' in
    let grants : last_number (grants_of (entry t (Redeem d c) ∷ H)) d' ≡ n =
    ap (λ (x : List Grant). last_number x d') new.grants ∙ last-kept g gs d' same in
    let here : session_of (entry t (Redeem d c) ∷ H) n ≡ Some s =
    subst (λ (x : ℕ). session_of (entry t (Redeem d c) ∷ H) x ≡ Some s) grants e in
    elim (picked (nat_eq after.number n) after s (session_of H n) (sym (new.session n) ∙ here)) [
      | inl is ↦
          let m : last_number gs d ≡ n = sym same ∙ nat_eq-same r.number n is.0 in
          sym (ap (λ (y : Session). y.device) is.1)
          ∙ own d' r (subst (λ (k : ℕ). session_of H k ≡ Some r) m last)
      | inr is ↦ own d' s is.1
    ]

not-kept : (t : ℕ) (o : Option Session) (s : Session) → kept_if (is_open_at t) o ≡ None → o ≡ Some s
    → is_open_at t s ≡ true → ⊥
not-kept t None s none e h = cc
not-kept t (Some x) s none e h =
    let here : is_open_at t x ≡ true =
    subst (λ (y : Session). is_open_at t y ≡ true) (sym (some-same x s e)) h in
    let some = cond-true (is_open_at t x) (Some x) None here in
    cc

only-placed : (H : History) (t : ℕ) (d c : List ℕ) (running : Option Session)
    → kept_if (is_open_at t) (last_session_of H d) ≡ running → Adds H t d c running → LastIsOwn H
    → last_moment H ≤ t → OnlyLast H (last_moment H) → OnlyLast (entry t (Redeem d c) ∷ H) t
only-placed H t d c None none new own later only n u s e le h =
    let gs : List Grant = grants_of H in
    let g : Grant = granted gs None d c new.issued t in
    let fresh : Session = session_after (head_of H) new.issued.plan None d t in
    let was : session_of H n ≡ Some s → n ≡ last_number gs s.device = λ x. only n u s x (omega arith) h in
    let last_is : n ≡ last_number (g ∷ gs) s.device =
    elim (picked (nat_eq fresh.number n) fresh s (session_of H n) (sym (new.session n) ∙ e)) [
      | inl is ↦
          let mine : bytes_eq d s.device ≡ true =
          subst (λ (y : Session). bytes_eq d y.device ≡ true) is.1 (bytes_refl d) in
          sym (nat_eq-same (greatest_session gs + 1) n is.0) ∙ sym (last-new g gs s.device (omega arith) mine)
      | inr is ↦ elim (cases_Bool (bytes_eq d s.device)) [
        | inl agree ↦
            let mine : n ≡ last_number gs d =
            was is.1 ∙ ap (last_number gs) (sym (bytes_same d s.device agree)) in
            let found : last_session_of H d ≡ Some s = subst (λ (k : ℕ). session_of H k ≡ Some s) mine is.1 in
            absurd (not-kept t (last_session_of H d) s none found
            (was-open s s.closed s.used t u le (omega arith) (λ k. k) h))
        | inr differ ↦ was is.1 ∙ sym (last-other g gs s.device differ)
      ]
    ] in
    last_is ∙ sym (ap (λ (x : List Grant). last_number x s.device) new.grants)
only-placed H t d c (Some r) is new own later only n u s e le h =
    let gs : List Grant = grants_of H in
    let g : Grant = granted gs (Some r) d c new.issued t in
    let after : Session = session_after (head_of H) new.issued.plan (Some r) d t in
    let last : session_of H (last_number gs d) ≡ Some r =
    kept-some (is_open_at t) (last_session_of H d) r is in
    let same : r.number ≡ last_number gs d = number-of H gs (last_number gs d) r last in
    let was : session_of H n ≡ Some s → n ≡ last_number gs s.device = λ x. only n u s x (omega arith) h in
    let mine : r.number ≡ last_number gs r.device = same ∙ ap (last_number gs) (sym (own d r last)) in
    let last_is : n ≡ last_number gs s.device =
    elim (picked (nat_eq after.number n) after s (session_of H n) (sym (new.session n) ∙ e)) [
      | inl is ↦ sym (nat_eq-same r.number n is.0) ∙ mine ∙ ap (λ (y : Session). last_number gs y.device) is.1
      | inr is ↦ was is.1
    ] in
    last_is ∙ sym (last-kept g gs s.device same)
    ∙ sym (ap (λ (x : List Grant). last_number x s.device) new.grants)

-- a command that adds no grant opens no session again
used-more : (x : Entry) (H : History) (n : ℕ) → used_of H n ≤ used_of (x ∷ H) n
used-more (entry t (Report m bytes)) H n = go (nat_eq m n)
  where
    go : (b : Bool) → used_of H n ≤ cond b (max bytes (used_of H n)) (used_of H n)
    go true = omega arith
    go false = omega arith
used-more _ H n = omega arith

closed-still : (x : Entry) (H : History) (n : ℕ) → is_none (closed_of (x ∷ H) n) ≡ true
    → is_none (closed_of H n) ≡ true
closed-still (entry t (Close m)) H n = go (nat_eq m n)
  where
    go : (b : Bool) → is_none (cond b (Some t) (closed_of H n)) ≡ true → is_none (closed_of H n) ≡ true
    go true k = cc
    go false k = k
closed-still _ H n = λ k. k

only-kept : (x : Entry) (H : History) (t : ℕ) → last_moment H ≤ t → OnlyLast H (last_moment H)
    → (n u : ℕ) (s : Session) → session_in (grants_of H) (x ∷ H) n ≡ Some s → t ≤ u → is_open_at u s ≡ true
    → n ≡ last_number (grants_of H) s.device
only-kept x H t later only n u s e le h =
    let found = before_row H (x ∷ H) n s e in
    let before : Session = session_row H n (members (grants_of H) n) found.0 in
    let now : is_open_at u (record before { used = used_of (x ∷ H) n; closed = closed_of (x ∷ H) n }) ≡ true =
    subst (λ (r : Session). is_open_at u r ≡ true) (sym found.2) h in
    let same : found.0.device ≡ s.device = ap (λ (r : Session). r.device) found.2 in
    subst (λ (d : List ℕ). n ≡ last_number (grants_of H) d) same
    (only n u before found.1 (omega arith) (was-open before (closed_of (x ∷ H) n) (used_of (x ∷ H) n) u u
    (omega arith) (used-more x H n) (closed-still x H n) now))

-- and changes no session's device
own-kept : (x : Entry) (H : History) → LastIsOwn H → (d : List ℕ) (s : Session)
    → session_in (grants_of H) (x ∷ H) (last_number (grants_of H) d) ≡ Some s → s.device ≡ d
own-kept x H own d s e =
    let found = before_row H (x ∷ H) (last_number (grants_of H) d) s e in
    sym (ap (λ (r : Session). r.device) found.2) ∙ own d _ found.1

none_first : (d : List ℕ) (s : Session) → session_of [] (last_number [] d) ≡ Some s → s.device ≡ d
none_first d s e = cc

none_last : (n : ℕ) (s : Session) → session_of [] n ≡ Some s → n ≡ last_number [] s.device
none_last n s e = cc

last_is_own : (H : History) → IsLegal H → LastIsOwn H
last_is_own [] legal = λ d s e. none_first d s e
last_is_own (entry t (Redeem d c) ∷ H) legal = placed-own H t d c
    (kept_if (is_open_at t) (last_session_of H d)) refl (adds H t d c legal) (last_is_own H legal.1)
last_is_own (x ∷ H) legal = own-kept x H (last_is_own H legal.1)

only_last : (H : History) → IsLegal H → OnlyLast H (last_moment H)
only_last [] legal = λ n u s e le h. none_last n s e
only_last (entry t (Redeem d c) ∷ H) legal =
    only-placed H t d c (kept_if (is_open_at t) (last_session_of H d)) refl (adds H t d c legal)
    (last_is_own H legal.1) legal.0.in_order (only_last H legal.1)
only_last (entry t command ∷ H) legal = only-kept (entry t command) H t legal.0.in_order (only_last H legal.1)

pub open_is_last : OpenIsLast
open_is_last H legal n t s e h =
    let later : last_moment H ≤ effective_moment H t = omega arith in
    let last = only_last H legal n (effective_moment H t) s e later h in
    subst (λ (k : ℕ). session_of H k ≡ Some s) last e

pub one_session_is_open : OneSessionIsOpen
one_session_is_open H legal t n m s r e f same h k =
    let later : last_moment H ≤ effective_moment H t = omega arith in
    only_last H legal n (effective_moment H t) s e later h
    ∙ ap (last_number (grants_of H)) same
    ∙ sym (only_last H legal m (effective_moment H t) r f later k)
