-- What an accepted command makes of the sessions of a history.
use Rattle.portal_desk_store.proofs.Common.{◌≡◌, ℕ, ◌+◌, ◌≤◌, Bool, true, false, cond, List, [], ◌∷◌, ◌++◌}
use Rattle.portal_desk_store.proofs.Common.{map, Option, Some, None, refl, arith, subst, ap, sym, ◌∙◌, nat_eq}
use Rattle.portal_desk_store.proofs.Common.{nat_lt, option_map, unwrap_or, All-weaker, nat_tests, Command}
use Rattle.portal_desk_store.proofs.Common.{Load, Issue, Sell, Redeem, Report, Refund, Close, Changes}
use Rattle.portal_desk_store.proofs.Common.{CloseChange, Session, Voucher, all_sessions, load_change}
use Rattle.portal_desk_store.proofs.Common.{redemption, with_report, session_after, entry, History, Grant}
use Rattle.portal_desk_store.proofs.Common.{IssuedVoucher, grants_of, grant_at, greatest_session, head_of}
use Rattle.portal_desk_store.proofs.Common.{is_open_at, issued_of, kept_if, last_number, last_session_of}
use Rattle.portal_desk_store.proofs.Common.{plan_of, session_of, voucher_of, voucher_row, openings}
use Rattle.portal_desk_store.proofs.Common.{session_opened, IsLegal, Follows, cond-false, cond-true}
use Rattle.portal_desk_store.proofs.Common.{map-changed_all, map-same, nat_eq-other, nat_eq-refl, some-of-map}
use Rattle.portal_desk_store.proofs.Common.{some-same, IsFirst, still-first, new-first, openings_first}
use Rattle.portal_desk_store.proofs.Common.{session_at, report_session, kept-some, number-of, number-le}
use Rattle.portal_desk_store.proofs.Common.{granted, redeem_leads, replaced_if_same, sessions_after_changes}
use Rattle.portal_desk_store.proofs.Common.{after_redemption}
use Rattle.std.proofs.lemmas.List.{map-append, append-nil}
use Rattle.portal_model_laws.proofs.Changing.{changes_give_records}
use Rattle.portal_desk_store.specs.SessionLaws.{ChangesGiveSessions}

-- where one session is changed, a listed one is as it is now
session-replace_if_same : (H after : History) (s : Session) (g : Grant) → IsFirst (grants_of H) g
    → IsFirst (grants_of after) g
    → session_of after g.session ≡ cond (nat_eq s.number g.session) (Some s) (session_of H g.session)
    → session_opened after g ≡ replaced_if_same s (session_opened H g)
session-replace_if_same H after s g first first' e =
    go (nat_eq s.number g.session) (sym (session_at after g first') ∙ e
    ∙ ap (λ o. cond (nat_eq s.number g.session) (Some s) o) (session_at H g first))
  where
    go : (b : Bool) → Some (session_opened after g) ≡ cond b (Some s) (Some (session_opened H g))
        → session_opened after g ≡ cond b s (session_opened H g)
    go true is = some-same (session_opened after g) s is
    go false is = some-same (session_opened after g) (session_opened H g) is

-- where one session is changed and none is opened, the list has it in its place
all-replace_if_same : (H after : History) (s : Session) → openings (grants_of after) ≡ openings (grants_of H)
    → ((g : Grant) → IsFirst (grants_of H) g → IsFirst (grants_of after) g)
    → ((n : ℕ) → session_of after n ≡ cond (nat_eq s.number n) (Some s) (session_of H n))
    → all_sessions after ≡ map (replaced_if_same s) (all_sessions H)
all-replace_if_same H after s same later leaves =
    ap (map (session_opened after)) same
    ∙ map-changed_all (session_opened H) (session_opened after) (replaced_if_same s) (openings (grants_of H))
    (All-weaker (IsFirst (grants_of H))
    (λ g. session_opened after g ≡ replaced_if_same s (session_opened H g))
    (λ g first. session-replace_if_same H after s g first (later g first) (leaves g.session))
    (openings (grants_of H)) (openings_first (grants_of H)))

-- Redeem

-- the sessions, with one more grant
all-redeemed : (H : History) → IsLegal H
    → (t : ℕ) (d c : List ℕ) (i : IssuedVoucher) (running : Option Session)
    → kept_if (is_open_at t) (last_session_of H d) ≡ running
    → grants_of (entry t (Redeem d c) ∷ H) ≡ granted (grants_of H) running d c i t ∷ grants_of H
    → ((n : ℕ) → session_of (entry t (Redeem d c) ∷ H) n
    ≡ cond (nat_eq (session_after (head_of H) i.plan running d t).number n)
    (Some (session_after (head_of H) i.plan running d t)) (session_of H n))
    → all_sessions (entry t (Redeem d c) ∷ H)
    ≡ after_redemption running (session_after (head_of H) i.plan running d t) (all_sessions H)
all-redeemed H legal t d c i None is one leaves =
    let gs : List Grant = grants_of H in
    let g : Grant = granted gs None d c i t in
    let after : History = entry t (Redeem d c) ∷ H in
    let s : Session = session_after (head_of H) i.plan None d t in
    let above : nat_lt (greatest_session gs) (greatest_session gs + 1) ≡ true = grind (arith, nat_tests) in
    let later : (x : Grant) → IsFirst gs x → IsFirst (grants_of after) x =
    λ x first. subst (λ (xs : List Grant). IsFirst xs x) (sym one) (still-first g gs x first) in
    let kept : (x : Grant) → IsFirst gs x → session_opened after x ≡ session_opened H x = λ x first.
    let known = session_at H x first in
    let low = number-le gs H x.session (session_opened H x) known in
    let other : nat_eq s.number x.session ≡ false = nat_eq-other s.number x.session (λ e. omega arith) in
    some-same (session_opened after x) (session_opened H x)
    (sym (session_at after x (later x first)) ∙ leaves x.session
    ∙ cond-false (nat_eq s.number x.session) (Some s) (session_of H x.session) other ∙ known) in
    let fresh : session_opened after g ≡ s =
    let first : IsFirst (grants_of after) g =
    subst (λ (xs : List Grant). IsFirst xs g) (sym one) (new-first g gs (omega arith)) in
    some-same (session_opened after g) s
    (sym (session_at after g first) ∙ leaves g.session
    ∙ cond-true (nat_eq s.number g.session) (Some s) (session_of H g.session) (nat_eq-refl g.session)) in
    ap (λ (xs : List Grant). map (session_opened after) (openings xs)) one
    ∙ ap (λ (b : Bool). map (session_opened after) (openings gs ++ cond b (g ∷ []) [])) above
    ∙ map-append (session_opened after) (openings gs) (g ∷ [])
    ∙ ap (λ (xs : List Session). xs ++ session_opened after g ∷ [])
    (map-same (session_opened after) (session_opened H) (openings gs) (All-weaker (IsFirst gs)
    (λ x. session_opened after x ≡ session_opened H x) kept (openings gs) (openings_first gs)))
    ∙ ap (λ (x : Session). all_sessions H ++ x ∷ []) fresh
all-redeemed H legal t d c i (Some r) is one leaves =
    let gs : List Grant = grants_of H in
    let g : Grant = granted gs (Some r) d c i t in
    let after : History = entry t (Redeem d c) ∷ H in
    let s : Session = session_after (head_of H) i.plan (Some r) d t in
    let last : session_of H (last_number gs d) ≡ Some r =
    kept-some (is_open_at t) (last_session_of H d) r is in
    let low : last_number gs d ≤ greatest_session gs = number-le gs H (last_number gs d) r last in
    let same : r.number ≡ last_number gs d = number-of H gs (last_number gs d) r last in
    let not_above : nat_lt (greatest_session gs) r.number ≡ false = grind (arith, nat_tests) in
    let opened : openings (grants_of after) ≡ openings gs =
    ap openings one ∙ ap (λ (b : Bool). openings gs ++ cond b (g ∷ []) []) not_above
    ∙ append-nil (openings gs) in
    all-replace_if_same H after s opened
    (λ x first. subst (λ (xs : List Grant). IsFirst xs x) (sym one) (still-first g gs x first)) leaves

-- the changes are made of what was found
pub made_of : {A : Type 0} {make : A → Changes} {found : Option A} {changes : Changes}
    → option_map make found ≡ Some changes
    → (Is : Changes → Type 0) → ((a : A) → found ≡ Some a → Is (make a)) → Is changes
made_of {make = make} {found = found} {changes = changes} e Is holds =
    let it = some-of-map make found changes e in subst Is it.2 (holds it.0 it.1)

-- the changes give the sessions after the command
abbrev Lead : History → Command → ℕ → Changes → Type 0
Lead H command t changes =
    all_sessions (entry t command ∷ H) ≡ sessions_after_changes changes (all_sessions H)

redeem_leads_all : (H : History) → IsLegal H → (t : ℕ) (d c : List ℕ) (v : Voucher) → voucher_of H c ≡ Some v
    → Lead H (Redeem d c) t (redemption (head_of H) (kept_if (is_open_at t) (last_session_of H d)) d t v)
redeem_leads_all H legal t d c v found =
    let gs : List Grant = grants_of H in
    let running : Option Session = kept_if (is_open_at t) (last_session_of H d) in
    let issued = some-of-map (voucher_row H c) (issued_of H c) v found in
    let i : IssuedVoucher = issued.0 in
    let one : grants_of (entry t (Redeem d c) ∷ H) ≡ granted gs running d c i t ∷ gs =
    ap (λ o. unwrap_or (option_map (grant_at t d c gs running) o) gs) issued.1 in
    let leaves =
    redeem_leads H legal d c t (voucher_row H c i) (ap (option_map (voucher_row H c)) issued.1) in
    subst (λ (w : Voucher). Lead H (Redeem d c) t (redemption (head_of H) running d t w)) issued.2
    (all-redeemed H legal t d c i running refl one leaves.session)

-- a close changes the session
close_leads_all : (H : History) → IsLegal H → (t n : ℕ) → Follows H t (Close n) → (s : Session)
    → session_of H n ≡ Some s
    → Lead H (Close n) t (CloseChange (record { at = t; session = s }))
close_leads_all H legal t n follows s found =
    let closing : Session → Changes = λ (x : Session). CloseChange (record { at = t; session = x }) in
    let leaves =
    changes_give_records H legal (Close n) t follows (closing s) (ap (option_map closing) found) in
    all-replace_if_same H (entry t (Close n) ∷ H) (record s { closed = Some t }) refl
    (λ g first. first) leaves.sessions

pub changes_give_sessions : ChangesGiveSessions
changes_give_sessions H legal (Load plans) t follows ch e =
    let is : load_change (plan_of H) plans t ≡ ch = cc in subst (Lead H (Load plans) t) is refl
changes_give_sessions H legal (Issue b p codes) t follows ch e =
    made_of e (Lead H (Issue b p codes) t) (λ plan found. refl)
changes_give_sessions H legal (Sell c) t follows ch e = made_of e (Lead H (Sell c) t) (λ v found. refl)
changes_give_sessions H legal (Redeem d c) t follows ch e =
    made_of e (Lead H (Redeem d c) t) (λ v found. redeem_leads_all H legal t d c v found)
changes_give_sessions H legal (Report n bytes) t follows ch e =
    made_of e (Lead H (Report n bytes) t)
    (λ s found. all-replace_if_same H (entry t (Report n bytes) ∷ H) (with_report bytes s) refl
    (λ g first. first) (report_session H t n bytes s found))
changes_give_sessions H legal (Refund c) t follows ch e = made_of e (Lead H (Refund c) t) (λ v found. refl)
changes_give_sessions H legal (Close n) t follows ch e =
    made_of e (Lead H (Close n) t) (λ s found. close_leads_all H legal t n follows s found)
