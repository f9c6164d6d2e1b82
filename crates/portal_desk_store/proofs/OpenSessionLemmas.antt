-- A session that is not open stays so: what is open after an accepted command comes of what was open before
-- it.
use Rattle.portal_desk_store.proofs.Common.{◌≡◌, ℕ, ◌≤◌, max, Bool, true, false, cond, List, [], ◌∷◌, ◌++◌}
use Rattle.portal_desk_store.proofs.Common.{map, Option, Some, None, refl, arith, subst, ap, sym, ◌∙◌, nat_eq}
use Rattle.portal_desk_store.proofs.Common.{is_none, ◌&&◌, filter, All, All-head, All-tail, All-map}
use Rattle.portal_desk_store.proofs.Common.{All-weaker, filter-append, nat_tests, Command, Load, Issue, Sell}
use Rattle.portal_desk_store.proofs.Common.{Redeem, Report, Refund, Close, Changes, ReportChange, CloseChange}
use Rattle.portal_desk_store.proofs.Common.{Session, Voucher, all_sessions}
use Rattle.portal_desk_store.proofs.Common.{changes_of, load_change, redemption, with_report, session_after}
use Rattle.portal_desk_store.proofs.Common.{History, effective_moment, grants_of, head_of, is_below}
use Rattle.portal_desk_store.proofs.Common.{is_open_at, kept_if, last_moment, last_number, last_session_of}
use Rattle.portal_desk_store.proofs.Common.{plan_of, session_of, openings, session_opened}
use Rattle.portal_desk_store.proofs.Common.{and-true, true-and, false_if, not_both, nat_eq-same, some-same}
use Rattle.portal_desk_store.proofs.Common.{IsFirst, openings_first, session_at, kept-some, number-of}
use Rattle.portal_desk_store.proofs.Common.{replaced_if_same, sessions_after_changes, moment_of, open_at_last}
use Rattle.portal_desk_store.specs.SessionLaws.{OpenFollows, OpenWasOpen}
use Rattle.portal_desk_store.proofs.SessionLemmas.{made_of, changes_give_sessions}

-- Filters

-- what passes the later test comes of what passed the earlier one
filter-both : {X : Type 0} (f : X → X) (was now : X → Bool) (xs : List X)
    → All (λ x. now (f x) ≡ true → was x ≡ true) xs
    → filter now (map f xs) ≡ filter now (map f (filter was xs))
filter-both f was now [] all = refl
filter-both {X} f was now (x ∷ xs) all =
    let P : X → Type 0 = λ y. now (f y) ≡ true → was y ≡ true in
    go (was x) (All-head P x xs all) (filter-both f was now xs (All-tail P x xs all))
  where
    go : (b : Bool) → (now (f x) ≡ true → b ≡ true)
        → filter now (map f xs) ≡ filter now (map f (filter was xs))
        → cond (now (f x)) (f x ∷ filter now (map f xs)) (filter now (map f xs))
        ≡ filter now (map f (cond b (x ∷ filter was xs) (filter was xs)))
    go true passed rest = ap (λ ys. cond (now (f x)) (f x ∷ ys) ys) rest
    go false passed rest =
        let out : now (f x) ≡ false = false_if (now (f x)) (λ y. not_both false (passed y) refl) in
        ap (λ (b : Bool). cond b (f x ∷ filter now (map f xs)) (filter now (map f xs))) out ∙ rest

pub filter-twice : {X : Type 0} (was now : X → Bool) → ((x : X) → now x ≡ true → was x ≡ true) → (xs : List X)
    → filter now xs ≡ filter now (filter was xs)
filter-twice was now passed [] = refl
filter-twice was now passed (x ∷ xs) = go (was x) (passed x) (filter-twice was now passed xs)
  where
    go : (b : Bool) → (now x ≡ true → b ≡ true) → filter now xs ≡ filter now (filter was xs)
        → cond (now x) (x ∷ filter now xs) (filter now xs)
        ≡ filter now (cond b (x ∷ filter was xs) (filter was xs))
    go true was_so rest = ap (λ ys. cond (now x) (x ∷ ys) ys) rest
    go false was_so rest =
        let out : now x ≡ false = false_if (now x) (λ y. not_both false (was_so y) refl) in
        ap (λ (b : Bool). cond b (x ∷ filter now xs) (filter now xs)) out ∙ rest

-- A session that is open later

below-sooner : (t u : ℕ) (o : Option ℕ) → t ≤ u → is_below u o ≡ true → is_below t o ≡ true
below-sooner t u None le h = refl
below-sooner t u (Some limit) le h = grind (arith, nat_tests)

-- open later, with as much used or more: it was open before
open-sooner : (s : Session) (used t u : ℕ) → t ≤ u → s.used ≤ used
    → is_open_at u (record s { used = used }) ≡ true → is_open_at t s ≡ true
open-sooner s used t u later more h =
    let first = and-true (is_none s.closed) (is_below u s.ends && is_below used s.allowance) h in
    let both = and-true (is_below u s.ends) (is_below used s.allowance) first.1 in
    true-and (is_none s.closed) (is_below t s.ends && is_below s.used s.allowance) first.0
    (true-and (is_below t s.ends) (is_below s.used s.allowance) (below-sooner t u s.ends later both.0)
    (below-sooner s.used used s.allowance more both.1))

was_open : (t u : ℕ) → t ≤ u → (s : Session) → is_open_at u s ≡ true → is_open_at t s ≡ true
was_open t u later s h = open-sooner s s.used t u later (omega arith) h

pub open_was_open : OpenWasOpen
open_was_open H t later = filter-twice (is_open_at (last_moment H)) (is_open_at t)
    (was_open (last_moment H) t later) (all_sessions H)

-- what is listed for the gateway comes from the sessions open at the time of the last command
pub sessions_at-open : {X : Type 0} (shown : ℕ → Session → X) (H : History) (moment : ℕ)
    → map (shown (effective_moment H moment))
    (filter (is_open_at (effective_moment H moment)) (open_at_last H).sessions)
    ≡ map (shown (effective_moment H moment))
    (filter (is_open_at (effective_moment H moment)) (all_sessions H))
sessions_at-open shown H moment = ap (map (shown (effective_moment H moment)))
    (sym (open_was_open H (effective_moment H moment) (omega arith)))

-- The sessions of a history have their numbers

abbrev pub IsOf : History → Session → Type 0
IsOf H s = session_of H s.number ≡ Some s

pub all-numbered : (H : History) → All (IsOf H) (all_sessions H)
all-numbered H =
    All-map (IsOf H) (session_opened H) (openings (grants_of H))
    (All-weaker (IsFirst (grants_of H)) (λ g. IsOf H (session_opened H g)) (λ g first. session_at H g first)
    (openings (grants_of H)) (openings_first (grants_of H)))

-- One session is changed

-- where the changed one is open later only if it was open before, so are all
opens-after : (H : History) (t : ℕ) → last_moment H ≤ t → (xs : List Session) → All (IsOf H) xs
    → (r now : Session) → IsOf H r → now.number ≡ r.number
    → (is_open_at t now ≡ true → is_open_at (last_moment H) r ≡ true)
    → filter (is_open_at t) (map (replaced_if_same now) xs)
    ≡ filter (is_open_at t) (map (replaced_if_same now) (filter (is_open_at (last_moment H)) xs))
opens-after H t later xs all r now known named was =
    filter-both (replaced_if_same now) (is_open_at (last_moment H)) (is_open_at t) xs
    (All-weaker (IsOf H)
    (λ x. is_open_at t (replaced_if_same now x) ≡ true → is_open_at (last_moment H) x ≡ true)
    (λ x is. go x is (nat_eq now.number x.number) refl) xs all)
  where
    go : (x : Session) → IsOf H x → (b : Bool) → nat_eq now.number x.number ≡ b
        → is_open_at t (cond b now x) ≡ true → is_open_at (last_moment H) x ≡ true
    go x is true same h =
        let one : r.number ≡ x.number = sym named ∙ nat_eq-same now.number x.number same in
        let alike : r ≡ x = some-same r x (sym known ∙ ap (session_of H) one ∙ is) in
        subst (λ (y : Session). is_open_at (last_moment H) y ≡ true) alike (was h)
    go x is false other h = was_open (last_moment H) t later x h

kept-passes : (t : ℕ) (o : Option Session) (s : Session)
    → kept_if (is_open_at t) o ≡ Some s → is_open_at t s ≡ true
kept-passes t None s e = cc
kept-passes t (Some x) s e = go (is_open_at t x) refl e
  where
    go : (b : Bool) → is_open_at t x ≡ b → cond b (Some x) None ≡ Some s → is_open_at t s ≡ true
    go true is h = subst (λ (y : Session). is_open_at t y ≡ true) (some-same x s h) is
    go false is h = cc

-- a session of a history is the one of its number
own-number : (H : History) (n : ℕ) (s : Session) → session_of H n ≡ Some s → IsOf H s
own-number H n s e = ap (session_of H) (number-of H (grants_of H) n s e) ∙ e

never-closed : (t : ℕ) (s : Session) → is_open_at t (record s { closed = Some t }) ≡ true → ⊥
never-closed t s h = cc

-- what passes now of what a command leaves of sessions, and of what it leaves of those that were open
abbrev OpenAlike : History → ℕ → List Session → Changes → Type 0
OpenAlike H t xs ch = filter (is_open_at t) (sessions_after_changes ch xs)
    ≡ filter (is_open_at t) (sessions_after_changes ch (filter (is_open_at (last_moment H)) xs))

pub unchanged-alike : (H : History) (t : ℕ) → last_moment H ≤ t → (xs : List Session)
    → filter (is_open_at t) xs ≡ filter (is_open_at t) (filter (is_open_at (last_moment H)) xs)
unchanged-alike H t later xs = filter-twice (is_open_at (last_moment H)) (is_open_at t)
    (was_open (last_moment H) t later) xs

-- the sessions are those of the history, or some of them
module _ (H : History) (t : ℕ) (later : last_moment H ≤ t) (xs : List Session) (all : All (IsOf H) xs) where
  redeem-alike : (d : List ℕ) (v : Voucher) (running : Option Session)
      → kept_if (is_open_at t) (last_session_of H d) ≡ running
      → OpenAlike H t xs (redemption (head_of H) running d t v)
  redeem-alike d v None is =
      let s : Session = session_after (head_of H) v.plan None d t in
      filter-append (is_open_at t) xs (s ∷ [])
      ∙ ap (λ (ys : List Session). ys ++ filter (is_open_at t) (s ∷ [])) (unchanged-alike H t later xs)
      ∙ sym (filter-append (is_open_at t) (filter (is_open_at (last_moment H)) xs) (s ∷ []))
  redeem-alike d v (Some r) is =
      let known =
      own-number H (last_number (grants_of H) d) r (kept-some (is_open_at t) (last_session_of H d) r is) in
      opens-after H t later xs all r (session_after (head_of H) v.plan (Some r) d t) known refl
      (λ _. was_open (last_moment H) t later r (kept-passes t (last_session_of H d) r is))

  report-alike : (bytes n : ℕ) (s : Session) → session_of H n ≡ Some s
      → OpenAlike H t xs (ReportChange (record { at = t; session = s; bytes = bytes }))
  report-alike bytes n s e =
      opens-after H t later xs all s (with_report bytes s) (own-number H n s e) refl
      (λ h. open-sooner s (max bytes s.used) (last_moment H) t later (omega arith) h)

  close-alike : (n : ℕ) (s : Session) → session_of H n ≡ Some s
      → OpenAlike H t xs (CloseChange (record { at = t; session = s }))
  close-alike n s e =
      opens-after H t later xs all s (record s { closed = Some t }) (own-number H n s e) refl
      (λ h. absurd (never-closed t s h))

  pub alike : (command : Command) (ch : Changes) → changes_of H command t ≡ Some ch → OpenAlike H t xs ch
  alike (Load plans) ch e =
      let is : load_change (plan_of H) plans t ≡ ch = cc in
      subst (OpenAlike H t xs) is (unchanged-alike H t later xs)
  alike (Issue b p codes) ch e =
      made_of e (OpenAlike H t xs) (λ plan found. unchanged-alike H t later xs)
  alike (Sell c) ch e = made_of e (OpenAlike H t xs) (λ v found. unchanged-alike H t later xs)
  alike (Redeem d c) ch e =
      made_of e (OpenAlike H t xs)
      (λ v found. redeem-alike d v (kept_if (is_open_at t) (last_session_of H d)) refl)
  alike (Report n bytes) ch e =
      made_of e (OpenAlike H t xs) (λ s found. report-alike bytes n s found)
  alike (Refund c) ch e = made_of e (OpenAlike H t xs) (λ v found. unchanged-alike H t later xs)
  alike (Close n) ch e = made_of e (OpenAlike H t xs) (λ s found. close-alike n s found)

pub open_follows : OpenFollows
open_follows H legal command t follows ch e =
    ap (filter (is_open_at t)) (changes_give_sessions H legal command t follows ch e)
    ∙ alike H t follows.in_order (all_sessions H) (all-numbered H) command ch e

-- the changes have the time of their command
pub moment_is : (H : History) (command : Command) (t : ℕ) (ch : Changes)
    → changes_of H command t ≡ Some ch → moment_of ch ≡ t
moment_is H (Load plans) t ch e =
    let is : load_change (plan_of H) plans t ≡ ch = cc in sym (ap moment_of is)
moment_is H (Issue b p codes) t ch e = made_of e (λ x. moment_of x ≡ t) (λ plan found. refl)
moment_is H (Sell c) t ch e = made_of e (λ x. moment_of x ≡ t) (λ v found. refl)
moment_is H (Redeem d c) t ch e = made_of e (λ x. moment_of x ≡ t) (λ v found. refl)
moment_is H (Report n bytes) t ch e = made_of e (λ x. moment_of x ≡ t) (λ s found. refl)
moment_is H (Refund c) t ch e = made_of e (λ x. moment_of x ≡ t) (λ v found. refl)
moment_is H (Close n) t ch e = made_of e (λ x. moment_of x ≡ t) (λ s found. refl)
