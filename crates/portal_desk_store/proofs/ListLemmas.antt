-- The list that a desk keeps has the open sessions when it is read from the tables, after each command, and
-- without those that have ended.
use Rattle.portal_desk_store.proofs.Common.{◌≡◌, ℕ, ◌+◌, ◌<◌, ◌≤◌, max, Bool, true, false, cond, List, ◌∷◌}
use Rattle.portal_desk_store.proofs.Common.{map, filter, All, Option, Some, None, refl, arith, subst, ap, sym}
use Rattle.portal_desk_store.proofs.Common.{◌∙◌, nat_eq, length, get_or, All-map, All-weaker, Command, Load}
use Rattle.portal_desk_store.proofs.Common.{Issue, Sell, Redeem, Report, Refund, Close, Changes, Session}
use Rattle.portal_desk_store.proofs.Common.{all_sessions, changes_of}
use Rattle.portal_desk_store.proofs.Common.{load_change, session_after, entry, History, Grant}
use Rattle.portal_desk_store.proofs.Common.{effective_moment, grants_of, greatest_session, head_of}
use Rattle.portal_desk_store.proofs.Common.{is_open_at, kept_if, last_moment, last_session_of, plan_of}
use Rattle.portal_desk_store.proofs.Common.{session_of, openings, session_opened, Follows, IsLegal}
use Rattle.portal_desk_store.proofs.Common.{cond-false, cond-true, nat_eq-other, nat_eq-refl, number-le}
use Rattle.portal_desk_store.proofs.Common.{OpenAt, HasOpenSessions, IsAscending, replaced_if_same}
use Rattle.portal_desk_store.proofs.Common.{sessions_after_changes, after_redemption, moment_of, open_at_last}
use Rattle.portal_model.specs.Rows.{SessionRow, row_of_opening}
use Rattle.portal_model.specs.declared.change.Changes.TheVariants as change
use Rattle.portal_model_laws.specs.Records.{sessions_with}
use Rattle.portal_model_laws.proofs.Basics.{map-map}
use Rattle.portal_model_laws.proofs.Changing.{changes_give_records}
use Rattle.portal_model_laws.proofs.Numbers.{rows_are_numbered}
use Rattle.portal_model_laws.proofs.Opens.{open_is_last}
use Rattle.portal_model.specs.Captive.{captive_of, captive_state}
use Rattle.std.specs.List.{range_with_len}
use Rattle.std.proofs.lemmas.List.{get_or-map, length-map}
use Rattle.std.proofs.lemmas.List.Elements.{All-filter, All-push}
use Rattle.std.proofs.lemmas.List.FromFn.{get_or-range_with_len, length-range_with_len}
use Rattle.std.proofs.lemmas.List.Kept.{AllPairs-filter}
use Rattle.std.proofs.lemmas.List.Quantifiers.{all_pairs_push}
use Rattle.portal_desk_store.proofs.AscendingLemmas.{ascending-replaced}
use Rattle.portal_desk_store.proofs.OpenSessionLemmas.{IsOf, all-numbered, alike, filter-twice, moment_is}
use Rattle.portal_desk_store.proofs.OpenSessionLemmas.{open_follows, sessions_at-open, unchanged-alike}
use Rattle.portal_desk_store.proofs.SessionLemmas.{made_of}

-- a list of sessions with its time
abbrev pub open_at : ℕ → List Session → OpenAt
open_at moment sessions = record { moment = moment; sessions = sessions }

-- Read from the tables

-- the sessions of a history are numbered from 1, so they are in order
all-ascending : (H : History) → IsLegal H → IsAscending (all_sessions H)
all-ascending H legal = λ i j d below within.
    let opened : List Grant = openings (grants_of H) in
    let n : ℕ = greatest_session (grants_of H) in
    let rows = rows_are_numbered H legal in
    let numbers : map (λ s. s.number) (all_sessions H) ≡ range_with_len 1 n =
    map-map (session_opened H) (λ (s : Session). s.number) opened
    ∙ sym (map-map (row_of_opening H) (λ (row : SessionRow). row.number) opened) ∙ rows.sessions in
    let count : length (all_sessions H) ≡ n =
    sym (length-map (all_sessions H) (λ (s : Session). s.number)) ∙ ap length numbers
    ∙ length-range_with_len 1 n in
    let number : (k : ℕ) → k < n → (get_or (all_sessions H) k d).number ≡ 1 + k = λ k h.
    let inside : k < length (all_sessions H) = omega arith in
    sym (get_or-map (λ (s : Session). s.number) (all_sessions H) k d 0 inside)
    ∙ ap (λ (ns : List ℕ). get_or ns k 0) numbers ∙ get_or-range_with_len 1 n k 0 h in
    let last : j < n = omega arith in
    let first : i < n = omega arith in
    omega (arith, number i first, number j last)

pub has_at_last : (H : History) → IsLegal H → (list : OpenAt) → list ≡ open_at_last H → HasOpenSessions H list
has_at_last H legal list is =
    let is_open : Session → Bool = is_open_at (last_moment H) in
    subst (HasOpenSessions H) (sym is) (record {
      moment = refl;
      ascending = AllPairs-filter (λ (s later : Session). s.number < later.number) is_open (all_sessions H)
          (all-ascending H legal);
      known = All-filter is_open (IsOf H) (all_sessions H) (all-numbered H);
      open_ones = sym (filter-twice is_open is_open (λ s h. h) (all_sessions H));
    })

-- Listed for the gateway

pub listed : {X : Type 0} (shown : ℕ → Session → X) (H : History) (moment : ℕ) (list : OpenAt)
    → HasOpenSessions H list → (t : ℕ) → t ≡ max moment list.moment
    → map (shown t) (filter (is_open_at t) list.sessions)
    ≡ map (shown (effective_moment H moment))
    (filter (is_open_at (effective_moment H moment)) (all_sessions H))
listed shown H moment list has t at =
    let now : t ≡ effective_moment H moment = at ∙ ap (λ (u : ℕ). max moment u) has.moment in
    let later : last_moment H ≤ effective_moment H moment = omega arith in
    let kept : filter (is_open_at (last_moment H)) list.sessions ≡ (open_at_last H).sessions =
    ap (λ (u : ℕ). filter (is_open_at u) list.sessions) (sym has.moment) ∙ has.open_ones in
    ap (λ (u : ℕ). map (shown u) (filter (is_open_at u) list.sessions)) now
    ∙ ap (map (shown (effective_moment H moment)))
    (unchanged-alike H (effective_moment H moment) later list.sessions
    ∙ ap (filter (is_open_at (effective_moment H moment))) kept)
    ∙ sessions_at-open shown H moment

-- a session in the list that is open at the time of a request is its device's last one
pub listed_captive : (H : History) → IsLegal H → (list : OpenAt) → HasOpenSessions H list → (moment t : ℕ)
    → t ≡ max moment list.moment → (s : Session) → IsOf H s → (device : List ℕ) → s.device ≡ device
    → is_open_at t s ≡ true → captive_state t (Some s) ≡ captive_of H device moment
listed_captive H legal list has moment t at s is device named h =
    let now : t ≡ effective_moment H moment = at ∙ ap (λ (u : ℕ). max moment u) has.moment in
    let last = open_is_last H legal s.number moment s is (subst (λ (u : ℕ). is_open_at u s ≡ true) now h) in
    let mine : last_session_of H device ≡ Some s =
    subst (λ (d : List ℕ). last_session_of H d ≡ Some s) named last in
    ap (λ (u : ℕ). captive_state u (Some s)) now ∙ ap (captive_state (effective_moment H moment)) (sym mine)

-- Without those that have ended

pub has_pruned : (H : History) (list : OpenAt) → HasOpenSessions H list → (kept : List Session)
    → kept ≡ filter (is_open_at list.moment) list.sessions → HasOpenSessions H (open_at list.moment kept)
has_pruned H list has kept is =
    let is_open : Session → Bool = is_open_at list.moment in
    subst (λ (xs : List Session). HasOpenSessions H (open_at list.moment xs)) (sym is) (record {
      moment = has.moment;
      ascending = AllPairs-filter (λ (s later : Session). s.number < later.number) is_open list.sessions
          has.ascending;
      known = All-filter is_open (IsOf H) list.sessions has.known;
      open_ones = sym (filter-twice is_open is_open (λ s h. h) list.sessions) ∙ has.open_ones;
    })

-- After a command

-- an opened session has a greater number than those
abbrev IsAbove : Option Session → Session → List Session → Type 0
IsAbove (Some running) s xs = Unit {0}
IsAbove None s xs = All (λ x. x.number < s.number) xs

abbrev OpensAbove : Changes → List Session → Type 0
OpensAbove (change.RedeemChange c) xs = IsAbove c.running c.session xs
OpensAbove _ xs = Unit {0}

opens_above : (H : History) (command : Command) (t : ℕ) (ch : Changes) → changes_of H command t ≡ Some ch
    → (xs : List Session) → All (IsOf H) xs → OpensAbove ch xs
opens_above H (Load plans) t ch e xs known =
    let is : load_change (plan_of H) plans t ≡ ch = cc in subst (λ (x : Changes). OpensAbove x xs) is tt
opens_above H (Issue b p codes) t ch e xs known = made_of e (λ x. OpensAbove x xs) (λ plan found. tt)
opens_above H (Sell c) t ch e xs known = made_of e (λ x. OpensAbove x xs) (λ v found. tt)
opens_above H (Redeem d c) t ch e xs known =
    made_of e (λ x. OpensAbove x xs)
    (λ v found. go v.plan (kept_if (is_open_at t) (last_session_of H d)))
  where
    go : (plan : _) (running : Option Session)
        → IsAbove running (session_after (head_of H) plan running d t) xs
    go plan (Some r) = tt
    go plan None = All-weaker (IsOf H) (λ x. x.number < greatest_session (grants_of H) + 1)
        (λ x is. let low = number-le (grants_of H) H x.number x is in omega arith) xs known
opens_above H (Report n bytes) t ch e xs known = made_of e (λ x. OpensAbove x xs) (λ s found. tt)
opens_above H (Refund c) t ch e xs known = made_of e (λ x. OpensAbove x xs) (λ v found. tt)
opens_above H (Close n) t ch e xs known = made_of e (λ x. OpensAbove x xs) (λ s found. tt)

ascending-redeemed : (running : Option Session) (s : Session) (xs : List Session) → IsAscending xs
    → IsAbove running s xs → IsAscending (after_redemption running s xs)
ascending-redeemed (Some r) s xs up above = ascending-replaced xs up s
ascending-redeemed None s xs up above =
    all_pairs_push (λ (x later : Session). x.number < later.number) xs s up above

ascending-after : (ch : Changes) (xs : List Session) → IsAscending xs → OpensAbove ch xs
    → IsAscending (sessions_after_changes ch xs)
ascending-after (change.LoadChange c) xs up above = up
ascending-after (change.IssueChange c) xs up above = up
ascending-after (change.SellChange c) xs up above = up
ascending-after (change.RedeemChange c) xs up above = ascending-redeemed c.running c.session xs up above
ascending-after (change.ReportChange c) xs up above = ascending-replaced xs up _
ascending-after (change.RefundChange c) xs up above = up
ascending-after (change.CloseChange c) xs up above = ascending-replaced xs up _

-- one session of the history is as it is now
abbrev IsChanged : History → History → Session → Type 0
IsChanged H after now =
    (n : ℕ) → session_of after n ≡ cond (nat_eq now.number n) (Some now) (session_of H n)

module _ (H after : History) (now : Session) (changed : IsChanged H after now) where
  known-itself : IsOf after now
  known-itself = changed now.number ∙ cond-true (nat_eq now.number now.number) (Some now)
      (session_of H now.number) (nat_eq-refl now.number)

  known-other : (x : Session) → IsOf H x → nat_eq now.number x.number ≡ false → IsOf after x
  known-other x is other = changed x.number ∙ cond-false (nat_eq now.number x.number) (Some now)
      (session_of H x.number) other ∙ is

  known-replaced : (xs : List Session) → All (IsOf H) xs → All (IsOf after) (map (replaced_if_same now) xs)
  known-replaced xs known = All-map (IsOf after) (replaced_if_same now) xs
      (All-weaker (IsOf H) (λ x. IsOf after (replaced_if_same now x))
      (λ x is. go x is (nat_eq now.number x.number) refl) xs known)
    where
      go : (x : Session) → IsOf H x → (b : Bool) → nat_eq now.number x.number ≡ b
          → IsOf after (cond b now x)
      go x is true same = known-itself
      go x is false other = known-other x is other

  known-redeemed : (running : Option Session) (xs : List Session) → All (IsOf H) xs → IsAbove running now xs
      → All (IsOf after) (after_redemption running now xs)
  known-redeemed (Some r) xs known above = known-replaced xs known
  known-redeemed None xs known above = All-push (IsOf after) xs now
      (λ k d h. known-other (get_or xs k d) (known k d h)
      (nat_eq-other now.number (get_or xs k d).number (λ e. omega (arith, above k d h)))) known-itself

known-after : (H after : History) (ch : Changes)
    → ((n : ℕ) → session_of after n ≡ sessions_with ch (session_of H) n)
    → (xs : List Session) → All (IsOf H) xs → OpensAbove ch xs
    → All (IsOf after) (sessions_after_changes ch xs)
known-after H after (change.LoadChange c) same xs known above =
    All-weaker (IsOf H) (IsOf after) (λ x is. same x.number ∙ is) xs known
known-after H after (change.IssueChange c) same xs known above =
    All-weaker (IsOf H) (IsOf after) (λ x is. same x.number ∙ is) xs known
known-after H after (change.SellChange c) same xs known above =
    All-weaker (IsOf H) (IsOf after) (λ x is. same x.number ∙ is) xs known
known-after H after (change.RedeemChange c) changed xs known above =
    known-redeemed H after c.session changed c.running xs known above
known-after H after (change.ReportChange c) changed xs known above =
    known-replaced H after _ changed xs known
known-after H after (change.RefundChange c) same xs known above =
    All-weaker (IsOf H) (IsOf after) (λ x is. same x.number ∙ is) xs known
known-after H after (change.CloseChange c) changed xs known above =
    known-replaced H after _ changed xs known

pub has_after : (H : History) → IsLegal H → (command : Command) (t : ℕ) → Follows H t command
    → (ch : Changes) → changes_of H command t ≡ Some ch → (list : OpenAt) → HasOpenSessions H list
    → (moment : ℕ) → moment ≡ moment_of ch
    → (sessions : List Session)
    → (IsAscending list.sessions → sessions ≡ sessions_after_changes ch list.sessions)
    → HasOpenSessions (entry t command ∷ H) (open_at moment sessions)
has_after H legal command t follows ch e list has moment at sessions with_changes =
    let now : moment ≡ t = at ∙ moment_is H command t ch e in
    let xs : List Session = list.sessions in
    let above : OpensAbove ch xs = opens_above H command t ch e xs has.known in
    let records = changes_give_records H legal command t follows ch e in
    let kept : filter (is_open_at (last_moment H)) xs ≡ (open_at_last H).sessions =
    ap (λ (u : ℕ). filter (is_open_at u) xs) (sym has.moment) ∙ has.open_ones in
    subst (λ (ys : List Session). HasOpenSessions (entry t command ∷ H) (open_at moment ys))
    (sym (with_changes has.ascending)) (record {
      moment = now;
      ascending = ascending-after ch xs has.ascending above;
      known = known-after H (entry t command ∷ H) ch records.sessions xs has.known above;
      open_ones = ap (λ (u : ℕ). filter (is_open_at u) (sessions_after_changes ch xs)) now
          ∙ alike H t follows.in_order xs has.known command ch e
          ∙ ap (λ (ys : List Session). filter (is_open_at t) (sessions_after_changes ch ys)) kept
          ∙ sym (open_follows H legal command t follows ch e);
    })
