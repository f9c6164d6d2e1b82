-- What a command makes of the tables is what it makes of the rows of the history.
use Rattle.portal_tables.proofs.Common.{◌≡◌, ℕ, ◌+◌, ◌<◌, Bool, true, false, cond, List, [], ◌∷◌, ◌++◌, map}
use Rattle.portal_tables.proofs.Common.{All, Option, Some, None, option_map, refl, ap, ap₂, sym, subst, ◌∙◌}
use Rattle.portal_tables.proofs.Common.{arith, append-nil, nat_eq, max, Less, zero, suc, range_with_len}
use Rattle.portal_tables.proofs.Common.{AllByRecursion, map-append, recursion_from_All, nat_tests}
use Rattle.portal_tables.proofs.Common.{Decides-eqb, ints, IsCode, text_of, Session, Plan, Changes, entry}
use Rattle.portal_tables.proofs.Common.{History, IssuedVoucher, issued_of, voucher_of, voucher_row}
use Rattle.portal_tables.proofs.Common.{session_of, last_session_of, head_of, kept_if, is_open_at, plan_of}
use Rattle.portal_tables.proofs.Common.{changes_of, session_after, head_after, with_report, issue_change}
use Rattle.portal_tables.proofs.Common.{sell_change, redeem_change, report_change, refund_change}
use Rattle.portal_tables.proofs.Common.{close_change, Rows, VoucherRow, SessionRow, GrantRow, CountRow}
use Rattle.portal_tables.proofs.Common.{TotalRow, rows_of, rows_after_changes, total_row, new_vouchers}
use Rattle.portal_tables.proofs.Common.{new_counts, sold_if, refunded_if, used_if, closed_if, counted_if}
use Rattle.portal_tables.proofs.Common.{totalled_if, new_grant, IsLegal, Follows, IsTyped, rows_are_numbered}
use Rattle.portal_tables.proofs.Common.{rows_are_typed, with_ends_if, with_moment, with_use, after_changes}
use Rattle.portal_tables.proofs.Common.{after_remainder, RequestRow, contents_of, head_kept, voucher_kept}
use Rattle.portal_tables.proofs.Common.{session_kept, grant_kept, count_kept, code_test}
use Rattle.sqlite_value.proofs.OrderLemmas.{value_cmp-Int}
use Rattle.sqlite.specs.Order.{value_cmp}
use Rattle.portal_model.specs.declared.command.Command.{Command}
use Rattle.portal_model.specs.declared.command.Command.TheVariants.{Load, Issue, Sell, Redeem, Report, Refund}
use Rattle.portal_model.specs.declared.command.Command.TheVariants.{Close}
use Rattle.portal_model.specs.declared.record.Head.{Head}
use Rattle.portal_model.specs.declared.record.Voucher.{Voucher}
use Rattle.portal_model.specs.declared.change.Changes.TheVariants as to
use Rattle.portal_model_laws.specs.Laws.{AreTyped}
use Rattle.portal_model_laws.proofs.Leading.{changes_give_rows}
use Rattle.portal_tables_sql.specs.Stored.{number, put_by}
use Rattle.portal_tables.proofs.Reported.{left_alone}

-- ---- rows that change

carried : {X Y : Type 0} (s : X → Y) (f : Y → Y) (g : X → X) (P : X → Type 0)
    → ((x : X) → P x → f (s x) ≡ s (g x)) → (xs : List X) → AllByRecursion P xs
    → map f (map s xs) ≡ map s (map g xs)
carried s f g P each [] all = refl
carried s f g P each (x ∷ xs) all = ap₂ ◌∷◌ (each x all.0) (carried s f g P each xs all.1)

-- a change of the row with the code, by the test of the texts
changed : {X Y : Type 0} (s : X → Y) (made : Y) (x done : X) (a b : Bool) → a ≡ b → made ≡ s done
    → cond a made (s x) ≡ s (cond b done x)
changed s made x done true b same is = rw (← same) is
changed s made x done false b same is = rw (← same) refl

each : {X : Type 0} (P : X → Type 0) (xs : List X) → All P xs → AllByRecursion P xs
each P xs h = recursion_from_All P xs h

anything : {X : Type 0} (xs : List X) → AllByRecursion (λ _. Unit {0}) xs
anything [] = tt
anything (x ∷ xs) = (tt, anything xs)

sold_alike : (code : List ℕ) (t : ℕ) → IsCode code → (vs : List VoucherRow) → All (λ v. IsCode v.code) vs
    → map (sold_if (text_of code) t) (map voucher_kept vs) ≡ map voucher_kept (map (sold_if code t) vs)
sold_alike code t is vs typed =
    carried voucher_kept (sold_if (text_of code) t) (sold_if code t) (λ v. IsCode v.code)
    (λ v h. changed voucher_kept (record (voucher_kept v) { sold = Some t }) v (record v { sold = Some t }) _
    _ (code_test code v.code is h) refl) vs (each _ vs typed)

refunded_alike : (code : List ℕ) (t amount : ℕ) → IsCode code → (vs : List VoucherRow)
    → All (λ v. IsCode v.code) vs
    → map (refunded_if (text_of code) t amount) (map voucher_kept vs)
    ≡ map voucher_kept (map (refunded_if code t amount) vs)
refunded_alike code t amount is vs typed =
    carried voucher_kept (refunded_if (text_of code) t amount)
    (refunded_if code t amount) (λ v. IsCode v.code)
    (λ v h. changed voucher_kept (record (voucher_kept v) { refunded = Some t; amount = Some amount })
    v (record v { refunded = Some t; amount = Some amount }) _ _ (code_test code v.code is h) refl) vs
    (each _ vs typed)

counted_alike : (code : List ℕ) (n : ℕ) → IsCode code → (ks : List CountRow) → All (λ k. IsCode k.code) ks
    → map (counted_if (text_of code) n) (map count_kept ks) ≡ map count_kept (map (counted_if code n) ks)
counted_alike code n is ks typed =
    carried count_kept (counted_if (text_of code) n) (counted_if code n) (λ k. IsCode k.code)
    (λ k h. changed count_kept (record (count_kept k) { redeemed = n }) k (record k { redeemed = n }) _ _
    (code_test code k.code is h) refl) ks (each _ ks typed)

used_alike : (n u : ℕ) (ss : List SessionRow)
    → map (used_if n u) (map session_kept ss) ≡ map session_kept (map (used_if n u) ss)
used_alike n u ss =
    carried session_kept (used_if n u) (used_if n u) (λ _. Unit {0}) (λ s h.
    changed session_kept (record (session_kept s) { used = u }) s (record s { used = u }) _ _ refl refl)
    ss (anything ss)

closed_alike : (n t : ℕ) (ss : List SessionRow)
    → map (closed_if n t) (map session_kept ss) ≡ map session_kept (map (closed_if n t) ss)
closed_alike n t ss =
    carried session_kept (closed_if n t) (closed_if n t) (λ _. Unit {0}) (λ s h. changed session_kept
    (record (session_kept s) { closed = Some t }) s (record s { closed = Some t }) _ _ refl refl)
    ss (anything ss)

-- the row of the session is put in its place: it has the same number
ended_one : (s : Session) (m : TotalRow) (b : Bool) → nat_eq s.number m.number ≡ b
    → cond b (record m { ends = (total_row s).ends; remaining = (total_row s).remaining }) m
    ≡ cond b (total_row s) m
ended_one s m true is = let same : s.number ≡ m.number = (Decides-eqb s.number m.number).0 is in
    λ i. record { number = sym same i; ends = s.ends; remaining = (total_row s).remaining }
ended_one s m false is = refl

ended_alike : (s : Session) (ms : List TotalRow)
    → map (with_ends_if (total_row s)) ms ≡ map (totalled_if s) ms
ended_alike s [] = refl
ended_alike s (m ∷ ms) = ap₂ ◌∷◌ (ended_one s m _ refl) (ended_alike s ms)

-- ---- rows more

new_alike : (b : List ℕ) (n : ℕ) (codes : List (List ℕ))
    → new_vouchers b n (map text_of codes) ≡ map voucher_kept (new_vouchers b n codes)
new_alike b n [] = refl
new_alike b n (code ∷ codes) = ap (λ vs. record {
  code = text_of code;
  batch = b;
  place = n;
  sold = None;
  refunded = None;
  amount = None;
} ∷ vs) (new_alike b (n + 1) codes)

zeros_alike : (codes : List (List ℕ)) → new_counts (map text_of codes) ≡ map count_kept (new_counts codes)
zeros_alike [] = refl
zeros_alike (code ∷ codes) = ap (λ ks. record { code = text_of code; redeemed = 0 } ∷ ks) (zeros_alike codes)

less : (a b : ℕ) → a < b → value_cmp (number a) (number b) ≡ Less
less a b low = value_cmp-Int _ _ ∙ grind (arith, ints, nat_tests)

-- a row with the next number comes last
put_last : {X : Type 0} (key : X → ℕ) (new : X) (from count : ℕ) (xs : List X)
    → map key xs ≡ range_with_len from count → key new ≡ from + count → put_by key new xs ≡ xs ++ new ∷ []
put_last key new from count [] is last = refl
put_last key new from zero (x ∷ xs) is last = absurd (cc)
put_last key new from (suc count) (x ∷ xs) is last =
    let first : key x ≡ from = cc in
    let rest : map key xs ≡ range_with_len (from + 1) count = cc in
    let low : key x < key new = omega (arith, first, last) in
    rw (less (key x) (key new) low)
    (ap (λ l. x ∷ l) (put_last key new (from + 1) count xs rest (omega (arith, last))))

keys_kept : {X : Type 0} (s : X → X) (key : X → ℕ) → ((x : X) → key (s x) ≡ key x) → (xs : List X)
    → map key (map s xs) ≡ map key xs
keys_kept s key same [] = refl
keys_kept s key same (x ∷ xs) = ap₂ ◌∷◌ (same x) (keys_kept s key same xs)

-- ---- the commands

-- the rows are numbered from 1, in their order
pub record AreCounted (r : Rows) : Type 0 where
  pub sessions : map (λ (s : SessionRow). s.number) r.sessions ≡ range_with_len 1 r.head.sessions
  pub totals : map (λ (m : TotalRow). m.number) r.totals ≡ range_with_len 1 r.head.sessions
  pub grants : map (λ (g : GrantRow). g.number) r.grants ≡ range_with_len 1 r.head.grants

module _ (ks : List RequestRow) (schema_version : ℕ) (r : Rows) (typed : AreTyped r)
    (counted : AreCounted r) where
  session_added : (s : SessionRow) → s.number ≡ r.head.sessions + 1
      → put_by (λ (x : SessionRow). x.number) (session_kept s) (map session_kept r.sessions)
      ≡ map session_kept (r.sessions ++ s ∷ [])
  session_added s next =
      put_last (λ (x : SessionRow). x.number) (session_kept s) 1 r.head.sessions (map session_kept r.sessions)
      (keys_kept session_kept (λ (x : SessionRow). x.number) (λ x. refl) r.sessions ∙ counted.sessions)
      (omega (arith, next))
      ∙ sym (map-append session_kept r.sessions (s ∷ []))

  total_added : (m : TotalRow) → m.number ≡ r.head.sessions + 1
      → put_by (λ (x : TotalRow). x.number) m r.totals ≡ r.totals ++ m ∷ []
  total_added m next =
      put_last (λ (x : TotalRow). x.number) m 1 r.head.sessions r.totals counted.totals (omega (arith, next))

  grant_added : (g : GrantRow) → g.number ≡ r.head.grants + 1
      → put_by (λ (x : GrantRow). x.number) (grant_kept g) (map grant_kept r.grants)
      ≡ map grant_kept (r.grants ++ g ∷ [])
  grant_added g next =
      put_last (λ (x : GrantRow). x.number) (grant_kept g) 1 r.head.grants (map grant_kept r.grants)
      (keys_kept grant_kept (λ (x : GrantRow). x.number) (λ x. refl) r.grants ∙ counted.grants)
      (omega (arith, next))
      ∙ sym (map-append grant_kept r.grants (g ∷ []))

  redeem_kept : (at : ℕ) (v : Voucher) (running : Option Session) (s : Session) → IsCode v.code
      → (running ≡ None → s.number ≡ r.head.sessions + 1)
      → let c = to.RedeemChange (record {
        at = at;
        head = r.head;
        voucher = v;
        running = running;
        session = s;
      }) in
      after_changes c (contents_of ks schema_version r)
      ≡ contents_of ks schema_version (rows_after_changes c r)
  redeem_kept at v None s code next = λ i. record {
    heads = head_kept schema_version (head_after r.head None at) ∷ [];
    plans = r.plans;
    batches = r.batches;
    vouchers = map voucher_kept r.vouchers;
    sessions = session_added (record {
      number = s.number;
      device = s.device;
      plan = v.plan.id;
      opened = s.opened;
      used = 0;
      closed = None;
    }) (next refl) i;
    grants = grant_added (new_grant r.head v s at) refl i;
    counts = counted_alike v.code (v.redeemed + 1) code r.counts typed.counts i;
    totals = total_added (total_row s) (next refl) i;
    requests = ks;
  }
  redeem_kept at v (Some running) s code next = λ i. record {
    heads = head_kept schema_version (head_after r.head (Some running) at) ∷ [];
    plans = r.plans;
    batches = r.batches;
    vouchers = map voucher_kept r.vouchers;
    sessions = ap (map session_kept) (sym (append-nil r.sessions)) i;
    grants = grant_added (new_grant r.head v s at) refl i;
    counts = counted_alike v.code (v.redeemed + 1) code r.counts typed.counts i;
    totals = ended_alike s r.totals i;
    requests = ks;
  }

  -- the changes are those of a command over these rows
  abbrev pub IsOver : Changes → Type 0
  IsOver (to.LoadChange c) = Unit {0}
  IsOver (to.IssueChange c) = Unit {0}
  IsOver (to.SellChange c) = IsCode c.voucher.code
  IsOver (to.RedeemChange c) =
      IsCode c.voucher.code × (c.head ≡ r.head) × (c.running ≡ None → c.session.number ≡ r.head.sessions + 1)
  IsOver (to.ReportChange c) =
      c.session.allowance ≡ None → map (totalled_if (with_report c.bytes c.session)) r.totals ≡ r.totals
  IsOver (to.RefundChange c) = IsCode c.voucher.code
  IsOver (to.CloseChange c) = Unit {0}

  pub kept_is : (c : Changes) → IsOver c → after_changes c (contents_of ks schema_version r)
      ≡ contents_of ks schema_version (rows_after_changes c r)
  kept_is (to.LoadChange c) h = refl
  kept_is (to.IssueChange c) h = λ i. record {
    heads = head_kept schema_version (record r.head { last = c.at }) ∷ [];
    plans = r.plans;
    batches = r.batches ++ c.batch ∷ [];
    vouchers = (ap (λ vs. map voucher_kept r.vouchers ++ vs) (new_alike c.batch.id 0 c.codes)
        ∙ sym (map-append voucher_kept r.vouchers (new_vouchers c.batch.id 0 c.codes))) i;
    sessions = map session_kept r.sessions;
    grants = map grant_kept r.grants;
    counts = (ap (λ ks. map count_kept r.counts ++ ks) (zeros_alike c.codes)
        ∙ sym (map-append count_kept r.counts (new_counts c.codes))) i;
    totals = r.totals;
    requests = ks;
  }
  kept_is (to.SellChange c) h =
      λ i. record (contents_of ks schema_version (rows_after_changes (to.SellChange c) r))
      { vouchers = sold_alike c.voucher.code c.at h r.vouchers typed.vouchers i }
  kept_is (to.RedeemChange c) h =
      subst (λ (x : Head). let y = to.RedeemChange (record c { head = x }) in after_changes y
      (contents_of ks schema_version r) ≡ contents_of ks schema_version (rows_after_changes y r))
      (sym h.1) (redeem_kept c.at c.voucher c.running c.session h.0 h.2)
  kept_is (to.ReportChange c) h = go c.session.allowance refl
    where
      after : Session
      after = with_report c.bytes c.session

      go : (o : Option ℕ) → c.session.allowance ≡ o
          → with_moment c.at (after_remainder o (total_row after)
          (with_use c.session.number (max c.bytes c.session.used) (contents_of ks schema_version r)))
          ≡ contents_of ks schema_version (rows_after_changes (to.ReportChange c) r)
      go None none = λ i. record (contents_of ks schema_version (rows_after_changes (to.ReportChange c) r)) {
        sessions = used_alike c.session.number (max c.bytes c.session.used) r.sessions i;
        totals = sym (h none) i;
      }
      go (Some allowance) some =
          λ i. record (contents_of ks schema_version (rows_after_changes (to.ReportChange c) r)) {
            sessions = used_alike c.session.number (max c.bytes c.session.used) r.sessions i;
            totals = ended_alike (with_report c.bytes c.session) r.totals i;
          }
  kept_is (to.RefundChange c) h =
      λ i. record (contents_of ks schema_version (rows_after_changes (to.RefundChange c) r))
      { vouchers = refunded_alike c.voucher.code c.at c.amount h r.vouchers typed.vouchers i }
  kept_is (to.CloseChange c) h =
      λ i. record (contents_of ks schema_version (rows_after_changes (to.CloseChange c) r))
      { sessions = closed_alike c.session.number c.at r.sessions i }

-- ---- the changes of a command

some_is : {X : Type 0} {a b : X} → Some a ≡ Some b → a ≡ b
some_is e = cc

the_code : (H : History) (code : List ℕ) (v : Voucher) → voucher_of H code ≡ Some v → v.code ≡ code
the_code H code v is = go (issued_of H code) is
  where
    go : (o : Option IssuedVoucher) → option_map (voucher_row H code) o ≡ Some v → v.code ≡ code
    go None e = absurd (cc)
    go (Some i) e = ap (λ (x : Voucher). x.code) (sym (some_is e))

code_over : (H : History) (code : List ℕ) (v : Voucher) → IsCode code
    → voucher_of H code ≡ Some v → IsCode v.code
code_over H code v is found = subst IsCode (sym (the_code H code v found)) is

next_number : (head : Head) (plan : Plan) (device : List ℕ) (t : ℕ) (running : Option Session)
    → running ≡ None → (session_after head plan running device t).number ≡ head.sessions + 1
next_number head plan device t None e = refl
next_number head plan device t (Some s) e = absurd (cc)

module _ (ks : List RequestRow) (schema_version : ℕ) (H : History) (legal : IsLegal H) (t : ℕ)
    (typed : AreTyped (rows_of H)) (counted : AreCounted (rows_of H)) where
  abbrev Over : Changes → Type 0
  Over = IsOver ks schema_version (rows_of H) typed counted

  sells : (code : List ℕ) (o : Option Voucher) (changes : Changes)
      → ((v : Voucher) → o ≡ Some v → IsCode v.code) → sell_change o t ≡ Some changes → Over changes
  sells code None changes is e = absurd (cc)
  sells code (Some v) changes is e = subst Over (some_is e) (is v refl)

  repays : (o : Option Voucher) (changes : Changes) → ((v : Voucher) → o ≡ Some v → IsCode v.code)
      → refund_change o t ≡ Some changes → Over changes
  repays None changes is e = absurd (cc)
  repays (Some v) changes is e = subst Over (some_is e) (is v refl)

  redeems : (device : List ℕ) (last : Option Session) (o : Option Voucher) (changes : Changes)
      → ((v : Voucher) → o ≡ Some v → IsCode v.code)
      → redeem_change (head_of H) o last device t ≡ Some changes → Over changes
  redeems device last None changes is e = absurd (cc)
  redeems device last (Some v) changes is e = subst Over (some_is e) (
    is v refl,
    refl,
    λ none. next_number (head_of H) v.plan device t (kept_if (is_open_at t) last) none,
  )

  reports : (n bytes : ℕ) (o : Option Session) (changes : Changes) → session_of H n ≡ o
      → report_change o bytes t ≡ Some changes → Over changes
  reports n bytes None changes is e = absurd (cc)
  reports n bytes (Some s) changes is e = subst Over (some_is e) (left_alone H n bytes s is)

  closes : (o : Option Session) (changes : Changes) → close_change o t ≡ Some changes → Over changes
  closes None changes e = absurd (cc)
  closes (Some s) changes e = subst Over (some_is e) tt

  issues : (id : List ℕ) (codes : List (List ℕ)) (o : Option Plan) (changes : Changes)
      → issue_change o id codes t ≡ Some changes → Over changes
  issues id codes None changes e = absurd (cc)
  issues id codes (Some p) changes e = subst Over (some_is e) tt

  over : (command : Command) (changes : Changes) → IsTyped command
      → changes_of H command t ≡ Some changes → Over changes
  over (Load plans) changes h e = subst Over (some_is e) tt
  over (Issue b p codes) changes h e = issues b codes (plan_of H p) changes e
  over (Sell c) changes h e = sells c (voucher_of H c) changes (λ v found. code_over H c v h found) e
  over (Redeem d c) changes h e =
      redeems d (last_session_of H d) (voucher_of H c) changes (λ v found. code_over H c v h.1 found) e
  over (Report n bytes) changes h e = reports n bytes (session_of H n) changes refl e
  over (Refund c) changes h e = repays (voucher_of H c) changes (λ v found. code_over H c v h found) e
  over (Close n) changes h e = closes (session_of H n) changes e

-- a command makes of the tables of a history those of the history with its entry
pub leads_on : (ks : List RequestRow) (schema_version : ℕ) (H : History) → IsLegal H
    → (command : Command) (t : ℕ) → Follows H t command → (changes : Changes)
    → changes_of H command t ≡ Some changes
    → after_changes changes (contents_of ks schema_version (rows_of H))
    ≡ contents_of ks schema_version (rows_of (entry t command ∷ H))
leads_on ks schema_version H legal command t follows changes is =
    let typed = rows_are_typed H legal in
    let n = rows_are_numbered H legal in
    let counted : AreCounted (rows_of H) =
    record { sessions = n.sessions; totals = n.totals; grants = n.grants } in
    kept_is ks schema_version (rows_of H) typed counted changes
    (over ks schema_version H legal t typed counted command changes follows.typed is)
    ∙ ap (contents_of ks schema_version) (sym (changes_give_rows H legal command t follows changes is))
