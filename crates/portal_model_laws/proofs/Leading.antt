-- What an accepted command makes of the rows.
use Rattle.portal_model_laws.proofs.Common.{◌≡◌, ℕ, ◌+◌, ◌≤◌, max, Bool, true, false, cond, List, [], ◌∷◌}
use Rattle.portal_model_laws.proofs.Common.{◌++◌, map, length, Option, Some, None, refl, arith, subst, ap}
use Rattle.portal_model_laws.proofs.Common.{sym, ◌∙◌, bytes_eq, option_map, nat_eq, nat_lt, is_some}
use Rattle.portal_model_laws.proofs.Common.{unwrap_or, option_to_list, map-append, append-nil, All-weaker}
use Rattle.portal_model_laws.proofs.Common.{nat_tests, Issue, Sell, Redeem, Report, Refund, Close, Plan}
use Rattle.portal_model_laws.proofs.Common.{Batch, Voucher, Session, Head, Changes, IssueChange, ReportChange}
use Rattle.portal_model_laws.proofs.Common.{entry, History, Place, places_from, IssuedVoucher, Grant}
use Rattle.portal_model_laws.proofs.Common.{issued_of, uses_of, voucher_row, sold_of, refund_of, RefundEntry}
use Rattle.portal_model_laws.proofs.Common.{refund_entry_at, plan_of, batch_of, batch_row, amount_left}
use Rattle.portal_model_laws.proofs.Common.{grants_of, grant_at, greatest_session, members, oldest}
use Rattle.portal_model_laws.proofs.Common.{last_number, session_of, session_row, last_session_of, used_of}
use Rattle.portal_model_laws.proofs.Common.{closed_of, kept_if, is_open_at, head_of, IsLegal, Follows}
use Rattle.portal_model_laws.proofs.Common.{any_held, Command, session_after, redemption, with_report}
use Rattle.portal_model_laws.proofs.Common.{row_of_grant, VoucherRow, SessionRow, GrantRow, Rows, places_of}
use Rattle.portal_model_laws.proofs.Common.{row_of_place, row_of_opening, openings, grant_rows, batches_of}
use Rattle.portal_model_laws.proofs.Common.{vouchers_of, sessions_of, rows_of, rows_after_changes}
use Rattle.portal_model_laws.proofs.Common.{with_last_moment, new_vouchers, sold_if, refunded_if, used_if}
use Rattle.portal_model_laws.proofs.Common.{closed_if, new_session, new_grant, CountRow, TotalRow}
use Rattle.portal_model_laws.proofs.Common.{count_of_place, counts_of, new_counts, counted_if, session_opened}
use Rattle.portal_model_laws.proofs.Common.{total_row, total_of_opening, totals_of, totalled_if, totals_after}
use Rattle.portal_model_laws.proofs.Commands.{OfEach, by_command}
use Rattle.portal_model_laws.specs.Laws.{ChangesGiveRows}
use Rattle.portal_model_laws.proofs.Placing.{kept-some, number-of, number-le, unreported, granted}
use Rattle.portal_model_laws.proofs.Placing.{redeem_leads}
use Rattle.portal_model_laws.proofs.Openings.{IsFirst, still-first, new-first, openings_first, session_at}
use Rattle.portal_model_laws.proofs.Openings.{total-changed, report_session}
use Rattle.portal_model_laws.proofs.Accepted.{issuable}
use Rattle.portal_model_laws.proofs.Unissued.{unissued}
use Rattle.portal_model_laws.proofs.Basics.{cond-ap, cond-same, bytes_same, cond-false, cond-true}
use Rattle.portal_model_laws.proofs.Basics.{is_some-none, map-changed, map-changed_all, map-same}
use Rattle.portal_model_laws.proofs.Basics.{nat_eq-other, nat_eq-refl, nat_eq-same, or-false, some-of-map}
use Rattle.portal_model_laws.proofs.Basics.{some-same}

-- Issue

row_of_new : (H : History) → IsLegal H → (b code : List ℕ) (n : ℕ) → issued_of H code ≡ None
    → row_of_place H (record { code = code; batch = b; place = n })
    ≡ record { code = code; batch = b; place = n; sold = None; refunded = None; amount = None }
row_of_new H legal b code n none = let h = unissued H legal code none in rw (h.sold, h.refund)

new_rows : (H : History) → IsLegal H → (b : List ℕ) (n : ℕ) (codes : List (List ℕ)) → any_held H codes ≡ false
    → map (row_of_place H) (places_from b n codes) ≡ new_vouchers b n codes
new_rows H legal b n [] h = refl
new_rows H legal b n (code ∷ codes) h =
    let free = or-false (is_some (issued_of H code)) (any_held H codes) h in
    rw (
      row_of_new H legal b code n (is_some-none (issued_of H code) free.0),
      new_rows H legal b (n + 1) codes free.1,
    )

count_of_new : (H : History) → IsLegal H → (b code : List ℕ) (n : ℕ) → issued_of H code ≡ None
    → count_of_place H (record { code = code; batch = b; place = n }) ≡ record { code = code; redeemed = 0 }
count_of_new H legal b code n none = rw ((unissued H legal code none).uses)

new_count_rows : (H : History) → IsLegal H → (b : List ℕ) (n : ℕ) (codes : List (List ℕ))
    → any_held H codes ≡ false → map (count_of_place H) (places_from b n codes) ≡ new_counts codes
new_count_rows H legal b n [] h = refl
new_count_rows H legal b n (code ∷ codes) h =
    let free = or-false (is_some (issued_of H code)) (any_held H codes) h in
    rw (
      count_of_new H legal b code n (is_some-none (issued_of H code) free.0),
      new_count_rows H legal b (n + 1) codes free.1,
    )

abbrev with_batch : History → ℕ → List Batch → List VoucherRow → List CountRow → Rows
with_batch H t batches vouchers counts = record (rows_of H)
    { head = with_last_moment t (head_of H); batches = batches; vouchers = vouchers; counts = counts }

issue_leads : (H : History) → IsLegal H → (t : ℕ) (b p : List ℕ) (codes : List (List ℕ)) (plan : Plan)
    → plan_of H p ≡ Some plan → any_held H codes ≡ false
    → rows_of (entry t (Issue b p codes) ∷ H) ≡ rows_after_changes (IssueChange (record {
      at = t;
      batch = batch_row t b (length codes) plan;
      codes = codes;
    })) (rows_of H)
issue_leads H legal t b p codes plan is free =
    let after : History = entry t (Issue b p codes) ∷ H in
    let row : Batch = batch_row t b (length codes) plan in
    let vouchers : vouchers_of after ≡ vouchers_of H ++ new_vouchers b 0 codes =
    map-append (row_of_place H) (places_of H) (places_from b 0 codes)
    ∙ ap (λ rows. vouchers_of H ++ rows) (new_rows H legal b 0 codes free) in
    let counts : counts_of after ≡ counts_of H ++ new_counts codes =
    map-append (count_of_place H) (places_of H) (places_from b 0 codes)
    ∙ ap (λ rows. counts_of H ++ rows) (new_count_rows H legal b 0 codes free) in
    let batches : batches_of after ≡ batches_of H ++ row ∷ [] =
    ap (λ o. batches_of H ++ option_to_list (option_map (batch_row t b (length codes)) o)) is in
    λ i. with_batch H t (batches i) (vouchers i) (counts i)

-- Sell

abbrev with_vouchers : History → ℕ → List VoucherRow → Rows
with_vouchers H t vouchers = record (rows_of H) { head = with_last_moment t (head_of H); vouchers = vouchers }

sell_row : (H : History) (t : ℕ) (c : List ℕ) (k : Place)
    → row_of_place (entry t (Sell c) ∷ H) k ≡ sold_if c t (row_of_place H k)
sell_row H t c k =
    cond-ap (λ o. record (row_of_place H k) { sold = o }) (bytes_eq c k.code) (Some t) (sold_of H k.code)

-- Refund

refund_row : (H : History) (t : ℕ) (c : List ℕ) (i : IssuedVoucher) → issued_of H c ≡ Some i → (k : Place)
    → row_of_place (entry t (Refund c) ∷ H) k
    ≡ refunded_if c t (amount_left i.plan (uses_of H c)) (row_of_place H k)
refund_row H t c i e k =
    let repaid : List ℕ → Option RefundEntry =
    λ x. option_map (refund_entry_at t (uses_of H x)) (issued_of H x) in
    let with_refund : Option RefundEntry → VoucherRow = λ o. record (row_of_place H k)
    { refunded = option_map (λ r. r.at) o; amount = option_map (λ r. r.amount) o } in
    cond-ap with_refund (bytes_eq c k.code) (repaid k.code) (refund_of H k.code)
    ∙ cond-same (bytes_eq c k.code) (with_refund (repaid k.code))
    (with_refund (Some (refund_entry_at t (uses_of H c) i))) (row_of_place H k)
    (λ same. ap (λ (x : List ℕ). with_refund (repaid x)) (sym (bytes_same c k.code same))
    ∙ ap (λ o. with_refund (option_map (refund_entry_at t (uses_of H c)) o)) e)

-- Report and close

abbrev with_sessions : History → ℕ → List SessionRow → Rows
with_sessions H t sessions = record (rows_of H) { head = with_last_moment t (head_of H); sessions = sessions }

-- a session's number and its greatest report
session_is : (H : History) (n : ℕ) (s : Session) → session_of H n ≡ Some s
    → (s.number ≡ n) × (s.used ≡ used_of H n)
session_is H n s e =
    let found =
    some-of-map (session_row H n (members (grants_of H) n)) (oldest (members (grants_of H) n)) s e in
    (sym (ap (λ (r : Session). r.number) found.2), sym (ap (λ (r : Session). r.used) found.2))

report_row : (H : History) (t n bytes : ℕ) (g : Grant) → row_of_opening (entry t (Report n bytes) ∷ H) g
    ≡ used_if n (max bytes (used_of H n)) (row_of_opening H g)
report_row H t n bytes g =
    let with_used : ℕ → SessionRow = λ used. record (row_of_opening H g) { used = used } in
    cond-ap with_used (nat_eq n g.session) (max bytes (used_of H g.session)) (used_of H g.session)
    ∙ cond-same (nat_eq n g.session) (with_used (max bytes (used_of H g.session)))
    (with_used (max bytes (used_of H n))) (row_of_opening H g)
    (λ same. ap (λ (m : ℕ). with_used (max bytes (used_of H m))) (sym (nat_eq-same n g.session same)))

abbrev with_usage : History → ℕ → List SessionRow → List TotalRow → Rows
with_usage H t sessions totals =
    record (rows_of H) { head = with_last_moment t (head_of H); sessions = sessions; totals = totals }

report_leads : (H : History) (t n bytes : ℕ) (s : Session) → session_of H n ≡ Some s
    → rows_of (entry t (Report n bytes) ∷ H)
    ≡ rows_after_changes (ReportChange (record { at = t; session = s; bytes = bytes })) (rows_of H)
report_leads H t n bytes s found =
    let after : History = entry t (Report n bytes) ∷ H in
    let is = session_is H n s found in
    let number = sym is.0 in
    let used = sym is.1 in
    let rows : sessions_of after ≡ map (used_if s.number (max bytes s.used)) (sessions_of H) =
    map-changed (row_of_opening H) (row_of_opening after) (used_if n (max bytes (used_of H n)))
    (report_row H t n bytes) (openings (grants_of H))
    ∙ (λ i. map (used_if (number i) (max bytes (used i))) (sessions_of H)) in
    let totals : totals_of after ≡ map (totalled_if (with_report bytes s)) (totals_of H) =
    map-changed_all (total_of_opening H) (total_of_opening after) (totalled_if (with_report bytes s))
    (openings (grants_of H))
    (All-weaker (IsFirst (grants_of H))
    (λ g. total_of_opening after g ≡ totalled_if (with_report bytes s) (total_of_opening H g))
    (λ g first. total-changed H after (with_report bytes s) g first first (report_session H t n bytes s found
    g.session)) (openings (grants_of H)) (openings_first (grants_of H))) in
    λ i. with_usage H t (rows i) (totals i)

close_row : (H : History) (t n : ℕ) (g : Grant)
    → row_of_opening (entry t (Close n) ∷ H) g ≡ closed_if n t (row_of_opening H g)
close_row H t n g = cond-ap (λ o. record (row_of_opening H g) { closed = o }) (nat_eq n g.session)
    (Some t) (closed_of H g.session)

-- Redeem

abbrev rows_with : History → Head → List SessionRow → List GrantRow → List CountRow → List TotalRow → Rows
rows_with H head sessions grants counts totals =
    record (rows_of H) { head = head; sessions = sessions; grants = grants; counts = counts; totals = totals }

-- the count of the redeemed voucher is one more
redeem_count : (H : History) (t : ℕ) (d c : List ℕ) (k : Place)
    → count_of_place (entry t (Redeem d c) ∷ H) k ≡ counted_if c (uses_of H c + 1) (count_of_place H k)
redeem_count H t d c k =
    let with_uses : ℕ → CountRow = λ uses. record (count_of_place H k) { redeemed = uses } in
    cond-ap with_uses (bytes_eq c k.code) (uses_of H k.code + 1) (uses_of H k.code)
    ∙ cond-same (bytes_eq c k.code) (with_uses (uses_of H k.code + 1))
    (with_uses (uses_of H c + 1)) (count_of_place H k)
    (λ same. ap (λ (x : List ℕ). with_uses (uses_of H x + 1)) (sym (bytes_same c k.code same)))

-- the rows of the sessions, with one more grant
opening-after : (H : History) → IsLegal H
    → (d c : List ℕ) (i : IssuedVoucher) (t : ℕ) (v : Voucher) (running : Option Session)
    → kept_if (is_open_at t) (last_session_of H d) ≡ running → v.plan ≡ i.plan
    → map (row_of_opening H) (openings (granted (grants_of H) running d c i t ∷ grants_of H))
    ≡ sessions_of H ++ new_session running v (session_after (head_of H) v.plan running d t)
opening-after H legal d c i t v None is plan =
    let gs : List Grant = grants_of H in
    let g : Grant = granted gs None d c i t in
    let fresh : (used_of H (greatest_session gs + 1) ≡ 0) × (closed_of H (greatest_session gs + 1) ≡ None) =
    unreported H legal (greatest_session gs + 1) (omega arith) in
    let above : nat_lt (greatest_session gs) (greatest_session gs + 1) ≡ true = grind (arith, nat_tests) in
    ap (λ (b : Bool). map (row_of_opening H) (openings gs ++ cond b (g ∷ []) [])) above
    ∙ map-append (row_of_opening H) (openings gs) (g ∷ [])
    ∙ rw (fresh.0, fresh.1, plan)
opening-after H legal d c i t v (Some s) is plan =
    let gs : List Grant = grants_of H in
    let g : Grant = granted gs (Some s) d c i t in
    let last : session_of H (last_number gs d) ≡ Some s =
    kept-some (is_open_at t) (last_session_of H d) s is in
    let low : last_number gs d ≤ greatest_session gs = number-le gs H (last_number gs d) s last in
    let same : s.number ≡ last_number gs d = number-of H gs (last_number gs d) s last in
    let not_above : nat_lt (greatest_session gs) s.number ≡ false = grind (arith, nat_tests) in
    ap (λ (b : Bool). map (row_of_opening H) (openings gs ++ cond b (g ∷ []) [])) not_above
    ∙ map-append (row_of_opening H) (openings gs) []

grant-after : (H : History) (d c : List ℕ) (i : IssuedVoucher) (t : ℕ) (running : Option Session)
    → row_of_grant (length (grants_of H) + 1) (granted (grants_of H) running d c i t)
    ≡ new_grant (head_of H) (voucher_row H c i) (session_after (head_of H) i.plan running d t) t
grant-after H d c i t None = refl
grant-after H d c i t (Some s) = refl

-- the rows of totals, with one more grant
totals-redeemed : (H : History) → IsLegal H
    → (t : ℕ) (d c : List ℕ) (i : IssuedVoucher) (running : Option Session)
    → kept_if (is_open_at t) (last_session_of H d) ≡ running
    → grants_of (entry t (Redeem d c) ∷ H) ≡ granted (grants_of H) running d c i t ∷ grants_of H
    → ((n : ℕ) → session_of (entry t (Redeem d c) ∷ H) n
    ≡ cond (nat_eq (session_after (head_of H) i.plan running d t).number n)
    (Some (session_after (head_of H) i.plan running d t)) (session_of H n))
    → totals_of (entry t (Redeem d c) ∷ H)
    ≡ totals_after running (session_after (head_of H) i.plan running d t) (totals_of H)
totals-redeemed H legal t d c i None is one leaves =
    let gs : List Grant = grants_of H in
    let g : Grant = granted gs None d c i t in
    let after : History = entry t (Redeem d c) ∷ H in
    let s : Session = session_after (head_of H) i.plan None d t in
    let above : nat_lt (greatest_session gs) (greatest_session gs + 1) ≡ true = grind (arith, nat_tests) in
    let later : (x : Grant) → IsFirst gs x → IsFirst (grants_of after) x =
    λ x first. subst (λ (xs : List Grant). IsFirst xs x) (sym one) (still-first g gs x first) in
    let kept : (x : Grant) → IsFirst gs x → total_of_opening after x ≡ total_of_opening H x = λ x first.
    let known = session_at H x first in
    let low = number-le gs H x.session (session_opened H x) known in
    let other : nat_eq s.number x.session ≡ false = nat_eq-other s.number x.session (λ e. omega arith) in
    ap total_row (some-same (session_opened after x) (session_opened H x)
    (sym (session_at after x (later x first)) ∙ leaves x.session
    ∙ cond-false (nat_eq s.number x.session) (Some s) (session_of H x.session) other ∙ known)) in
    let fresh : total_of_opening after g ≡ total_row s =
    let first : IsFirst (grants_of after) g =
    subst (λ (xs : List Grant). IsFirst xs g) (sym one) (new-first g gs (omega arith)) in
    ap total_row (some-same (session_opened after g) s
    (sym (session_at after g first) ∙ leaves g.session
    ∙ cond-true (nat_eq s.number g.session) (Some s) (session_of H g.session) (nat_eq-refl g.session))) in
    ap (λ (xs : List Grant). map (total_of_opening after) (openings xs)) one
    ∙ ap (λ (b : Bool). map (total_of_opening after) (openings gs ++ cond b (g ∷ []) [])) above
    ∙ map-append (total_of_opening after) (openings gs) (g ∷ [])
    ∙ ap (λ (rows : List TotalRow). rows ++ total_of_opening after g ∷ [])
    (map-same (total_of_opening after) (total_of_opening H) (openings gs) (All-weaker (IsFirst gs)
    (λ x. total_of_opening after x ≡ total_of_opening H x) kept (openings gs) (openings_first gs)))
    ∙ ap (λ (row : TotalRow). totals_of H ++ row ∷ []) fresh
totals-redeemed H legal t d c i (Some r) is one leaves =
    let gs : List Grant = grants_of H in
    let g : Grant = granted gs (Some r) d c i t in
    let after : History = entry t (Redeem d c) ∷ H in
    let s : Session = session_after (head_of H) i.plan (Some r) d t in
    let last : session_of H (last_number gs d) ≡ Some r =
    kept-some (is_open_at t) (last_session_of H d) r is in
    let low : last_number gs d ≤ greatest_session gs = number-le gs H (last_number gs d) r last in
    let same : r.number ≡ last_number gs d = number-of H gs (last_number gs d) r last in
    let not_above : nat_lt (greatest_session gs) r.number ≡ false = grind (arith, nat_tests) in
    let changed : (x : Grant) → IsFirst gs x
    → total_of_opening after x ≡ totalled_if s (total_of_opening H x) = λ x first.
    total-changed H after s x first
    (subst (λ (xs : List Grant). IsFirst xs x) (sym one) (still-first g gs x first)) (leaves x.session) in
    ap (λ (xs : List Grant). map (total_of_opening after) (openings xs)) one
    ∙ ap (λ (b : Bool). map (total_of_opening after) (openings gs ++ cond b (g ∷ []) [])) not_above
    ∙ map-append (total_of_opening after) (openings gs) []
    ∙ append-nil (map (total_of_opening after) (openings gs))
    ∙ map-changed_all (total_of_opening H) (total_of_opening after) (totalled_if s) (openings gs)
    (All-weaker (IsFirst gs) (λ x. total_of_opening after x ≡ totalled_if s (total_of_opening H x)) changed
    (openings gs) (openings_first gs))

redeem_leads_rows : (H : History) → IsLegal H → (t : ℕ) (d c : List ℕ) (i : IssuedVoucher)
    → issued_of H c ≡ Some i
    → rows_of (entry t (Redeem d c) ∷ H) ≡ rows_after_changes (redemption (head_of H)
    (kept_if (is_open_at t) (last_session_of H d)) d t (voucher_row H c i)) (rows_of H)
redeem_leads_rows H legal t d c i is =
    let gs : List Grant = grants_of H in
    let after : History = entry t (Redeem d c) ∷ H in
    let running : Option Session = kept_if (is_open_at t) (last_session_of H d) in
    let v : Voucher = voucher_row H c i in
    let s : Session = session_after (head_of H) i.plan running d t in
    let one : grants_of after ≡ granted gs running d c i t ∷ gs =
    ap (λ o. unwrap_or (option_map (grant_at t d c gs running) o) gs) is in
    let leaves = redeem_leads H legal d c t v (ap (option_map (voucher_row H c)) is) in
    let counts : counts_of after ≡ map (counted_if c (uses_of H c + 1)) (counts_of H) =
    map-changed (count_of_place H) (count_of_place after) (counted_if c (uses_of H c + 1))
    (redeem_count H t d c) (places_of H) in
    let totals : totals_of after ≡ totals_after running s (totals_of H) =
    totals-redeemed H legal t d c i running refl one leaves.session in
    let sessions : map (row_of_opening H) (openings (grants_of after))
    ≡ sessions_of H ++ new_session running v s =
    ap (λ (x : List Grant). map (row_of_opening H) (openings x)) one
    ∙ opening-after H legal d c i t v running refl refl in
    let grants : grant_rows (grants_of after) ≡ grant_rows gs ++ new_grant (head_of H) v s t ∷ [] =
    ap grant_rows one ∙ ap (λ (row : GrantRow). grant_rows gs ++ row ∷ []) (grant-after H d c i t running) in
    λ i. rows_with H (leaves.head i) (sessions i) (grants i) (counts i) (totals i)

-- Every command

abbrev Leads : History → ℕ → Command → Changes → Type 0
Leads H t command ch = Follows H t command → rows_of (entry t command ∷ H) ≡ rows_after_changes ch (rows_of H)

each-leads : (H : History) → IsLegal H → (t : ℕ) → OfEach H t (Leads H t)
each-leads H legal t = record {
  load = λ plans follows. refl;
  issue = λ b p codes plan is follows. issue_leads H legal t b p codes plan is
      (issuable (plan_of H p) (batch_of H b) (any_held H codes) codes t follows.accepted).free;
  sell = λ c i is follows. ap (with_vouchers H t) (map-changed (row_of_place H)
      (row_of_place (entry t (Sell c) ∷ H)) (sold_if c t) (sell_row H t c) (places_of H));
  redeem = λ d c i is follows. redeem_leads_rows H legal t d c i is;
  report = λ n bytes s is follows. report_leads H t n bytes s is;
  refund = λ c i is follows.
      ap (with_vouchers H t) (map-changed (row_of_place H) (row_of_place (entry t (Refund c) ∷ H))
      (refunded_if c t (amount_left i.plan (uses_of H c))) (refund_row H t c i is) (places_of H));
  close = λ n s is follows.
      ap (with_sessions H t) (map-changed (row_of_opening H) (row_of_opening (entry t (Close n) ∷ H))
      (closed_if n t) (close_row H t n) (openings (grants_of H)))
      ∙ ap (λ (m : ℕ). with_sessions H t (map (closed_if m t) (sessions_of H))) (sym (session_is H n s is).0);
}

pub changes_give_rows : ChangesGiveRows
changes_give_rows H legal command t follows ch e =
    by_command H t (Leads H t) (each-leads H legal t) command ch e follows
