-- The session of a number is the join of its rows, and the counters are the sums of the other rows.
use Rattle.portal_model_laws.proofs.Common.{◌≡◌, ℕ, ◌+◌, Bool, true, false, cond, List, [], ◌∷◌, map, length}
use Rattle.portal_model_laws.proofs.Common.{Option, Some, None, pos, ◌+ℤ◌, ◌-ℤ◌, refl, arith, subst, ap, sym}
use Rattle.portal_model_laws.proofs.Common.{◌∙◌, bytes_eq, nat_eq, nat_abs, option_map, option_and_then, find}
use Rattle.portal_model_laws.proofs.Common.{filter, sum_by, All, option_or, ints, All-nil, All-cons}
use Rattle.portal_model_laws.proofs.Common.{All-weaker, filter-append, sum_by-append, sum_by-cons, Load}
use Rattle.portal_model_laws.proofs.Common.{Redeem, Plan, Session, entry, History, Place, IssuedVoucher}
use Rattle.portal_model_laws.proofs.Common.{Grant, issued_of, plan_of, batch_of, grants_of, members, oldest}
use Rattle.portal_model_laws.proofs.Common.{last_number, session_of, session_row, plan_among, SessionRow}
use Rattle.portal_model_laws.proofs.Common.{TotalRow, GrantRow, Rows, rows_of, plans_of, places_of}
use Rattle.portal_model_laws.proofs.Common.{row_of_place, count_of_place, count_from, openings}
use Rattle.portal_model_laws.proofs.Common.{row_of_opening, session_opened, total_of_opening, total_from}
use Rattle.portal_model_laws.proofs.Common.{totals_of, remaining_of, sessions_of, row_of_grant, grant_rows}
use Rattle.portal_model_laws.proofs.Common.{session_among, total_among, allowance_from, session_of_rows}
use Rattle.portal_model_laws.proofs.Common.{session_from, last_among, IsLegal}
use Rattle.portal_model_laws.specs.Laws.{SessionIsRow, LastSessionIsRow, CountsAreSums, TotalsAreSums}
use Rattle.portal_model_laws.proofs.Basics.{find-map, found-passes, nat_eq-same, or-some, map-alike, map-map}
use Rattle.portal_model_laws.proofs.Basics.{map-same}
use Rattle.portal_model_laws.proofs.Plans.{plan_is_row, plan-id}
use Rattle.portal_model_laws.proofs.Issuing.{Agrees, place_among, issued_is_placed}
use Rattle.portal_model_laws.proofs.Counts.{uses_are_rows}
use Rattle.portal_model_laws.proofs.Opens.{adds}
use Rattle.portal_model_laws.proofs.Placing.{All-oldest}
use Rattle.portal_model_laws.proofs.Placed.{are_placed, All-openings, find-openings, no-zero, last_opening}
use Rattle.portal_model_laws.proofs.Placed.{number_in, last_opening-number}

-- The plan of a redemption is loaded

abbrev pub Knows : (List ℕ → Option Plan) → Grant → Type 0
Knows plans g = plans g.plan.id ≡ Some g.plan

agreed-plan : (H : History) (i : IssuedVoucher) (o : Option IssuedVoucher) (q : Option Place) → o ≡ Some i
    → Agrees (batch_of H) (plan_of H) o q → plan_of H i.plan.id ≡ Some i.plan
agreed-plan H i None q e h = cc
agreed-plan H i (Some j) None e h = absurd h
agreed-plan H i (Some j) (Some k) e h =
    let same : j ≡ i = cc in
    subst (λ (x : IssuedVoucher). plan_of H x.plan.id ≡ Some x.plan) same
    (ap (plan_of H) (plan-id H h.batch.plan j.plan h.plan) ∙ h.plan)

pub issued-plan : (H : History) → IsLegal H → (code : List ℕ) (i : IssuedVoucher) → issued_of H code ≡ Some i
    → plan_of H i.plan.id ≡ Some i.plan
issued-plan H legal code i e =
    agreed-plan H i (issued_of H code) (place_among (places_of H) code) e (issued_is_placed H legal code)

pub grants-plans : (H : History) → IsLegal H → All (Knows (plan_of H)) (grants_of H)
grants-plans [] legal = All-nil (Knows (plan_of []))
grants-plans (entry t (Load plans) ∷ H) legal =
    All-weaker (Knows (plan_of H)) (Knows (plan_of (entry t (Load plans) ∷ H)))
    (λ g e. or-some (plan_of H g.plan.id) (find (λ p. bytes_eq p.id g.plan.id) plans) g.plan e) (grants_of H)
    (grants-plans H legal.1)
grants-plans (entry t (Redeem d c) ∷ H) legal =
    let new = adds H t d c legal in
    subst (All (Knows (plan_of H))) (sym new.grants)
    (All-cons (Knows (plan_of H)) _ (grants_of H) (issued-plan H legal.1 c new.issued new.found)
    (grants-plans H legal.1))
grants-plans (_ ∷ H) legal = grants-plans H legal.1

-- The session of a number

again : (a used : ℕ) → nat_abs ((pos a -ℤ pos used) +ℤ pos used) ≡ a
again a used = let e : (pos a -ℤ pos used) +ℤ pos used ≡ pos a = omega (arith, ints) in ap nat_abs e

allowance-again : (allowance : Option ℕ) (used : ℕ)
    → allowance_from (remaining_of used allowance) used ≡ allowance
allowance-again None used = refl
allowance-again (Some a) used = ap Some (again a used)

abbrev join_of : Rows → Option SessionRow → Option TotalRow → Option Session
join_of r row total = option_and_then
    (λ s. option_and_then (λ k. option_map (session_of_rows s k) (plan_among r.plans s.plan)) total) row

join_at : (H : History) (n : ℕ) (g : Grant) → g.session ≡ n → Knows (plan_of H) g
    → join_of (rows_of H) (Some (row_of_opening H g)) (Some (total_of_opening H g))
    ≡ Some (session_row H n (members (grants_of H) n) g)
join_at H n g is knows =
    let plan : plan_among (plans_of H) g.plan.id ≡ Some g.plan = sym (plan_is_row H g.plan.id) ∙ knows in
    let s : Session = session_opened H g in
    ap (option_map (session_of_rows (row_of_opening H g) (total_of_opening H g))) plan
    ∙ ap (λ (a : Option ℕ). Some (record s { allowance = a })) (allowance-again s.allowance s.used)
    ∙ ap (λ (m : ℕ). Some (session_row H m (members (grants_of H) m) g)) is

pub session_among-openings : (H : History) → IsLegal H → (n : ℕ)
    → session_among (sessions_of H) n ≡ option_map (row_of_opening H) (oldest (members (grants_of H) n))
session_among-openings H legal n =
    find-map (row_of_opening H) (λ s. nat_eq s.number n) (openings (grants_of H))
    ∙ ap (option_map (row_of_opening H)) (find-openings (grants_of H) (are_placed H legal) n)

total_among-openings : (H : History) → IsLegal H → (n : ℕ)
    → total_among (totals_of H) n ≡ option_map (total_of_opening H) (oldest (members (grants_of H) n))
total_among-openings H legal n =
    find-map (total_of_opening H) (λ s. nat_eq s.number n) (openings (grants_of H))
    ∙ ap (option_map (total_of_opening H)) (find-openings (grants_of H) (are_placed H legal) n)

session_cases : (H : History) → IsLegal H → (n : ℕ) (o : Option Grant) → oldest (members (grants_of H) n) ≡ o
    → option_map (session_row H n (members (grants_of H) n)) o
    ≡ join_of (rows_of H) (option_map (row_of_opening H) o) (option_map (total_of_opening H) o)
session_cases H legal n None is = refl
session_cases H legal n (Some g) is =
    let found : find (λ x. nat_eq x.session n) (openings (grants_of H)) ≡ Some g =
    find-openings (grants_of H) (are_placed H legal) n ∙ is in
    let named : g.session ≡ n = nat_eq-same g.session n
    (found-passes (λ (x : Grant). nat_eq x.session n) (openings (grants_of H)) g found) in
    sym (join_at H n g named (All-oldest (Knows (plan_of H)) (grants_of H) n g (grants-plans H legal) is))

pub session_is_row : SessionIsRow
session_is_row H legal n =
    session_cases H legal n (oldest (members (grants_of H) n)) refl
    ∙ sym (λ i. join_of (rows_of H) (session_among-openings H legal n i) (total_among-openings H legal n i))

-- The last session of a device

last_among-map : (H : History) (xs : List Grant) (d : List ℕ)
    → last_among (map (row_of_opening H) xs) d ≡ option_map (row_of_opening H) (last_opening xs d)
last_among-map H [] d = refl
last_among-map H (g ∷ xs) d =
    ap (λ o. option_or o (cond (bytes_eq g.device d) (Some (row_of_opening H g)) None))
    (last_among-map H xs d) ∙ go (last_opening xs d) (bytes_eq g.device d)
  where
    go : (o : Option Grant) (b : Bool)
        → option_or (option_map (row_of_opening H) o) (cond b (Some (row_of_opening H g)) None)
        ≡ option_map (row_of_opening H) (option_or o (cond b (Some g) None))
    go None true = refl
    go None false = refl
    go (Some x) b = refl

last_cases : (H : History) → IsLegal H → (n : ℕ) (o : Option Grant) → number_in o ≡ n → session_of H n
    ≡ option_and_then (λ row. session_from (rows_of H) row.number) (option_map (row_of_opening H) o)
last_cases H legal n None is =
    ap (session_of H) (sym is)
    ∙ ap (λ ms. option_map (session_row H 0 ms) (oldest ms)) (no-zero (grants_of H) (are_placed H legal))
last_cases H legal n (Some g) is = ap (session_of H) (sym is) ∙ session_is_row H legal g.session

pub last_session_is_row : LastSessionIsRow
last_session_is_row H legal d =
    last_cases H legal (last_number (grants_of H) d) (last_opening (openings (grants_of H)) d)
    (last_opening-number (grants_of H) (are_placed H legal) d)
    ∙ ap (option_and_then (λ row. session_from (rows_of H) row.number))
    (sym (last_among-map H (openings (grants_of H)) d))

-- The counters are sums

pub counts_are_sums : CountsAreSums
counts_are_sums H legal =
    map-alike (count_of_place H) (λ k. count_from (grant_rows (grants_of H)) (row_of_place H k))
    (λ k. ap (λ (n : ℕ). record (count_of_place H k) { redeemed = n }) (uses_are_rows H legal k.code))
    (places_of H)
    ∙ sym (map-map (row_of_place H) (count_from (grant_rows (grants_of H))) (places_of H))

-- a sum over the rows of a session's grants, oldest first, is that over the grants
sum-rows : (f : GrantRow → ℕ) (h : Grant → ℕ) → ((k : ℕ) (g : Grant) → f (row_of_grant k g) ≡ h g)
    → (n : ℕ) (gs : List Grant)
    → sum_by f (filter (λ r. nat_eq r.session n) (grant_rows gs)) ≡ sum_by h (members gs n)
sum-rows f h same n [] = refl
sum-rows f h same n (g ∷ gs) =
    ap (sum_by f)
    (filter-append (λ r. nat_eq r.session n) (grant_rows gs) (row_of_grant (length gs + 1) g ∷ []))
    ∙ sum_by-append f (filter (λ r. nat_eq r.session n) (grant_rows gs)) _
    ∙ ap (λ (k : ℕ). k + sum_by f (filter (λ r. nat_eq r.session n) (row_of_grant (length gs + 1) g ∷ [])))
    (sum-rows f h same n gs)
    ∙ go (nat_eq g.session n)
  where
    go : (b : Bool) → sum_by h (members gs n) + sum_by f (cond b (row_of_grant (length gs + 1) g ∷ []) [])
        ≡ sum_by h (cond b (g ∷ members gs n) (members gs n))
    go true = let e = same (length gs + 1) g in omega (arith, e, sum_by-cons h g (members gs n))
    go false = omega arith

total-sums : (H : History) (g : Grant) → Knows (plan_of H) g
    → total_of_opening H g ≡ total_from (rows_of H) (row_of_opening H g)
total-sums H g knows =
    let plan : plan_among (plans_of H) g.plan.id ≡ Some g.plan = sym (plan_is_row H g.plan.id) ∙ knows in
    let seconds = sum-rows (λ r. r.seconds) (λ x. x.plan.seconds) (λ k x. refl) g.session (grants_of H) in
    let bytes = sum-rows (λ r. r.bytes) (λ x. x.plan.bytes) (λ k x. refl) g.session (grants_of H) in
    rw (plan, seconds, bytes)

pub totals_are_sums : TotalsAreSums
totals_are_sums H legal =
    map-same (total_of_opening H) (λ g. total_from (rows_of H) (row_of_opening H g)) (openings (grants_of H))
    (All-weaker (Knows (plan_of H)) (λ g. total_of_opening H g ≡ total_from (rows_of H) (row_of_opening H g))
    (λ g knows. total-sums H g knows) (openings (grants_of H))
    (All-openings (Knows (plan_of H)) (grants_of H) (grants-plans H legal)))
    ∙ sym (map-map (row_of_opening H) (total_from (rows_of H)) (openings (grants_of H)))
