-- From what the readers find to the records of the history.
use Rattle.portal_tables.proofs.Common.{◌≡◌, inl, inr, ℕ, ◌+◌, ◌<◌, ◌≤◌, ◌^◌, Bool, true, false, cond, List}
use Rattle.portal_tables.proofs.Common.{[], ◌∷◌, map, All, Option, Some, None, option_map, refl, sym, ap}
use Rattle.portal_tables.proofs.Common.{subst, ◌∙◌, arith, bytes_eq, nat_eq, zero, suc, option_or, is_some}
use Rattle.portal_tables.proofs.Common.{range_with_len, recursion_from_All, Decides-eqb, bytes_eq-Decides}
use Rattle.portal_tables.proofs.Common.{Has, all_has, IsCode, text_of, IsDevice, text_of_device, Plan, Batch}
use Rattle.portal_tables.proofs.Common.{History, plan_of, batch_of, issued_of, voucher_of, session_of}
use Rattle.portal_tables.proofs.Common.{last_session_of, head_of, plan_among, VoucherRow, SessionRow}
use Rattle.portal_tables.proofs.Common.{CountRow, TotalRow, rows_of, plans_of, batches_of, vouchers_of}
use Rattle.portal_tables.proofs.Common.{sessions_of, counts_of, totals_of, places_of, row_of_place}
use Rattle.portal_tables.proofs.Common.{count_of_place, batch_among, row_among, count_among, session_among}
use Rattle.portal_tables.proofs.Common.{total_among, last_among, voucher_of_rows, session_of_rows}
use Rattle.portal_tables.proofs.Common.{voucher_from, session_from, last_session_from, allowance_from}
use Rattle.portal_tables.proofs.Common.{IsLegal, has_duplicate, session_is_row, last_session_is_row}
use Rattle.portal_tables.proofs.Common.{rows_are_numbered, keys_apart, rows_are_typed, FindsLast}
use Rattle.portal_tables.proofs.Common.{VoucherValue, SessionValue, HeadRow, voucher_count, session_total}
use Rattle.portal_tables.proofs.Common.{head_read, voucher_read, session_read, has_image}
use Rattle.portal_tables.proofs.Common.{has_mapped, head_kept, voucher_kept, session_kept, count_kept}
use Rattle.portal_tables.proofs.Common.{IsRowOf, this_schema_version, same_code}
use Rattle.std.proofs.Math.Bool.{or-false}
use Rattle.portal_model_laws.proofs.Basics.{map-map}
use Rattle.portal_model_laws.proofs.Keys.{batch_is_row}
use Rattle.portal_model_laws.proofs.Plans.{plan_is_row}
use Rattle.portal_model_laws.proofs.Vouchers.{voucher_is_row, issued_codes_are_rows}
use Rattle.portal_model_laws.proofs.Within.{rows_are_within_limits}
use Rattle.portal_tables_sql.specs.Finds.{Finds}
use Rattle.portal_tables_rows.specs.declared.rows.HeadValue.{HeadValue}
use Rattle.portal_tables.proofs.Spelled.{same_device}
use Rattle.portal_tables.proofs.Lookups.{IsApart, finds_it, finds_none_of, apart_by_text, apart_by_number}
use Rattle.portal_tables.proofs.Lookups.{from_on}

same_bytes : (a b : List ℕ) → (bytes_eq a b ≡ true → a ≡ b) × (a ≡ b → bytes_eq a b ≡ true)
same_bytes a b = bytes_eq-Decides a b

same_numbers : (a b : ℕ) → (nat_eq a b ≡ true → a ≡ b) × (a ≡ b → nat_eq a b ≡ true)
same_numbers a b = Decides-eqb a b

pub one : {X : Type 0} (P : X → Type 0) (xs : List X) (x : X) → All P xs → Has xs x → P x
one P xs x all has = all_has P xs x (recursion_from_All P xs all) has

-- ---- the head

pub head_found : (h : History) (found : Option HeadValue) → Finds (λ (x : HeadRow). x.id)
    1 (head_kept this_schema_version (head_of h) ∷ []) (option_map head_read found)
    → (k : HeadValue) → found ≡ Some k
    → record { last = k.last; grants = k.grants; sessions = k.sessions } ≡ head_of h
head_found h None f k is = absurd (cc)
head_found h (Some x) (inl same, key) k is =
    let e : x ≡ k = cc in
    subst (λ (y : HeadValue). record { last = y.last; grants = y.grants; sessions = y.sessions } ≡ head_of h)
    e (ap (λ (r : HeadRow). record { last = r.last; grants = r.grants; sessions = r.sessions }) same)
head_found h (Some x) (inr none, key) k is = absurd none

-- ---- plans and batches

pub plan_found : (h : History) → IsLegal h → (id : List ℕ) (found : Option Plan)
    → Finds (λ (x : Plan). x.id) id (plans_of h) found → found ≡ plan_of h id
plan_found h legal id None none =
    sym (plan_is_row h id ∙ finds_none_of (λ (x : Plan). x.id) bytes_eq same_bytes id (plans_of h) none)
plan_found h legal id (Some p) it = sym (plan_is_row h id ∙ finds_it (λ (x : Plan). x.id) bytes_eq same_bytes
    id (plans_of h) (apart_by_text (λ (x : Plan). x.id) (plans_of h) (keys_apart h legal).plans) p it.0 it.1)

pub batch_found : (h : History) → IsLegal h → (id : List ℕ) (found : Option Batch)
    → Finds (λ (x : Batch). x.id) id (batches_of h) found → found ≡ batch_of h id
batch_found h legal id None none = sym
    (batch_is_row h legal id ∙ finds_none_of (λ (x : Batch). x.id) bytes_eq same_bytes id (batches_of h) none)
batch_found h legal id (Some b) it =
    sym (batch_is_row h legal id ∙ finds_it (λ (x : Batch). x.id) bytes_eq same_bytes id (batches_of h)
    (apart_by_text (λ (x : Batch). x.id) (batches_of h) (keys_apart h legal).batches) b it.0 it.1)

-- ---- vouchers

module _ (h : History) (legal : IsLegal h) (code : List ℕ) (is : IsCode code) where
  the_rows : (x : VoucherRow) → Has (vouchers_of h) x → text_of x.code ≡ text_of code → x.code ≡ code
  the_rows x has same = same_code x.code code (one (λ (v : VoucherRow). IsCode v.code) (vouchers_of h) x
      (rows_are_typed h legal).vouchers has) is same

  the_counts : (x : CountRow) → Has (counts_of h) x → text_of x.code ≡ text_of code → x.code ≡ code
  the_counts x has same = same_code x.code code
      (one (λ (k : CountRow). IsCode k.code) (counts_of h) x (rows_are_typed h legal).counts has) is same

  counts_apart : has_duplicate (map (λ (k : CountRow). k.code) (counts_of h)) ≡ false
  counts_apart =
      ap has_duplicate (map-map (count_of_place h) (λ (k : CountRow). k.code) (places_of h)
      ∙ sym (map-map (row_of_place h) (λ (v : VoucherRow). v.code) (places_of h)))
      ∙ (keys_apart h legal).codes

  pub voucher_missing : Finds (λ (x : VoucherRow). x.code) (text_of code) (map voucher_kept (vouchers_of h))
      None → voucher_of h code ≡ None
  voucher_missing none =
      let gone : row_among (vouchers_of h) code ≡ None =
      finds_none_of (λ (v : VoucherRow). v.code) bytes_eq same_bytes code (vouchers_of h) (λ x has same.
      none (voucher_kept x) (has_mapped voucher_kept (vouchers_of h) x has) (ap text_of same)) in
      voucher_is_row h legal code ∙ rw gone refl

  row_found : (row : VoucherValue) → Finds (λ (x : VoucherRow). x.code) (text_of code)
      (map voucher_kept (vouchers_of h)) (Some (voucher_read row))
      → (x : VoucherRow) × (row_among (vouchers_of h) code ≡ Some x)
      × (voucher_read row ≡ voucher_kept x) × (x.code ≡ code)
  row_found row f =
      let it = has_image voucher_kept (vouchers_of h) (voucher_read row) f.0 in
      let named = the_rows it.0 it.1 (ap (λ (v : VoucherRow). v.code) (sym it.2) ∙ f.1) in (
        it.0,
        finds_it (λ (v : VoucherRow). v.code) bytes_eq same_bytes code (vouchers_of h)
            (apart_by_text (λ (v : VoucherRow). v.code) (vouchers_of h) (keys_apart h legal).codes) it.0 it.1
            named,
        it.2,
        named,
      )

  count_found : (count : CountRow) → Finds (λ (x : CountRow). x.code)
      (text_of code) (map count_kept (counts_of h)) (Some count)
      → (x : CountRow) × (count_among (counts_of h) code ≡ Some x) × (count.redeemed ≡ x.redeemed)
  count_found count f =
      let it = has_image count_kept (counts_of h) count f.0 in
      let named = the_counts it.0 it.1 (ap (λ (k : CountRow). k.code) (sym it.2) ∙ f.1) in (
        it.0,
        finds_it (λ (k : CountRow). k.code) bytes_eq same_bytes code (counts_of h)
            (apart_by_text (λ (k : CountRow). k.code) (counts_of h) counts_apart) it.0 it.1 named,
        ap (λ (k : CountRow). k.redeemed) it.2,
      )

  held_by_row : is_some (issued_of h code) ≡ is_some (row_among (vouchers_of h) code)
  held_by_row = sym (or-false (is_some (issued_of h code))) ∙ issued_codes_are_rows h legal (code ∷ [])
      ∙ or-false (is_some (row_among (vouchers_of h) code))

  pub held_is : (found : Option VoucherValue) → Finds (λ (x : VoucherRow). x.code)
      (text_of code) (map voucher_kept (vouchers_of h)) (option_map voucher_read found)
      → is_some found ≡ is_some (issued_of h code)
  held_is None none =
      let gone : row_among (vouchers_of h) code ≡ None =
      finds_none_of (λ (v : VoucherRow). v.code) bytes_eq same_bytes code (vouchers_of h) (λ x has same.
      none (voucher_kept x) (has_mapped voucher_kept (vouchers_of h) x has) (ap text_of same)) in
      sym (held_by_row ∙ ap (λ (o : Option VoucherRow). is_some o) gone)
  held_is (Some row) f = let it = row_found row f in
      sym (held_by_row ∙ ap (λ (o : Option VoucherRow). is_some o) it.1)

  pub voucher_joined : (row : VoucherValue) (batch : Batch) (plan : Plan)
      → Finds (λ (x : VoucherRow). x.code) (text_of code) (map voucher_kept (vouchers_of h))
      (Some (voucher_read row))
      → Has (map count_kept (counts_of h)) (voucher_count row) → batch_of h row.batch ≡ Some batch → plan_of h
      batch.plan ≡ Some plan
      → Some (record {
        code = code;
        batch = row.batch;
        plan = plan;
        expires = batch.expires;
        sold = row.sold;
        refund = row.amount;
        redeemed = row.redeemed;
      }) ≡ voucher_of h code
  voucher_joined row batch plan f k b p =
      let r = row_found row f in
      let n = count_found (voucher_count row) (k, f.1) in
      let batch_is : row.batch ≡ r.0.batch = ap (λ (v : VoucherRow). v.batch) r.2 in
      let sold_is : row.sold ≡ r.0.sold = ap (λ (v : VoucherRow). v.sold) r.2 in
      let amount_is : row.amount ≡ r.0.amount = ap (λ (v : VoucherRow). v.amount) r.2 in
      let b2 : batch_among (batches_of h) r.0.batch ≡ Some batch =
      sym (batch_is_row h legal r.0.batch) ∙ ap (batch_of h) (sym batch_is) ∙ b in
      let p2 : plan_among (plans_of h) batch.plan ≡ Some plan = sym (plan_is_row h batch.plan) ∙ p in
      let all : voucher_from (rows_of h) code ≡ Some (voucher_of_rows r.0 n.0 batch plan) =
      rw (r.1, n.1, b2, p2) refl in
      let same : voucher_of_rows r.0 n.0 batch plan ≡ record {
        code = code;
        batch = row.batch;
        plan = plan;
        expires = batch.expires;
        sold = row.sold;
        refund = row.amount;
        redeemed = row.redeemed;
      } =
      λ i. record {
        code = r.3 i;
        batch = sym batch_is i;
        plan = plan;
        expires = batch.expires;
        sold = sym sold_is i;
        refund = sym amount_is i;
        redeemed = sym n.2 i;
      } in
      sym (voucher_is_row h legal code ∙ all ∙ ap Some same)

-- ---- sessions

module _ (h : History) (legal : IsLegal h) where
  sessions_apart : IsApart (λ (s : SessionRow). s.number) (sessions_of h)
  sessions_apart = apart_by_number (λ (s : SessionRow). s.number) 1 (head_of h).sessions (sessions_of h)
      (rows_are_numbered h legal).sessions

  totals_apart : IsApart (λ (m : TotalRow). m.number) (totals_of h)
  totals_apart = apart_by_number (λ (m : TotalRow). m.number) 1 (head_of h).sessions (totals_of h)
      (rows_are_numbered h legal).totals

  pub session_missing : (n : ℕ)
      → Finds (λ (x : SessionRow). x.number) n (map session_kept (sessions_of h)) None → session_of h n ≡ None
  session_missing n none =
      let gone : session_among (sessions_of h) n ≡ None =
      finds_none_of (λ (s : SessionRow). s.number) nat_eq same_numbers n (sessions_of h)
      (λ x has same. none (session_kept x) (has_mapped session_kept (sessions_of h) x has) same) in
      session_is_row h legal n ∙ rw gone refl

  -- no session has so great a number
  pub session_past : (n : ℕ) → 2 ^ 63 ≤ n → session_of h n ≡ None
  session_past n past =
      let within = (rows_are_within_limits h legal).head in
      let gone : session_among (sessions_of h) n ≡ None =
      finds_none_of (λ (s : SessionRow). s.number) nat_eq same_numbers n (sessions_of h) (λ x has same.
      let r = from_on (λ (s : SessionRow). s.number) 1 (head_of h).sessions (sessions_of h)
      (rows_are_numbered h legal).sessions x has in
      let fewer = within.sessions in
      let most = within.grants in
      absurd (omega (arith, r.1, same, past, fewer, most))) in
      session_is_row h legal n ∙ rw gone refl

  pub row_of_number : (n : ℕ) (row : SessionValue)
      → Finds (λ (x : SessionRow). x.number) n (map session_kept (sessions_of h)) (Some (session_read row))
      → Has (totals_of h) (session_total row) → IsRowOf h row × (row.number ≡ n)
  row_of_number n row f total = let it = has_image session_kept (sessions_of h) (session_read row) f.0 in
      (record { of_history = it.0; among = it.1; is = it.2; totaled = total }, f.1)

  pub session_joined : (row : SessionValue) (plan : Plan) (allowance : Option ℕ)
      → IsDevice row.device → IsRowOf h row
      → plan_of h row.plan ≡ Some plan → allowance ≡ allowance_from row.remaining row.used
      → Some (record {
        number = row.number;
        device = row.device;
        plan = row.plan;
        extend = plan.extend;
        opened = row.opened;
        ends = row.ends;
        allowance = allowance;
        used = row.used;
        closed = row.closed;
      }) ≡ session_of h row.number
  session_joined row plan allowance device it p granted =
      let x = it.of_history in
      let number_is : row.number ≡ x.number = ap (λ (s : SessionRow). s.number) it.is in
      let plan_is : row.plan ≡ x.plan = ap (λ (s : SessionRow). s.plan) it.is in
      let opened_is : row.opened ≡ x.opened = ap (λ (s : SessionRow). s.opened) it.is in
      let used_is : row.used ≡ x.used = ap (λ (s : SessionRow). s.used) it.is in
      let closed_is : row.closed ≡ x.closed = ap (λ (s : SessionRow). s.closed) it.is in
      let device_is : row.device ≡ x.device =
      same_device row.device x.device device (one (λ (s : SessionRow). IsDevice s.device) (sessions_of h) x
      (rows_are_typed h legal).sessions it.among) (ap (λ (s : SessionRow). s.device) it.is) in
      let a : session_among (sessions_of h) row.number ≡ Some x = finds_it (λ (s : SessionRow). s.number)
      nat_eq same_numbers row.number (sessions_of h) sessions_apart x it.among (sym number_is) in
      let b : total_among (totals_of h) row.number ≡ Some (session_total row) =
      finds_it (λ (m : TotalRow). m.number) nat_eq same_numbers row.number (totals_of h) totals_apart
      (session_total row) it.totaled refl in
      let c : plan_among (plans_of h) x.plan ≡ Some plan =
      sym (plan_is_row h x.plan) ∙ ap (plan_of h) (sym plan_is) ∙ p in
      let all : session_from (rows_of h) row.number ≡ Some (session_of_rows x (session_total row) plan) =
      rw (a, b, c) refl in
      let same : session_of_rows x (session_total row) plan ≡ record {
        number = row.number;
        device = row.device;
        plan = row.plan;
        extend = plan.extend;
        opened = row.opened;
        ends = row.ends;
        allowance = allowance;
        used = row.used;
        closed = row.closed;
      } =
      λ i. record {
        number = sym number_is i;
        device = sym device_is i;
        plan = sym plan_is i;
        extend = plan.extend;
        opened = sym opened_is i;
        ends = row.ends;
        allowance = (ap (allowance_from row.remaining) (sym used_is) ∙ sym granted) i;
        used = sym used_is i;
        closed = sym closed_is i;
      } in
      sym (session_is_row h legal row.number ∙ all ∙ ap Some same)

  -- ---- the last session of a device

  some_last : (d : List ℕ) (ss : List SessionRow) (z : SessionRow) → last_among ss d ≡ Some z
      → Has ss z × (z.device ≡ d)
  some_last d [] z is = absurd (cc)
  some_last d (y ∷ ss) z is = go (some_last d ss) (last_among ss d) refl is
    where
      here : (b : Bool) → bytes_eq y.device d ≡ b → cond b (Some y) None ≡ Some z
          → Has (y ∷ ss) z × (z.device ≡ d)
      here true on e = let same : y ≡ z = cc in
          (inl (sym same), ap (λ (s : SessionRow). s.device) (sym same) ∙ (same_bytes y.device d).0 on)
      here false on e = absurd (cc)

      go : ((z : SessionRow) → last_among ss d ≡ Some z → Has ss z × (z.device ≡ d)) → (o : Option SessionRow)
          → last_among ss d ≡ o → option_or o (cond (bytes_eq y.device d) (Some y) None) ≡ Some z
          → Has (y ∷ ss) z × (z.device ≡ d)
      go later (Some x) got e = let same : x ≡ z = cc in
          let it = later z (got ∙ ap Some same) in
          (inr it.0, it.1)
      go later None got e = here (bytes_eq y.device d) refl e

  no_last : (d : List ℕ) (ss : List SessionRow) → last_among ss d ≡ None → (q : SessionRow)
      → Has ss q → q.device ≡ d → ⊥
  no_last d [] is q has same = has
  no_last d (y ∷ ss) is q has same = go (no_last d ss) (last_among ss d) refl is
    where
      here : (b : Bool) → bytes_eq y.device d ≡ b → cond b (Some y) None ≡ None → y.device ≡ d → ⊥
      here true on e at = cc
      here false on e at = let clash : true ≡ false = sym ((same_bytes y.device d).1 at) ∙ on in cc

      go : (last_among ss d ≡ None → (q : SessionRow) → Has ss q → q.device ≡ d → ⊥) → (o : Option SessionRow)
          → last_among ss d ≡ o → option_or o (cond (bytes_eq y.device d) (Some y) None) ≡ None → ⊥
      go later (Some x) got e = cc
      go later None got e = elim has [
        | inl at ↦ here (bytes_eq y.device d) refl e (ap (λ (s : SessionRow). s.device) (sym at) ∙ same)
        | inr more ↦ later got q more same
      ]

  none_last : (d : List ℕ) (ss : List SessionRow) → ((q : SessionRow) → Has ss q → q.device ≡ d → ⊥)
      → last_among ss d ≡ None
  none_last d ss none = go (last_among ss d) refl
    where
      go : (o : Option SessionRow) → last_among ss d ≡ o → last_among ss d ≡ None
      go None is = is
      go (Some z) is = let it = some_last d ss z is in absurd (none z it.0 it.1)

  last_is : (d : List ℕ) (x : SessionRow) (from count : ℕ) (ss : List SessionRow)
      → map (λ (s : SessionRow). s.number) ss ≡ range_with_len from count → Has ss x → x.device ≡ d
      → ((q : SessionRow) → Has ss q → q.device ≡ d → q.number ≤ x.number) → last_among ss d ≡ Some x
  last_is d x from count [] is has same most = absurd has
  last_is d x from zero (y ∷ ss) is has same most = absurd (cc)
  last_is d x from (suc count) (y ∷ ss) is has same most =
      let first : y.number ≡ from = cc in
      let rest : map (λ (s : SessionRow). s.number) ss ≡ range_with_len (from + 1) count = cc in
      go first (from_on (λ (s : SessionRow). s.number) (from + 1) count ss rest)
      (λ more. last_is d x (from + 1) count ss rest more same (λ q hq. most q (inr hq))) (last_among ss d)
      refl
    where
      go : y.number ≡ from
          → ((z : SessionRow) → Has ss z → (from + 1 ≤ z.number) × (z.number < from + 1 + count))
          → (Has ss x → last_among ss d ≡ Some x) → (o : Option SessionRow) → last_among ss d ≡ o
          → last_among (y ∷ ss) d ≡ Some x
      go first above later None got = elim has [
        | inl at ↦ rw (got, (same_bytes y.device d).1 (ap (λ (s : SessionRow). s.device) (sym at) ∙ same))
            (ap Some (sym at))
        | inr more ↦ absurd (no_last d ss got x more same)
      ]
      go first above later (Some z) got = elim has [
        | inl at ↦
            let it = some_last d ss z got in
            let low = (above z it.0).0 in
            let high = most z (inr it.0) it.1 in
            let here : x.number ≡ from = ap (λ (s : SessionRow). s.number) at ∙ first in
            absurd (omega (arith, low, high, here))
        | inr more ↦ rw (later more) refl
      ]

  pub last_missing : (d : List ℕ) → IsDevice d → FindsLast (λ (x : SessionRow). x.device) (text_of_device d)
      (λ (x : SessionRow). x.number) (map session_kept (sessions_of h)) None → last_session_of h d ≡ None
  last_missing d device none =
      let gone : last_among (sessions_of h) d ≡ None = none_last d (sessions_of h) (λ q has same.
      none (session_kept q) (has_mapped session_kept (sessions_of h) q has) (ap text_of_device same)) in
      last_session_is_row h legal d ∙ rw gone refl

  pub last_found : (d : List ℕ) → IsDevice d → (row : SessionValue)
      → FindsLast (λ (x : SessionRow). x.device) (text_of_device d) (λ (x : SessionRow). x.number)
      (map session_kept (sessions_of h)) (Some (session_read row)) → Has (totals_of h) (session_total row)
      → IsRowOf h row × (last_session_of h d ≡ session_of h row.number)
  last_found d device row f totaled =
      let it = has_image session_kept (sessions_of h) (session_read row) f.0 in
      let x = it.0 in
      let number_is : row.number ≡ x.number = ap (λ (s : SessionRow). s.number) it.2 in
      let named : x.device ≡ d =
      same_device x.device d
      (one (λ (s : SessionRow). IsDevice s.device) (sessions_of h) x (rows_are_typed h legal).sessions it.1)
      device (ap (λ (s : SessionRow). s.device) (sym it.2) ∙ f.1) in
      let most : (q : SessionRow) → Has (sessions_of h) q → q.device ≡ d → q.number ≤ x.number = λ q has same.
      let le =
      f.2 (session_kept q) (has_mapped session_kept (sessions_of h) q has) (ap text_of_device same) in
      omega (arith, le, number_is) in
      let last : last_among (sessions_of h) d ≡ Some x = last_is d x 1 (head_of h).sessions (sessions_of h)
      (rows_are_numbered h legal).sessions it.1 named most in
      let all : last_session_from (rows_of h) d ≡ session_from (rows_of h) x.number = rw last refl in (
        record { of_history = x; among = it.1; is = it.2; totaled = totaled },
        last_session_is_row h legal d ∙ all ∙ sym (session_is_row h legal x.number)
            ∙ ap (session_of h) (sym number_is),
      )
