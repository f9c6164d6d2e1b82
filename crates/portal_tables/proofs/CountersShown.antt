-- The counters of a history, as the tables store them, are the sums over the rows as the tables store them.
use Rattle.portal_tables.proofs.Common.{◌≡◌, inl, ℕ, ◌+◌, cond, List, [], ◌∷◌, map, filter, count_by, sum_by}
use Rattle.portal_tables.proofs.Common.{refl, ap, ap₂, sym, subst, ◌∙◌, bytes_eq, nat_eq, option_and_then}
use Rattle.portal_tables.proofs.Common.{AllByRecursion, length-map, recursion_from_All, sum_by-cons, Has}
use Rattle.portal_tables.proofs.Common.{has_image, IsCode, text_of, Plan, History, limit_or_none, plan_among}
use Rattle.portal_tables.proofs.Common.{Rows, VoucherRow, SessionRow, GrantRow, CountRow, rows_of, count_from}
use Rattle.portal_tables.proofs.Common.{total_from, remaining_of, IsLegal, rows_are_numbered, counts_are_sums}
use Rattle.portal_tables.proofs.Common.{totals_are_sums, rows_are_typed, rows_for_sums, has_mapped}
use Rattle.portal_tables.proofs.Common.{voucher_kept, session_kept, grant_kept, count_kept, contents_of}
use Rattle.portal_tables.proofs.Common.{RequestRow, this_schema_version, code_test}
use Rattle.sqlite_trees.proofs.ListLemmas.{map-map, filter-map}
use Rattle.portal_tables_rows.specs.Audit.{HasCounters, total_in}

-- ---- counts

-- a printed code is redeemed as often as the code
uses_kept : (code : List ℕ) → IsCode code → (grants : List GrantRow)
    → AllByRecursion (λ (g : GrantRow). IsCode g.code) grants
    → count_by (λ (g : GrantRow). bytes_eq g.code (text_of code)) (map grant_kept grants)
    ≡ count_by (λ (g : GrantRow). bytes_eq g.code code) grants
uses_kept code is [] all = refl
uses_kept code is (g ∷ grants) all =
    sum_by-cons (λ (x : GrantRow). cond (bytes_eq x.code (text_of code)) 1 0)
    (grant_kept g) (map grant_kept grants)
    ∙ ap₂ ◌+◌ (ap (λ b. cond b 1 0) (code_test g.code code all.0 is)) (uses_kept code is grants all.1)
    ∙ sym (sum_by-cons (λ (x : GrantRow). cond (bytes_eq x.code code) 1 0) g grants)

counts_kept : (grants : List GrantRow) → AllByRecursion (λ (g : GrantRow). IsCode g.code) grants
    → (vouchers : List VoucherRow) → AllByRecursion (λ (v : VoucherRow). IsCode v.code) vouchers
    → map (count_from (map grant_kept grants)) (map voucher_kept vouchers)
    ≡ map count_kept (map (count_from grants) vouchers)
counts_kept grants all [] each = refl
counts_kept grants all (v ∷ vouchers) each = ap₂ ◌∷◌ (λ i. record {
  code = text_of v.code;
  redeemed = uses_kept v.code each.0 grants all i;
}) (counts_kept grants all vouchers each.1)

-- the counts of a history's vouchers
pub counts_shown : (h : History) → IsLegal h → map (count_from (map grant_kept (rows_of h).grants))
    (map voucher_kept (rows_of h).vouchers) ≡ map count_kept (rows_of h).counts
counts_shown h legal =
    let typed = rows_are_typed h legal in
    counts_kept (rows_of h).grants
    (recursion_from_All (λ (g : GrantRow). IsCode g.code) (rows_of h).grants typed.grants)
    (rows_of h).vouchers
    (recursion_from_All (λ (v : VoucherRow). IsCode v.code) (rows_of h).vouchers typed.vouchers)
    ∙ ap (map count_kept) (sym (counts_are_sums h legal))

-- ---- totals

-- a sum that does not read the code
sum_kept : (f : GrantRow → ℕ) → ((g : GrantRow) → f (grant_kept g) ≡ f g)
    → (number : ℕ) (grants : List GrantRow)
    → sum_by f (filter (λ (g : GrantRow). nat_eq g.session number) (map grant_kept grants))
    ≡ sum_by f (filter (λ (g : GrantRow). nat_eq g.session number) grants)
sum_kept f same number grants =
    ap (sum_by f) (filter-map (λ (g : GrantRow). nat_eq g.session number) grant_kept grants)
    ∙ mapped (filter (λ (g : GrantRow). nat_eq g.session number) grants)
  where
    mapped : (gs : List GrantRow) → sum_by f (map grant_kept gs) ≡ sum_by f gs
    mapped [] = refl
    mapped (g ∷ gs) = sum_by-cons f (grant_kept g) (map grant_kept gs) ∙ ap₂ ◌+◌ (same g) (mapped gs)
        ∙ sym (sum_by-cons f g gs)

total_kept : (r : Rows) (s : SessionRow)
    → total_from (rows_for_sums r.plans (map grant_kept r.grants)) (session_kept s) ≡ total_from r s
total_kept r s = λ i. record {
  number = s.number;
  ends = option_and_then (λ (p : Plan). limit_or_none p.seconds
      (s.opened + sum_kept (λ g. g.seconds) (λ g. refl) s.number r.grants i)) (plan_among r.plans s.plan);
  remaining = remaining_of s.used (option_and_then (λ (p : Plan). limit_or_none p.bytes
      (sum_kept (λ g. g.bytes) (λ g. refl) s.number r.grants i)) (plan_among r.plans s.plan));
}

-- the totals of a history's sessions
pub totals_shown : (h : History) → IsLegal h
    → map (total_from (rows_for_sums (rows_of h).plans (map grant_kept (rows_of h).grants)))
    (map session_kept (rows_of h).sessions) ≡ (rows_of h).totals
totals_shown h legal =
    map-map (total_from (rows_for_sums (rows_of h).plans (map grant_kept (rows_of h).grants)))
    session_kept (rows_of h).sessions ∙ (λ i. map (λ s. total_kept (rows_of h) s i) (rows_of h).sessions)
    ∙ sym (totals_are_sums h legal)

-- ---- both

-- the counters of a history's tables agree with its other rows
pub counters_shown : (ks : List RequestRow) (h : History) → IsLegal h
    → HasCounters (contents_of ks this_schema_version (rows_of h))
counters_shown ks h legal =
    let r = rows_of h in
    let t = contents_of ks this_schema_version r in
    let counts = counts_shown h legal in
    let totals = totals_shown h legal in
    let numbered = rows_are_numbered h legal in
    record {
      counts = λ k has. let it =
          has_image (count_from t.grants) t.vouchers k (subst (λ ks. Has ks k) (sym counts) has) in
          subst (λ (x : CountRow). x.redeemed ≡ count_by (λ (g : GrantRow). bytes_eq g.code x.code) t.grants)
          (sym it.2) refl;
      totals =
          λ m has. let it = has_image (total_in t) t.sessions m (subst (λ ms. Has ms m) (sym totals) has) in
          (it.0, it.1, it.2);
      vouchers = λ v has. (
        count_from t.grants v,
        subst (λ ks. Has ks (count_from t.grants v)) counts
            (has_mapped (count_from t.grants) t.vouchers v has),
        refl,
      );
      sessions = λ s has. (
        total_in t s,
        subst (λ ms. Has ms (total_in t s)) totals (has_mapped (total_in t) t.sessions s has),
        refl,
      );
      head = (
        _,
        inl refl,
        refl,
        sym numbered.of_grants ∙ sym (length-map r.grants grant_kept),
        sym numbered.of_sessions ∙ sym (length-map r.sessions session_kept),
      );
    }
