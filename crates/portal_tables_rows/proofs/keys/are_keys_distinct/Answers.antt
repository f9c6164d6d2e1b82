use Rattle.portal_tables_rows.proofs.Common.{◌≡◌, ◌↔◌, Bool, false, true, IsTrue, List, ap, subst}
use Rattle.portal_tables_rows.proofs.Common.{◌∙◌, map, rules, IfOk-weaker, bytes_eq, Plan}
use Rattle.portal_tables_rows.proofs.Common.{CountRow, VoucherRow, VoucherValue}
use Rattle.portal_tables_rows.proofs.Common.{voucher_read, count_read}
use Rattle.portal_tables_rows.proofs.KeyLemmas.{refused, through}
use Rattle.portal_model.specs.declared.record.Batch.{Batch}
use Rattle.std.specs.List.{IsDistinct}
use Rattle.portal_tables_rows.specs.Audit.{same_key, same_place}
use Rattle.portal_tables_rows.proofs.keys.are_keys_distinct.Goals as goal

-- a test's result, of a list that is equal to the one that was tested
distinct_of : {K : Type 0} {xs ys : List K} (e : K → K → Bool) (b : Bool) → xs ≡ ys
    → IsTrue b ↔ IsDistinct e xs → IsTrue b ↔ IsDistinct e ys
distinct_of e b is tells = subst (λ xs. IsTrue b ↔ IsDistinct e xs) is tells

pub returns-then-not-branch-3-clause-distinct : goal.returns-then-not-branch-3-clause-distinct
returns-then-not-branch-3-clause-distinct c t read batches counts requests =
    let off : c.in_ok-are_codes_distinct.field-0 ≡ false = search rules in
    refused c.in_ok-are_codes_distinct.field-0 off (distinct_of bytes_eq _
    (c.in_ok-codes_of_vouchers.ensures.read
    ∙ ap (map (λ (v : VoucherValue). (voucher_read v).code)) c.deref-2.ensures.value
    ∙ through (λ (v : VoucherRow). v.code) voucher_read c.args.rows.now.vouchers.items t.vouchers
    read.vouchers)
    (c.in_ok-are_codes_distinct.ensures.distinct c.in_ok-codes_of_vouchers.ensures.codes)) (λ k. k.codes)

pub returns-then-not-branch-5-clause-distinct : goal.returns-then-not-branch-5-clause-distinct
returns-then-not-branch-5-clause-distinct c t read batches counts requests =
    let off : c.in_ok-are_codes_distinct-2.field-0 ≡ false = search rules in
    refused c.in_ok-are_codes_distinct-2.field-0 off (distinct_of bytes_eq _
    (c.in_ok-codes_of_counts.ensures.read
    ∙ through (λ (k : CountRow). k.code) count_read c.args.counts.now t.counts counts)
    (c.in_ok-are_codes_distinct-2.ensures.distinct c.in_ok-codes_of_counts.ensures.codes)) (λ k. k.counts)

pub returns-clause-distinct : goal.returns-clause-distinct
returns-clause-distinct c =
    let rows = c.args.rows.now in
    let b1 : c.in_ok-are_distinct.field-0 ≡ true = search rules in
    let b2 : c.in_ok-are_distinct-2.field-0 ≡ true = search rules in
    let b3 : c.in_ok-are_codes_distinct.field-0 ≡ true = search rules in
    let b4 : c.in_ok-are_places_distinct.field-0 ≡ true = search rules in
    let b5 : c.in_ok-are_codes_distinct-2.field-0 ≡ true = search rules in
    IfOk-weaker c.are_requests_distinct.result _ _ (λ distinct same t read batches counts requests.
    let kept = distinct_of same_key distinct requests same in (
      λ on. record {
        plans = (distinct_of bytes_eq c.in_ok-are_distinct.field-0 (c.in_ok-ids_of_plans.ensures.ids
            ∙ ap (map (λ (p : Plan). p.id)) (c.deref.ensures.value ∙ read.plans))
            c.in_ok-are_distinct.ensures.distinct).0 b1;
        batches = (distinct_of bytes_eq c.in_ok-are_distinct-2.field-0
            (c.in_ok-ids_of_batches.ensures.ids ∙ ap (map (λ (b : Batch). b.id)) batches)
            c.in_ok-are_distinct-2.ensures.distinct).0 b2;
        codes = (distinct_of bytes_eq c.in_ok-are_codes_distinct.field-0
            (c.in_ok-codes_of_vouchers.ensures.read
            ∙ ap (map (λ (v : VoucherValue). (voucher_read v).code)) c.deref-2.ensures.value
            ∙ through (λ (v : VoucherRow). v.code) voucher_read rows.vouchers.items t.vouchers read.vouchers)
            (c.in_ok-are_codes_distinct.ensures.distinct c.in_ok-codes_of_vouchers.ensures.codes)).0 b3;
        places = (distinct_of same_place c.in_ok-are_places_distinct.field-0
            (ap (map voucher_read) c.deref-3.ensures.value ∙ read.vouchers)
            c.in_ok-are_places_distinct.ensures.distinct).0 b4;
        counts = (distinct_of bytes_eq c.in_ok-are_codes_distinct-2.field-0
            (c.in_ok-codes_of_counts.ensures.read
            ∙ through (λ (k : CountRow). k.code) count_read c.args.counts.now t.counts counts)
            (c.in_ok-are_codes_distinct-2.ensures.distinct c.in_ok-codes_of_counts.ensures.codes)).0 b5;
        requests = kept.0 on;
      },
      λ k. kept.1 k.requests,
    )) c.are_requests_distinct.ensures.distinct
