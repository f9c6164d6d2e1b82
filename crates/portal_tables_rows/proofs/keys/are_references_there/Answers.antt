use Rattle.portal_tables_rows.proofs.Common.{◌≡◌, ◌↔◌, Bool, false, true, IsTrue, List, All, ap, subst}
use Rattle.portal_tables_rows.proofs.Common.{subst₂, sym}
use Rattle.portal_tables_rows.proofs.Common.{◌∙◌, map, rules, IfOk-weaker, IsCode, text_of, Plan}
use Rattle.portal_tables_rows.proofs.Common.{SessionRow, GrantRow, CountRow, VoucherRow, VoucherValue}
use Rattle.portal_tables_rows.proofs.Common.{GrantValue}
use Rattle.portal_tables_rows.proofs.Common.{voucher_read, session_read, grant_read, count_read}
use Rattle.portal_tables_rows.proofs.KeyLemmas.{refused, through}
use Rattle.portal_model.specs.declared.record.Batch.{Batch}
use Rattle.portal_tables_rows.specs.Audit.{AreAmong}
use Rattle.portal_tables_rows.proofs.keys.are_references_there.Goals as goal

-- a test's result, of lists that are equal to those that were tested
among_of : {K : Type 0} {b : Bool} {xs ys ps qs : List K} → xs ≡ ps → ys ≡ qs → IsTrue b ↔ AreAmong xs ys
    → IsTrue b ↔ AreAmong ps qs
among_of {b = b} e f is = subst₂ (λ xs ys. IsTrue b ↔ AreAmong xs ys) e f is

pub returns-then-not-branch-2-clause-there : goal.returns-then-not-branch-2-clause-there
returns-then-not-branch-2-clause-there c t read batches counts =
    let off : c.in_ok-are_session_plans_among.field-0 ≡ false = search rules in
    refused c.in_ok-are_session_plans_among.field-0 off (among_of
    (ap (map (λ s. s.plan)) c.deref-3.ensures.value
    ∙ through (λ (s : SessionRow). s.plan) session_read c.args.rows.now.sessions.items t.sessions
    read.sessions)
    (c.deref-4.ensures.value ∙ c.in_ok-plans.ensures.ids
    ∙ ap (map (λ (p : Plan). p.id)) (c.deref.ensures.value ∙ read.plans))
    c.in_ok-are_session_plans_among.ensures.among) (λ r. r.session_plans)

pub returns-then-not-branch-3-clause-there : goal.returns-then-not-branch-3-clause-there
returns-then-not-branch-3-clause-there c t read batches counts =
    let off : c.in_ok-are_voucher_batches_among.field-0 ≡ false = search rules in
    refused c.in_ok-are_voucher_batches_among.field-0 off (among_of
    (ap (map (λ v. v.batch)) c.deref-5.ensures.value
    ∙ through (λ (v : VoucherRow). v.batch) voucher_read c.args.rows.now.vouchers.items t.vouchers
    read.vouchers)
    (c.deref-6.ensures.value ∙ c.in_ok-ids.ensures.ids ∙ ap (map (λ (b : Batch). b.id)) batches)
    c.in_ok-are_voucher_batches_among.ensures.among) (λ r. r.voucher_batches)

pub returns-then-not-branch-4-clause-there : goal.returns-then-not-branch-4-clause-there
returns-then-not-branch-4-clause-there c t read batches counts =
    let off : c.in_ok-are_grant_sessions_among.field-0 ≡ false = search rules in
    refused c.in_ok-are_grant_sessions_among.field-0 off (among_of
    (ap (map (λ g. g.session)) c.deref-8.ensures.value
    ∙ through (λ (g : GrantRow). g.session) grant_read c.args.rows.now.grants.items t.grants read.grants)
    (c.deref-9.ensures.value ∙ c.in_ok-numbers.ensures.numbers
    ∙ ap (map (λ s. s.number)) c.deref-7.ensures.value
    ∙ through (λ (s : SessionRow). s.number) session_read c.args.rows.now.sessions.items t.sessions
    read.sessions)
    c.in_ok-are_grant_sessions_among.ensures.among) (λ r. r.grant_sessions)

pub returns-then-not-branch-5-clause-there : goal.returns-then-not-branch-5-clause-there
returns-then-not-branch-5-clause-there c t read batches counts =
    let off : c.in_ok-are_codes_among.field-0 ≡ false = search rules in
    refused c.in_ok-are_codes_among.field-0 off (among_of
    (ap (map text_of) c.deref-12.ensures.value ∙ c.in_ok-codes_of_grants.ensures.read
    ∙ ap (map (λ (g : GrantValue). (grant_read g).code)) c.deref-11.ensures.value
    ∙ through (λ (g : GrantRow). g.code) grant_read c.args.rows.now.grants.items t.grants read.grants)
    (ap (map text_of) c.deref-13.ensures.value ∙ c.in_ok-codes.ensures.read
    ∙ ap (map (λ (v : VoucherValue). (voucher_read v).code)) c.deref-10.ensures.value
    ∙ through (λ (v : VoucherRow). v.code) voucher_read c.args.rows.now.vouchers.items t.vouchers
    read.vouchers)
    (c.in_ok-are_codes_among.ensures.among
    (subst (All IsCode) (sym c.deref-12.ensures.value) c.in_ok-codes_of_grants.ensures.codes)
    (subst (All IsCode) (sym c.deref-13.ensures.value) c.in_ok-codes.ensures.codes))) (λ r. r.grant_codes)

pub returns-clause-there : goal.returns-clause-there
returns-clause-there c =
    let rows = c.args.rows.now in
    let b1 : c.in_ok-are_batch_plans_among.field-0 ≡ true = search rules in
    let b2 : c.in_ok-are_session_plans_among.field-0 ≡ true = search rules in
    let b3 : c.in_ok-are_voucher_batches_among.field-0 ≡ true = search rules in
    let b4 : c.in_ok-are_grant_sessions_among.field-0 ≡ true = search rules in
    let b5 : c.in_ok-are_codes_among.field-0 ≡ true = search rules in
    IfOk-weaker c.are_codes_among-2.result _ _ (λ there same t read batches counts.
    let plans = c.in_ok-plans.ensures.ids
    ∙ ap (map (λ (p : Plan). p.id)) (c.deref.ensures.value ∙ read.plans) in
    let codes = c.in_ok-codes.ensures.read
    ∙ ap (map (λ (v : VoucherValue). (voucher_read v).code)) c.deref-10.ensures.value
    ∙ through (λ (v : VoucherRow). v.code) voucher_read rows.vouchers.items t.vouchers read.vouchers in
    let counted = among_of (ap (map text_of) c.deref-14.ensures.value ∙ c.in_ok-codes_of_counts.ensures.read
    ∙ through (λ (k : CountRow). k.code) count_read c.args.counts.now t.counts counts)
    (ap (map text_of) c.deref-15.ensures.value ∙ codes) same in (
      λ on. record {
        batch_plans = (among_of (ap (map (λ (b : Batch). b.plan)) batches) (c.deref-2.ensures.value ∙ plans)
            c.in_ok-are_batch_plans_among.ensures.among).0 b1;
        session_plans = (among_of (ap (map (λ s. s.plan)) c.deref-3.ensures.value
            ∙ through (λ (s : SessionRow). s.plan) session_read rows.sessions.items t.sessions read.sessions)
            (c.deref-4.ensures.value ∙ plans) c.in_ok-are_session_plans_among.ensures.among).0 b2;
        voucher_batches = (among_of (ap (map (λ v. v.batch)) c.deref-5.ensures.value
            ∙ through (λ (v : VoucherRow). v.batch) voucher_read rows.vouchers.items t.vouchers read.vouchers)
            (c.deref-6.ensures.value ∙ c.in_ok-ids.ensures.ids ∙ ap (map (λ (b : Batch). b.id)) batches)
            c.in_ok-are_voucher_batches_among.ensures.among).0 b3;
        grant_sessions = (among_of (ap (map (λ g. g.session)) c.deref-8.ensures.value
            ∙ through (λ (g : GrantRow). g.session) grant_read rows.grants.items t.grants read.grants)
            (c.deref-9.ensures.value ∙ c.in_ok-numbers.ensures.numbers
            ∙ ap (map (λ s. s.number)) c.deref-7.ensures.value
            ∙ through (λ (s : SessionRow). s.number) session_read rows.sessions.items t.sessions
            read.sessions)
            c.in_ok-are_grant_sessions_among.ensures.among).0 b4;
        grant_codes = (among_of (ap (map text_of) c.deref-12.ensures.value
            ∙ c.in_ok-codes_of_grants.ensures.read
            ∙ ap (map (λ (g : GrantValue). (grant_read g).code)) c.deref-11.ensures.value
            ∙ through (λ (g : GrantRow). g.code) grant_read rows.grants.items t.grants read.grants)
            (ap (map text_of) c.deref-13.ensures.value ∙ codes)
            (c.in_ok-are_codes_among.ensures.among
            (subst (All IsCode) (sym c.deref-12.ensures.value) c.in_ok-codes_of_grants.ensures.codes)
            (subst (All IsCode) (sym c.deref-13.ensures.value) c.in_ok-codes.ensures.codes))).0 b5;
        count_codes = counted.0 on;
      },
      λ r. counted.1 r.count_codes,
    )) (c.are_codes_among-2.ensures.among
    (subst (All IsCode) (sym c.deref-14.ensures.value) c.in_ok-codes_of_counts.ensures.codes)
    (subst (All IsCode) (sym c.deref-15.ensures.value) c.in_ok-codes.ensures.codes))
