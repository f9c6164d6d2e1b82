use Rattle.portal_tables_rows.proofs.Common.{◌≡◌, ◌↔◌, IsTrue, sym, ap, subst, ◌∙◌, map, List, true, rules}
use Rattle.portal_tables_rows.proofs.Common.{list_all, total_from, GrantValue, VoucherValue, Total, ends_row}
use Rattle.portal_tables_rows.proofs.Common.{head_read, voucher_read, session_read, count_read, grant_read}
use Rattle.portal_tables_rows.proofs.Common.{rows_for_sums, is_counted, has_count, err_from_is_err_and}
use Rattle.portal_tables_rows.proofs.Common.{map-map, old_session_read, session_part}
use Rattle.portal_tables_rows.proofs.AuditLemmas.{on_totals}
use Rattle.portal_tables_rows.proofs.audits.counters_agree.Goals as goal

pub returns-clause-agree : goal.returns-clause-agree
returns-clause-agree c t read counted ended =
    let rows = c.args.rows.now in
    let numbers : c.head_agrees.result ≡ true = search rules in
    let counts : c.in_ok-counts_agree.field-0 ≡ true = search rules in
    let found : c.in_ok-vouchers_agree.field-0 ≡ true = search rules in
    let all_counted : list_all (is_counted (map grant_read rows.grants.items))
    (map count_read c.args.counts.now) ≡ true =
    ap (λ (gs : List GrantValue).
    list_all (is_counted (map grant_read gs)) (map count_read c.args.counts.now)) (sym c.deref.ensures.value)
    ∙ sym c.in_ok-counts_agree.ensures.agree ∙ counts in
    let all_found : list_all (has_count (map count_read c.args.counts.now))
    (map voucher_read rows.vouchers.items) ≡ true =
    ap (λ (vs : List VoucherValue). list_all (has_count (map count_read c.args.counts.now))
    (map voucher_read vs)) (sym c.deref-2.ensures.value) ∙ sym c.in_ok-vouchers_agree.ensures.agree ∙ found in
    let bare = ap (map old_session_read) (c.deref-5.ensures.value ∙ c.in_ok-sessions.ensures.sessions
    ∙ ap (map session_part) c.deref-3.ensures.value)
    ∙ map-map old_session_read session_part rows.sessions.items in
    let sums : map ends_row c.in_ok-sums.sums.items ≡ map (total_from (rows_for_sums rows.plans.items
    (map grant_read rows.grants.items))) (map session_read rows.sessions.items) =
    c.in_ok-sums.ensures.sums ∙ (λ i. map (total_from (rows_for_sums (c.deref-4.ensures.value i)
    (map grant_read (c.deref-6.ensures.value i)))) (bare i)) in
    let same : IsTrue c.are_totals_equal.result ↔ (c.args.totals.now ≡ c.in_ok-sums.sums.items) =
    subst (λ (xs : List Total). IsTrue c.are_totals_equal.result ↔ (c.args.totals.now ≡ xs))
    c.deref-7.ensures.value c.are_totals_equal.ensures in
    on_totals (head_read c.args.head.now) rows c.args.counts.now c.args.totals.now t read counted
    ended c.in_ok-sums.sums.items c.are_totals_equal.result (c.head_agrees.ensures.0 numbers)
    all_counted all_found sums same

pub returns-in_err-sums-clause-kept : goal.returns-in_err-sums-clause-kept
returns-in_err-sums-clause-kept c t read fits =
    let rows = c.args.rows.now in
    let bare = ap (map old_session_read) (c.deref-5.ensures.value ∙ c.in_ok-sessions.ensures.sessions
    ∙ ap (map session_part) c.deref-3.ensures.value)
    ∙ map-map old_session_read session_part rows.sessions.items ∙ read.sessions in
    let told = err_from_is_err_and c.from_residual-in_err-sums.result c.from_residual-in_err-sums.ensures.1 in
    rw (told.1, told.2) (c.in_err-sums.ensures.kept (rw (
      c.deref-4.ensures.value,
      bare,
      c.deref-6.ensures.value,
      read.plans,
      read.grants,
    ) fits))
