use Rattle.portal_tables_rows.proofs.Common.{◌<◌, ◌^◌, ◌∙◌, w64, List, map, ap, sym, subst, arith, to_z_pos}
use Rattle.portal_tables_rows.proofs.Common.{err_from_is_err_and, map-map, AreOwn, VoucherRow, VoucherValue}
use Rattle.portal_tables_rows.proofs.Common.{voucher_read, is_within, by_refund, refund_columns, IsOwnRefund}
use Rattle.portal_tables_rows.proofs.OwnRows.{listed_own, within_some}
use Rattle.portal_tables_rows.proofs.ListReading.{refunded_rows_are, refunded_taken}
use Rattle.portal_tables_rows.proofs.ManyValues.{lists_vouchers, row_fails, row_made}
use Rattle.portal_tables_rows.proofs.lists.list_refunds.Goals as goal

pub returns : goal.returns
returns g c =
    let low : c.get.result < 2 ^ 63 = omega arith in
    let high : c.get-2.result < 2 ^ 63 = omega arith in
    let vouchers = c.in_ok-vouchers.vouchers.items in
    row_made g.S.Store _
    (lists_vouchers g.S.Store _ _ (λ (v : VoucherRow). is_within c.args.from c.args.to v.refunded) by_refund
    (refunded_taken _ _) (λ rows shown t h. refunded_rows_are _ _ c.args.from c.args.to rows t h shown)
    (rw (
      c.params-to_sql.ensures,
      c.params-to_sql-2.ensures,
      to_z_pos w64 c.get.result low,
      to_z_pos w64 c.get-2.result high,
      c.get.ensures.value,
      c.get-2.ensures.value,
    ) at c.in_ok-vouchers.ensures.reads))
    (λ t lists. record {
      listed = map voucher_read vouchers;
      lists = lists.0;
      shows = c.in_ok-refunds_of_vouchers.ensures.read
          ∙ ap (map (λ (v : VoucherValue). refund_columns (voucher_read v))) c.deref.ensures.value
          ∙ sym (map-map refund_columns voucher_read vouchers);
    })
    (λ t lists own. tt)

pub returns-in_err-vouchers : goal.returns-in_err-vouchers
returns-in_err-vouchers g c =
    let low : c.get.result < 2 ^ 63 = omega arith in
    let high : c.get-2.result < 2 ^ 63 = omega arith in
    row_fails g.S.Store c.from_residual.result c.from_residual.ensures.1
    (lists_vouchers g.S.Store _ _ (λ (v : VoucherRow). is_within c.args.from c.args.to v.refunded) by_refund
    (refunded_taken _ _) (λ rows shown t h. refunded_rows_are _ _ c.args.from c.args.to rows t h shown)
    (rw (
      c.params-to_sql.ensures,
      c.params-to_sql-2.ensures,
      to_z_pos w64 c.get.result low,
      to_z_pos w64 c.get-2.result high,
      c.get.ensures.value,
      c.get-2.ensures.value,
    ) at c.in_err-vouchers.ensures.reads))

pub returns-in_err-refunds_of_vouchers : goal.returns-in_err-refunds_of_vouchers
returns-in_err-refunds_of_vouchers g c =
    let low : c.get.result < 2 ^ 63 = omega arith in
    let high : c.get-2.result < 2 ^ 63 = omega arith in
    let told = err_from_is_err_and c.from_residual-in_err-refunds_of_vouchers.result
    c.from_residual-in_err-refunds_of_vouchers.ensures.1 in
    let vouchers = c.in_ok-vouchers.vouchers.items in
    row_made g.S.Store c.from_residual-in_err-refunds_of_vouchers.result
    (lists_vouchers g.S.Store _ _ (λ (v : VoucherRow). is_within c.args.from c.args.to v.refunded) by_refund
    (refunded_taken _ _) (λ rows shown t h. refunded_rows_are _ _ c.args.from c.args.to rows t h shown)
    (rw (
      c.params-to_sql.ensures,
      c.params-to_sql-2.ensures,
      to_z_pos w64 c.get.result low,
      to_z_pos w64 c.get-2.result high,
      c.get.ensures.value,
      c.get-2.ensures.value,
    ) at c.in_ok-vouchers.ensures.reads))
    (λ t lists. rw told.1 tt)
    (λ t lists own.
    let kept = listed_own IsOwnRefund (λ (v : VoucherRow). is_within c.args.from c.args.to v.refunded)
    by_refund t.vouchers (map voucher_read vouchers) lists.0 (λ v has on. (
      own v has,
      within_some c.args.from c.args.to v.refunded on,
    )) in
    rw (
      told.1,
      told.2,
    ) (c.in_err-refunds_of_vouchers.ensures.own (subst (λ (vs : List VoucherValue).
    AreOwn IsOwnRefund (map voucher_read vs)) (sym c.deref.ensures.value) kept)))
