use Rattle.portal_tables_rows.proofs.Common.{map, ap, sym, ◌∙◌, err_from_is_err_and, map-map, VoucherRow}
use Rattle.portal_tables_rows.proofs.Common.{VoucherValue, voucher_read}
use Rattle.portal_tables_rows.proofs.ManyValues.{row_fails, row_made}
use Rattle.portal_tables_rows.proofs.lists.list_batch_codes.Goals as goal

pub returns-clause-reads : goal.returns-clause-reads
returns-clause-reads g c =
    let vouchers = c.in_ok-vouchers.vouchers.items in
    row_made g.S.Store _ c.in_ok-vouchers.ensures
    (λ t lists. record {
      listed = map voucher_read vouchers;
      lists = lists.0;
      shows = c.in_ok-codes_of_vouchers.ensures.read ∙ ap (map (λ (v : VoucherValue). (voucher_read v).code))
          c.deref.ensures.value ∙ sym (map-map (λ (v : VoucherRow). v.code) voucher_read vouchers);
    })
    (λ t lists own. tt)

pub returns-in_err-vouchers-clause-reads : goal.returns-in_err-vouchers-clause-reads
returns-in_err-vouchers-clause-reads g c =
    row_fails g.S.Store c.from_residual.result c.from_residual.ensures.1 c.in_err-vouchers.ensures

pub returns-in_err-codes_of_vouchers-clause-reads : goal.returns-in_err-codes_of_vouchers-clause-reads
returns-in_err-codes_of_vouchers-clause-reads g c =
    let told = err_from_is_err_and c.from_residual-in_err-codes_of_vouchers.result
    c.from_residual-in_err-codes_of_vouchers.ensures.1 in
    row_made g.S.Store c.from_residual-in_err-codes_of_vouchers.result c.in_ok-vouchers.ensures
    (λ t lists. rw told.1 tt)
    (λ t lists own. rw (told.1, told.2) c.in_err-codes_of_vouchers.ensures.memory)
