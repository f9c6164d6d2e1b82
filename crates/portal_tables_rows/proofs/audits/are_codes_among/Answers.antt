use Rattle.portal_tables_rows.proofs.Common.{rules, tests, sym, ◌∙◌, YieldsList-from_slice}
use Rattle.portal_tables_rows.proofs.Common.{all_from_yields_List, list_all-map, VoucherValue, voucher_read}
use Rattle.portal_tables_rows.proofs.Common.{has_count}
use Rattle.portal_tables_rows.proofs.audits.are_codes_among.Goals as goal

pub returns : goal.returns
returns c counts counted =
    all_from_yields_List (λ (v : VoucherValue). has_count counts (voucher_read v)) _ _ _ c.all.ensures.ran
    (YieldsList-from_slice c.args.vouchers.now cc) (λ x b q k. search (rules, tests))
    ∙ sym (list_all-map (has_count counts) voucher_read c.args.vouchers.now)
