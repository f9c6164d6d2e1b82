use Rattle.portal_tables_rows.proofs.Common.{◌≡◌, All, map, take, text_of, IsCode, voucher_read}
use Rattle.portal_tables_rows.proofs.lists.codes_of_vouchers.Given as goal

abbrev pub invariant-loop-voucher : goal.invariant-loop-voucher
invariant-loop-voucher l = record {
  read : map text_of l.codes.items ≡ map (λ v. (voucher_read v).code) (take l.voucher-index l.vouchers);
  codes : All IsCode l.codes.items;
}
