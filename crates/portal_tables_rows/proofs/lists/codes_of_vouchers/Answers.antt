use Rattle.portal_tables_rows.proofs.Common.{All, All-push, map, take_all, ap, refl, sym, subst, ◌∙◌, IsCode}
use Rattle.portal_tables_rows.proofs.Common.{text_of, VoucherValue, voucher_read}
use Rattle.portal_tables_rows.proofs.Compose.{made_more}
use Rattle.portal_tables_rows.proofs.lists.codes_of_vouchers.Goals as goal

pub loop-voucher-preserved : goal.loop-voucher-preserved
loop-voucher-preserved c =
    let done = c.loop-voucher.codes.items in
    let voucher = c.voucher-item.result in
    record {
      read =
          made_more text_of (λ (v : VoucherValue). (voucher_read v).code) done c.push.new.self.items
          voucher.code c.args.vouchers.now c.loop-voucher.voucher-index voucher
          c.loop-voucher.invariant.read c.in_ok-push.ensures.items
          c.loop-voucher-test.true c.voucher-item.is refl;
      codes = subst (All IsCode) (sym c.in_ok-push.ensures.items)
          (All-push IsCode done voucher.code c.loop-voucher.invariant.codes c.text.ensures.spells.is_code);
    }

pub returns-clause-read : goal.returns-clause-read
returns-clause-read c = c.loop-voucher.invariant.read ∙ ap (map (λ (v : VoucherValue). (voucher_read v).code))
    (take_all c.loop-voucher.voucher-index c.args.vouchers.now c.loop-voucher-test.false)
