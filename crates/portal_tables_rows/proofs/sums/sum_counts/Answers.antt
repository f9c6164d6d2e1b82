use Rattle.portal_tables_rows.proofs.Common.{◌≡◌, sym, ap, ◌∙◌, map, take_all, map-map, text_of, count_from}
use Rattle.portal_tables_rows.proofs.Common.{OldVoucher, old_voucher_read, count_read, grant_read, uses_in}
use Rattle.portal_tables_rows.proofs.Compose.{made_more}
use Rattle.portal_tables_rows.proofs.sums.sum_counts.Goals as goal

pub loop-voucher-preserved : goal.loop-voucher-preserved
loop-voucher-preserved c =
    let text = text_of c.voucher-item.result.code in
    let redeemed : c.uses_of_code.result ≡ uses_in (map grant_read c.args.grants.now) text =
    c.uses_of_code.ensures.found
    ∙ c.in_ok-uses.ensures.uses c.voucher-item.result.code c.uses_of_code.ensures.code in
    made_more count_read (λ v. count_from (map grant_read c.args.grants.now) (old_voucher_read v))
    c.loop-voucher.counts.items c.push.new.self.items _ c.args.vouchers.now
    c.loop-voucher.voucher-index c.voucher-item.result
    c.loop-voucher.invariant c.in_ok-push.ensures.items c.loop-voucher-test.true c.voucher-item.is
    (λ k. record { code = text; redeemed = redeemed k })

pub returns-clause-sums : goal.returns-clause-sums
returns-clause-sums c =
    let made = λ (v : OldVoucher). count_from (map grant_read c.args.grants.now) (old_voucher_read v) in
    c.loop-voucher.invariant
    ∙ ap (map made) (take_all c.loop-voucher.voucher-index c.args.vouchers.now c.loop-voucher-test.false)
    ∙ sym (map-map (count_from (map grant_read c.args.grants.now)) old_voucher_read c.args.vouchers.now)
