use Rattle.portal_http.proofs.Common.{List, ◌∙◌, subst}
use Rattle.portal_model.specs.declared.record.Voucher.{Voucher}
use Rattle.portal_http.specs.Replies.{AreVouchers}
use Rattle.portal_http.specs.Responses.{Responds}
use Rattle.portal_http.proofs.ServeLemmas.{vouchers_told}
use Rattle.portal_http.proofs.serving.answer_vouchers.Goals as goal

pub returns : goal.returns
returns g c =
    let call = c.in_ok-vouchers.ensures in
    let made = c.vouchers_response.result in
    let told = subst (λ (vs : List Voucher).
    Responds (AreVouchers vs c.in_ok-vouchers.more c.args.moment) made)
    c.as_slice.ensures.value c.vouchers_response.ensures in
    record {
      same_settings = call.same_settings;
      fault_free = call.fault_free;
      stays = λ over. call.stops ∙ over;
      step = λ honest before at. let it = call.step honest before at in (
        it.0,
        it.1,
        vouchers_told (g.D.Desk.settings c.args.desk.now) c.args.start.now c.args.moment
            c.in_ok-vouchers.vouchers.items c.in_ok-vouchers.more before it.0 made told it.2,
      );
    }
