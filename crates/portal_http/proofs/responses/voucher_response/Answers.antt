use Rattle.portal_http.proofs.Common.{◌∙◌, Json}
use Rattle.portal_json.specs.Bodies.{voucher_body}
use Rattle.portal_http.specs.Replies.{IsVoucher}
use Rattle.portal_http.proofs.ResponseLemmas.{with_body}
use Rattle.portal_http.proofs.responses.voucher_response.Goals as goal

pub returns : goal.returns
unfolding IsVoucher
returns c =
    with_body Json c.args.moment c.as_bytes.result.now (voucher_body c.args.voucher.now) c.ok_response.result
    (c.as_bytes.ensures.value ∙ c.in_ok-body.ensures.ok) c.ok_response.ensures
