use Rattle.portal_http.proofs.Common.{◌∙◌, Json}
use Rattle.portal_json.specs.Bodies.{vouchers_body}
use Rattle.portal_http.specs.Replies.{AreVouchers}
use Rattle.portal_http.proofs.ResponseLemmas.{with_body}
use Rattle.portal_http.proofs.responses.vouchers_response.Goals as goal

pub returns : goal.returns
unfolding AreVouchers
returns c =
    with_body Json c.args.moment c.as_bytes.result.now (vouchers_body c.args.vouchers.now c.args.more)
    c.ok_response.result (c.as_bytes.ensures.value ∙ c.in_ok-body.ensures.ok) c.ok_response.ensures
