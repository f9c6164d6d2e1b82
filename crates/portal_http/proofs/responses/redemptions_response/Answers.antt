use Rattle.portal_http.proofs.Common.{◌∙◌, Json}
use Rattle.portal_json.specs.Bodies.{redemptions_body}
use Rattle.portal_http.specs.Replies.{AreRedemptions}
use Rattle.portal_http.proofs.ResponseLemmas.{with_body}
use Rattle.portal_http.proofs.responses.redemptions_response.Goals as goal

pub returns : goal.returns
unfolding AreRedemptions
returns c =
    with_body Json c.args.moment c.as_bytes.result.now (redemptions_body c.args.redemptions.now c.args.more)
    c.ok_response.result (c.as_bytes.ensures.value ∙ c.in_ok-body.ensures.ok) c.ok_response.ensures
