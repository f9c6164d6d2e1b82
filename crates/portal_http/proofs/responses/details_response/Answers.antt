use Rattle.portal_http.proofs.Common.{◌∙◌, Json}
use Rattle.portal_json.specs.Bodies.{details_body}
use Rattle.portal_http.specs.Replies.{IsDetails}
use Rattle.portal_http.proofs.ResponseLemmas.{with_body}
use Rattle.portal_http.proofs.responses.details_response.Goals as goal

pub returns : goal.returns
unfolding IsDetails
returns c =
    with_body Json c.args.moment c.as_bytes.result.now (details_body c.args.details.now)
    c.ok_response.result (c.as_bytes.ensures.value ∙ c.in_ok-body.ensures.ok) c.ok_response.ensures
