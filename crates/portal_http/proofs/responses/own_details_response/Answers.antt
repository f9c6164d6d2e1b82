use Rattle.portal_http.proofs.Common.{◌∙◌, Json}
use Rattle.portal_json.specs.Bodies.{own_details_body}
use Rattle.portal_http.specs.Replies.{IsOwnDetails}
use Rattle.portal_http.proofs.ResponseLemmas.{with_body}
use Rattle.portal_http.proofs.responses.own_details_response.Goals as goal

pub returns : goal.returns
unfolding IsOwnDetails
returns c =
    with_body Json c.args.moment c.as_bytes.result.now (own_details_body c.args.details.now)
    c.ok_response.result (c.as_bytes.ensures.value ∙ c.in_ok-body.ensures.ok) c.ok_response.ensures
