use Rattle.portal_http.proofs.Common.{◌∙◌, Json}
use Rattle.portal_json.specs.Bodies.{open_details_body}
use Rattle.portal_http.specs.Replies.{AreDetails}
use Rattle.portal_http.proofs.ResponseLemmas.{with_body}
use Rattle.portal_http.proofs.responses.open_details_response.Goals as goal

pub returns : goal.returns
unfolding AreDetails
returns c =
    with_body Json c.args.moment c.as_bytes.result.now (open_details_body c.args.sessions.now)
    c.ok_response.result (c.as_bytes.ensures.value ∙ c.in_ok-body.ensures.ok) c.ok_response.ensures
