use Rattle.portal_http.proofs.Common.{◌∙◌, Json}
use Rattle.portal_json.specs.Bodies.{batches_body}
use Rattle.portal_http.specs.Replies.{AreBatches}
use Rattle.portal_http.proofs.ResponseLemmas.{with_body}
use Rattle.portal_http.proofs.responses.batches_response.Goals as goal

pub returns : goal.returns
unfolding AreBatches
returns c =
    with_body Json c.args.moment c.as_bytes.result.now (batches_body c.args.states.now c.args.more)
    c.ok_response.result (c.as_bytes.ensures.value ∙ c.in_ok-body.ensures.ok) c.ok_response.ensures
