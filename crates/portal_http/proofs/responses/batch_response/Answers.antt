use Rattle.portal_http.proofs.Common.{◌∙◌, Json, ap}
use Rattle.portal_json.specs.Bodies.{batch_body}
use Rattle.portal_http.specs.Replies.{IsBatch}
use Rattle.portal_model.specs.Batches.{batch_state}
use Rattle.portal_http.proofs.ResponseLemmas.{with_body}
use Rattle.portal_http.proofs.responses.batch_response.Goals as goal

pub returns : goal.returns
unfolding IsBatch
returns c =
    with_body Json c.args.moment c.as_bytes.result.now
    (batch_body (batch_state c.args.batch.now c.args.vouchers.now) c.args.vouchers.now)
    c.ok_response.result (c.as_bytes.ensures.value ∙ c.in_ok-body.ensures.ok
    ∙ ap (λ s. batch_body s c.args.vouchers.now) c.batch_state.ensures) c.ok_response.ensures
