use Rattle.portal_http_message.proofs.Common.{List, ℕ, subst, ParsesTo}
use Rattle.portal_http_message.proofs.received.Received.request.Goals as goal

pub request_of_finding-requires : goal.request_of_finding-requires
request_of_finding-requires c = rw c.as_slice.ensures.value c.self.invariant

pub returns : goal.returns
returns c =
    rw (← c.self.view_is) (subst (λ (b : List ℕ). ParsesTo b c.request_of_finding.result)
    c.as_slice.ensures.value c.request_of_finding.ensures)
