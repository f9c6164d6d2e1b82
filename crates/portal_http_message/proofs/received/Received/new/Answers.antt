use Rattle.portal_http_message.proofs.Common.{List, ℕ, subst, IsFinding}
use Rattle.portal_http_message.proofs.received.Received.new.Goals as goal

pub invariant_of-result : goal.invariant_of-result
invariant_of-result c = subst (λ (b : List ℕ). IsFinding b c.parse_head-found.result) c.as_slice.ensures.value
    c.parse_head-found.ensures
