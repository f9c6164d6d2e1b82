use Rattle.portal_http_message.proofs.Common.{List, ℕ, subst, MatchBool, IsDecided, IsIncomplete}
use Rattle.portal_http_message.proofs.received.Received.is_decided.Goals as goal

pub is_decided_by_finding-requires : goal.is_decided_by_finding-requires
is_decided_by_finding-requires c = rw c.as_slice.ensures.value c.self.invariant

pub returns : goal.returns
returns c = rw (← c.self.view_is) (subst (λ (b : List ℕ). MatchBool c.is_decided_by_finding.result
    (IsDecided b) (IsIncomplete b)) c.as_slice.ensures.value c.is_decided_by_finding.ensures)
