use Rattle.portal_http_message.proofs.Common.{List, ℕ, subst, sym, ◌∙◌, IsFinding}
use Rattle.portal_http_message.proofs.received.Received.receive.Goals as goal

pub invariant_of-self-in_default-extend_from_slice : goal.invariant_of-self-in_default-extend_from_slice
invariant_of-self-in_default-extend_from_slice g c =
    subst (λ (b : List ℕ). IsFinding b c.self.inside.found)
    (sym c.in_default-extend_from_slice.ensures.items) c.self.invariant

pub update_finding-self-inside-requires : goal.update_finding-self-inside-requires
update_finding-self-inside-requires g c = (
  c.self.inside.bytes.items,
  c.split_at.result.0.now,
  c.as_slice.ensures.value ∙ c.in-Ok-extend_from_slice.ensures.items,
  c.self.invariant,
)

pub invariant_of-self-2 : goal.invariant_of-self-2
invariant_of-self-2 g c = subst (λ (b : List ℕ). IsFinding b c.update_finding-self-inside.result)
    c.as_slice.ensures.value c.update_finding-self-inside.ensures
