use Rattle.std.proofs.Common.{ap, inl, inr, ◌∙◌}
use Rattle.portal_os.specs.Errors.{error_of_open}
use Rattle.portal_os.proofs.LeftLemmas.{represented_left}
use Rattle.portal_os.proofs.opening.attach_store.Goals as goal

pub returns-in-Err-clause-fails : goal.returns-in-Err-clause-fails
returns-in-Err-clause-fails g c = (
  c.in-Err.refused.fault,
  c.error_of_open.ensures,
  λ honest. (
    c.in-Err.ensures.fault_free honest,
    c.in-Err.ensures.why honest,
    λ L at. elim (c.in-Err.ensures.attaches L at honest) [ inl want ↦ inl want.0 | inr store ↦ inr store.0 ],
  ),
)

pub returns-in-Err-clause-kept : goal.returns-in-Err-clause-kept
returns-in-Err-clause-kept g c = λ honest live other.
    c.in-Err.ensures.kept honest live (λ is. other (c.error_of_open.ensures ∙ ap error_of_open is))

pub returns-in-Err-clause-holds : goal.returns-in-Err-clause-holds
returns-in-Err-clause-holds g c L at = λ honest. elim (c.in-Err.ensures.attaches L at honest) [
  | inl want ↦ represented_left _ _ L want.1
  | inr store ↦ store.1
]
