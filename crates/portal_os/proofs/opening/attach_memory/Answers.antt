use Rattle.std.proofs.Common.{[], ap, ◌∙◌, inl, inr}
use Rattle.portal_os.specs.Errors.{error_of_open}
use Rattle.portal_os.specs.Laws.{memory_desk_is_fault_free, memory_conn_is_fault_free}
use Rattle.portal_os.proofs.opening.attach_memory.Goals as goal

pub returns-in-Ok-clause-attaches : goal.returns-in-Ok-clause-attaches
returns-in-Ok-clause-attaches c =
    c.in-Ok.ensures.attaches [] c.requires (memory_desk_is_fault_free c.in-Ok.desk)

pub returns-in-Err-clause-why : goal.returns-in-Err-clause-why
returns-in-Err-clause-why c =
    let fails =
    c.in-Err.ensures.attaches [] c.requires (memory_conn_is_fault_free c.in-Err.refused.connection) in
    elim fails [
      | inl want ↦ inr (c.error_of_open.ensures ∙ ap error_of_open want.0)
      | inr store ↦ inl (c.error_of_open.ensures ∙ ap error_of_open store.0)
    ]
