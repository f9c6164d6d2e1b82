use Rattle.portal_commands.proofs.Common.{inl}
use Rattle.portal_commands.proofs.Returned.{returned-error}
use Rattle.portal_commands.proofs.place.open_desk.Goals as goal

pub returns-in_err-settings-clause-why : goal.returns-in_err-settings-clause-why
returns-in_err-settings-clause-why g c =
    returned-error c.from_residual.result c.in_err-settings.field-0.0 _ c.from_residual.ensures
    (inl c.in_err-settings.ensures.not_read)
