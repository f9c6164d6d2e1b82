use Rattle.portal_commands.proofs.Common.{Ok, ap, ◌∙◌, exit_code_for}
use Rattle.portal_commands.proofs.answering.answer_at.Goals as goal

pub returns-in-Ok-clause-serves : goal.returns-in-Ok-clause-serves
returns-in-Ok-clause-serves g c = λ honest old represents.
    let it = c.in-Ok.ensures.serves honest old represents in (
      it.0,
      it.1,
      (
        Ok c.in-Ok.done,
        it.2,
        ap Ok (c.exit_code_for.ensures
            ∙ ap (exit_code_for c.in-Ok.done.status) (c.is_stopped.ensures.over it.0 it.1)),
      ),
    )

pub returns-in-Ok-clause-survives : goal.returns-in-Ok-clause-survives
returns-in-Ok-clause-survives g c = λ honest L represents. (
  c.is_stopped.result,
  (Ok c.in-Ok.done, c.in-Ok.ensures.survives honest L represents, ap Ok c.exit_code_for.ensures),
)
