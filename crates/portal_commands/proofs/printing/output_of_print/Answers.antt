use Rattle.portal_commands.proofs.Common.{List, ℕ, subst, ReadsThat, IsBatchFile}
use Rattle.portal_commands.proofs.printing.output_of_print.Goals as goal

pub returns-in-Ok-clause-print : goal.returns-in-Ok-clause-print
returns-in-Ok-clause-print g c = λ honest old represents.
    let it = c.in-Ok.ensures.file honest old represents in
    let zone = (g.D.Desk.settings c.args.desk.now).zone in (
      it.0,
      it.1,
      subst (λ (id : List ℕ). ReadsThat old (λ H. IsBatchFile zone id H c.in-Ok.text.items) it.0)
          c.in-Some.ensures.value it.2,
    )
