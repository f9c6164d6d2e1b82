use Rattle.portal_os.proofs.Common.{subst}
use Rattle.portal_tables.specs.Images.{UnopenedHolds}
use Rattle.portal_tables.specs.declared.opening.Unopened.{Unopened}
use Rattle.sqlite.proofs.Callers.{finds_again}
use Rattle.portal_os.proofs.LeftLemmas.{refused_holds, unclosed_holds}
use Rattle.portal_os.proofs.opening.copy_log.Goals as goal

pub returns-in-Ok-clause-opens : goal.returns-in-Ok-clause-opens
returns-in-Ok-clause-opens g c =
    let again = c.in-Ok.again in
    let reopened = c.in-Ok.ensures.reopened in record {
      fault_free = λ clean. (reopened clean).1.was_clean;
      represents = λ L at. c.in-Ok.ensures.opened L at;
      same = λ clean. let (closed, copied, found) = reopened clean in
          finds_again c.args.conn again closed (λ honest. copied) found;
      reopened = λ clean asked. reopened clean;
      live = λ live. c.in-Ok.ensures.live;
    }

pub returns-in-Err-Unclosed-clause-kept : goal.returns-in-Err-Unclosed-clause-kept
returns-in-Err-Unclosed-clause-kept g c L represents =
    unclosed_holds c.args.conn c.in-Err-Unclosed.store L represents
    (λ at. subst (λ (u : Unopened _ _). UnopenedHolds u L) c.in-Err-Unclosed.field-0-is
    (c.in-Err-Unclosed.ensures.fails_to_open L at))

pub returns-in-Err-Refused-clause-kept : goal.returns-in-Err-Refused-clause-kept
returns-in-Err-Refused-clause-kept g c L represents =
    refused_holds c.args.conn c.in-Err-Refused.error c.in-Err-Refused.left L represents
    (λ at. subst (λ (u : Unopened _ _). UnopenedHolds u L) c.in-Err-Refused.field-0-is
    (c.in-Err-Refused.ensures.fails_to_open L at))
