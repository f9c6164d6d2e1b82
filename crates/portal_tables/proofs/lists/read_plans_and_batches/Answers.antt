use Rattle.portal_tables.proofs.Common.{fails_weaker, reads_weaker, HasFirst, HasTables, first_there}
use Rattle.portal_tables.proofs.ShownLemmas.{next_fails, of_first, of_rows, read_fails, shown_as, shown_then}
use Rattle.portal_tables.proofs.lists.read_plans_and_batches.Goals as goal

pub returns-in_err-plans : goal.returns-in_err-plans
returns-in_err-plans g c = read_fails g.S.Store _ c.from_residual.result c.from_residual.ensures.1
    (fails_weaker HasFirst HasTables first_there _ _ c.in_err-plans.ensures.looks)

pub returns-in_err-batches : goal.returns-in_err-batches
returns-in_err-batches g c =
    next_fails g.S.Store _ c.from_residual-in_err-batches.result c.from_residual-in_err-batches.ensures.1
    (reads_weaker HasFirst HasTables first_there _ _ c.in_ok-plans.ensures.looks)
    c.in_err-batches.ensures.looks

pub returns : goal.returns
returns g c = shown_as g.S.Store (λ h legal is. (is.0.1, is.1.1)) (shown_then g.S.Store
    (of_first g.S.Store c.in_ok-plans.ensures) (of_rows g.S.Store c.in_ok-batches.ensures))
