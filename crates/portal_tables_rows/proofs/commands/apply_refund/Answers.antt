use Rattle.portal_tables_rows.proofs.WritesLemmas.{writes_then}
use Rattle.portal_tables_rows.proofs.commands.apply_refund.Goals as goal

pub returns : goal.returns
returns g c = writes_then g.S.Store c.in_ok-set_refunded.ensures c.set_last_moment.ensures
