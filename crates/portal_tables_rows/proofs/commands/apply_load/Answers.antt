use Rattle.portal_tables_rows.proofs.Common.{Ok, subst, Writes, with_plans}
use Rattle.portal_tables_rows.proofs.WritesLemmas.{writes_then}
use Rattle.portal_tables_rows.proofs.commands.apply_load.Goals as goal

pub returns : goal.returns
returns g c =
    writes_then g.S.Store
    (subst (λ ps. Writes g.S.Store (with_plans ps) c.args.tx.now c.insert_plans.new.tx (Ok tt))
    c.as_slice.ensures c.in_ok-insert_plans.ensures) c.set_last_moment.ensures
