use Rattle.portal_tables_rows.proofs.Common.{Ok, subst, map, text_of, Writes}
use Rattle.portal_tables_rows.proofs.Compose.{with_issued}
use Rattle.portal_tables_rows.proofs.WritesLemmas.{writes_then}
use Rattle.portal_tables_rows.proofs.commands.apply_issue.Goals as goal

pub returns : goal.returns
returns g c =
    let two =
    subst (λ codes. Writes g.S.Store (with_issued c.args.c.now.batch.id (map text_of codes))
    c.insert_batch.new.tx c.insert_vouchers.new.tx (Ok tt))
    c.as_slice.ensures.value c.in_ok-insert_vouchers.ensures in
    writes_then g.S.Store (writes_then g.S.Store c.in_ok-insert_batch.ensures two) c.set_last_moment.ensures
