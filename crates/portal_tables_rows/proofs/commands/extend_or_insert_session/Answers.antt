use Rattle.portal_tables_rows.proofs.Common.{ℤ, Option, ap, subst, TotalRow, Writes, opened_whole}
use Rattle.portal_tables_rows.proofs.Common.{with_whole_session}
use Rattle.portal_tables_rows.proofs.commands.extend_or_insert_session.Goals as goal

pub returns-in-None : goal.returns-in-None
returns-in-None g c =
    let r = c.args.c.now in
    rw c.in-None.is (subst (λ (left : Option ℤ). Writes g.S.Store
    (with_whole_session (opened_whole r.session r.voucher.plan.id left)) c.args.tx.now c.insert_session.new.tx
    c.insert_session.result) (ap (λ (m : TotalRow). m.remaining) c.in_ok-total.ensures)
    c.insert_session.ensures)
