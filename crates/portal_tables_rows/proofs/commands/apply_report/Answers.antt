use Rattle.portal_tables_rows.proofs.Common.{Ok, subst, total_row, Writes, with_use}
use Rattle.portal_model.specs.declared.record.Session.{Session}
use Rattle.portal_tables_rows.specs.Commands.{after_remainder}
use Rattle.portal_tables_rows.proofs.WritesLemmas.{writes_then}
use Rattle.portal_tables_rows.proofs.commands.apply_report.Goals as goal

pub returns : goal.returns
returns g c =
    let one = subst (λ (s : Session). Writes g.S.Store (with_use s.number s.used) c.args.tx.now
    c.set_used.new.tx (Ok tt)) c.after-after.ensures c.in_ok-set_used.ensures in
    let two = subst (λ (s : Session). Writes g.S.Store (after_remainder s.allowance (total_row s))
    c.set_used.new.tx c.set_remaining.new.tx (Ok tt)) c.after-after.ensures c.in_ok-set_remaining.ensures in
    writes_then g.S.Store (writes_then g.S.Store one two) c.set_last_moment.ensures
