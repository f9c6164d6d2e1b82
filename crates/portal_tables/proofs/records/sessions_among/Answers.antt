use Rattle.portal_tables.proofs.Common.{Some, map, ap, sym, subst, ◌∙◌, take_all, session_of, IsRowOf}
use Rattle.portal_tables.proofs.Common.{SessionValue}
use Rattle.portal_tables_rows.proofs.Compose.{made_more}
use Rattle.portal_tables.proofs.records.sessions_among.Goals as goal

pub loop-row-preserved : goal.loop-row-preserved
loop-row-preserved c = λ h legal plans all.
    let row = c.row-item.result in
    let at = c.loop-row.row-index in
    let here = subst (IsRowOf h) (sym c.row-item.is) (all at row c.loop-row-test.true) in
    made_more Some (λ (r : SessionValue). session_of h r.number) c.loop-row.sessions.items
    c.push.new.self.items c.in_ok-session_among.field-0 c.args.rows.now at row
    (c.loop-row.invariant h legal plans all) c.in_ok-push.ensures.items c.loop-row-test.true c.row-item.is
    (c.in_ok-session_among.ensures h legal plans here)

pub returns : goal.returns
returns c = λ h legal plans all.
    c.loop-row.invariant h legal plans all ∙ ap (map (λ (r : SessionValue). session_of h r.number))
    (take_all c.loop-row.row-index c.args.rows.now c.loop-row-test.false)
