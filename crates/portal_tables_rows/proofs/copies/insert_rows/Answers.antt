use Rattle.portal_tables_rows.proofs.Common.{Ok, sym, subst, take, take_all}
use Rattle.portal_tables_rows.proofs.Compose.{more_items}
use Rattle.portal_tables_sql.specs.Inside.{Inside}
use Rattle.portal_tables_rows.specs.Copying.{Adds, AddsRow, AddsRows}
use Rattle.portal_tables_rows.proofs.CopySteps.{none_added, one_more_added}
use Rattle.portal_tables_rows.proofs.copies.insert_rows.Goals as goal

pub loop-row-init : goal.loop-row-init
loop-row-init g c = none_added g.S.Store (AddsRow c.args.table) c.args.tx.now

pub loop-row-preserved : goal.loop-row-preserved
loop-row-preserved g c =
    let rows = c.args.rows.now in
    let at = c.loop-row.row-index in
    let more = more_items rows at c.row-item.result c.loop-row-test.true c.row-item.is in
    subst (λ xs. Inside g.S.Store (Adds (AddsRows c.args.table xs)) c.args.tx.now c.insert_row.new.tx (Ok tt))
    (sym more) (one_more_added g.S.Store (AddsRow c.args.table) (take at rows) c.row-item.result
    c.loop-row.invariant c.in_ok-insert_row.ensures)

pub returns : goal.returns
returns g c =
    subst (λ xs. Inside g.S.Store (Adds (AddsRows c.args.table xs)) c.args.tx.now c.loop-row.tx (Ok tt))
    (take_all c.loop-row.row-index c.args.rows.now c.loop-row-test.false) c.loop-row.invariant
