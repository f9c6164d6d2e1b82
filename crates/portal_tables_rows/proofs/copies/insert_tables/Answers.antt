use Rattle.portal_tables_rows.proofs.Common.{Ok, List, Row, sym, subst, take, take_all, map}
use Rattle.portal_tables_sql.specs.Inside.{Inside}
use Rattle.portal_tables_sql.specs.declared.copied_tables.CopiedTable.{CopiedTable}
use Rattle.portal_tables_rows.specs.Copying.{Adds, AddsRows, AddsTables, table_read}
use Rattle.portal_tables_rows.proofs.CopySteps.{none_added, one_more_added}
use Rattle.portal_tables_rows.proofs.Compose.{more_mapped}
use Rattle.portal_tables_rows.proofs.copies.insert_tables.Goals as goal

pub loop-whole-init : goal.loop-whole-init
loop-whole-init g c = none_added g.S.Store (λ (w : CopiedTable × List Row). AddsRows w.0 w.1) c.args.tx.now

pub loop-whole-preserved : goal.loop-whole-preserved
loop-whole-preserved g c =
    let read = c.args.read.now in
    let at = c.loop-whole.whole-index in
    let more = more_mapped table_read read at c.whole-item.result c.loop-whole-test.true c.whole-item.is in
    subst (λ xs. Inside g.S.Store (Adds (AddsTables xs)) c.args.tx.now c.insert_rows.new.tx (Ok tt))
    (sym more)
    (one_more_added g.S.Store (λ (w : CopiedTable × List Row). AddsRows w.0 w.1)
    (map table_read (take at read))
    (table_read c.whole-item.result) c.loop-whole.invariant
    (subst (λ rows. Inside g.S.Store (Adds (AddsRows c.whole-item.result.table rows)) c.loop-whole.tx
    c.insert_rows.new.tx (Ok tt)) c.as_slice.ensures.value c.in_ok-insert_rows.ensures))

pub returns : goal.returns
returns g c =
    subst (λ xs. Inside g.S.Store (Adds (AddsTables (map table_read xs))) c.args.tx.now c.loop-whole.tx
    (Ok tt))
    (take_all c.loop-whole.whole-index c.args.read.now c.loop-whole-test.false) c.loop-whole.invariant
