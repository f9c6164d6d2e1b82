use Rattle.portal_tables_rows.proofs.Common.{Ok, sym, subst, get_or, take, take_all, take_more}
use Rattle.portal_tables_sql.specs.Inside.{Inside}
use Rattle.portal_tables_sql.specs.declared.our_tables.OurTable.TheVariants as our
use Rattle.portal_tables_rows.specs.Creation.{Makes}
use Rattle.portal_tables_rows.proofs.MakeLemmas.{none_made, one_more_made}
use Rattle.portal_tables_rows.proofs.creation.create_tables.Goals as goal

pub loop-table-init : goal.loop-table-init
loop-table-init g c = none_made g.S.Store c.args.tx.now

pub loop-table-preserved : goal.loop-table-preserved
loop-table-preserved g c =
    let tables = c.args.tables.now in
    let at = c.loop-table.table-index in
    let more = take_more tables at our.Head c.loop-table-test.true in
    subst (λ xs. Inside g.S.Store (Makes xs) c.args.tx.now c.write.new.tx (Ok tt)) (sym more)
    (one_more_made g.S.Store (take at tables) (get_or tables at our.Head) c.create_statement.ensures
    c.loop-table.invariant c.in_ok-write.ensures)

pub returns : goal.returns
returns g c = subst (λ xs. Inside g.S.Store (Makes xs) c.args.tx.now c.loop-table.tx (Ok tt))
    (take_all c.loop-table.table-index c.args.tables.now c.loop-table-test.false) c.loop-table.invariant
