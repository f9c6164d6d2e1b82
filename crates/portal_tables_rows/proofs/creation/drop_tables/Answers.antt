use Rattle.portal_tables_rows.proofs.Common.{Ok, subst, get_or}
use Rattle.std.proofs.lemmas.List.{drop_more, at_drop_all}
use Rattle.portal_tables_sql.specs.declared.our_tables.OurTable.TheVariants as our
use Rattle.portal_tables_rows.proofs.DropSteps.{DropsInside, all_dropped, none_dropped, one_more_dropped}
use Rattle.portal_tables_rows.proofs.creation.drop_tables.Goals as goal

pub loop-table-init : goal.loop-table-init
loop-table-init g c = none_dropped g.S.Store c.args.tables.now c.args.tx.now

pub loop-table-preserved : goal.loop-table-preserved
loop-table-preserved g c =
    let tables = c.args.tables.now in
    let at = c.loop-table.table-index in
    let more = drop_more tables at our.Head c.loop-table-test.true in
    one_more_dropped g.S.Store tables (get_or tables at our.Head) _ c.drop_statement.ensures
    (subst (λ xs. DropsInside g.S.Store tables xs c.args.tx.now c.loop-table.tx (Ok tt)) more
    c.loop-table.invariant) c.in_ok-write.ensures

pub returns : goal.returns
returns g c = all_dropped g.S.Store c.args.tables.now
    (subst (λ xs. DropsInside g.S.Store c.args.tables.now xs c.args.tx.now c.loop-table.tx (Ok tt))
    (at_drop_all (λ xs. xs) c.args.tables.now c.loop-table.table-index c.loop-table-test.false)
    c.loop-table.invariant)
