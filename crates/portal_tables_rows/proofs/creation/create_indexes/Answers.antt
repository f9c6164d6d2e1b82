use Rattle.portal_tables_rows.proofs.Common.{Ok, sym, subst, get_or, take, take_all, take_more}
use Rattle.portal_tables_sql.specs.Inside.{Inside}
use Rattle.portal_tables_sql.specs.declared.our_indexes.OurIndex.TheVariants as by
use Rattle.portal_tables_rows.specs.Creation.{Indexes}
use Rattle.portal_tables_rows.proofs.Indexing.{none_indexed, one_more_indexed}
use Rattle.portal_tables_rows.proofs.creation.create_indexes.Goals as goal

pub loop-index-init : goal.loop-index-init
loop-index-init g c = none_indexed g.S.Store c.args.tx.now

pub loop-index-preserved : goal.loop-index-preserved
loop-index-preserved g c =
    let indexes = c.args.indexes.now in
    let at = c.loop-index.index-index in
    let more = take_more indexes at by.PlansById c.loop-index-test.true in
    subst (λ xs. Inside g.S.Store (Indexes xs) c.args.tx.now c.write.new.tx (Ok tt)) (sym more)
    (one_more_indexed g.S.Store (take at indexes) (get_or indexes at by.PlansById) c.create_statement.ensures
    c.loop-index.invariant c.in_ok-write.ensures)

pub returns : goal.returns
returns g c = subst (λ xs. Inside g.S.Store (Indexes xs) c.args.tx.now c.loop-index.tx (Ok tt))
    (take_all c.loop-index.index-index c.args.indexes.now c.loop-index-test.false) c.loop-index.invariant
