use Rattle.portal_tables_rows.proofs.Common.{take, Ok}
use Rattle.portal_tables_sql.specs.Inside.{Inside}
use Rattle.portal_tables_rows.specs.Creation.{Indexes}
use Rattle.portal_tables_rows.proofs.creation.create_indexes.Given as goal

abbrev pub invariant-loop-index : goal.invariant-loop-index
invariant-loop-index g l = Inside g.S.Store (Indexes (take l.index-index l.indexes)) l.fn.tx l.tx (Ok tt)
