use Rattle.portal_tables_rows.proofs.Common.{◌≡◌, map, take, columns}
use Rattle.portal_tables_rows.proofs.queries.read_table.Given as goal

abbrev pub invariant-loop-row : goal.invariant-loop-row
invariant-loop-row g l =
    map g.T.FromRow.cells l.values.items ≡ map (columns g.T.FromRow.width) (take l.row-index l.row-items)
