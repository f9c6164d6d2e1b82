use Rattle.portal_tables_rows.proofs.Common.{◌≡◌, ◌-◌, ◌^◌, All, length, state}
use Rattle.sqlite.specs.Values.{bound}
use Rattle.portal_tables_sql.proofs.Streaming.{ReadsOn}
use Rattle.portal_tables_rows.proofs.queries.read_many.Given as goal

abbrev pub invariant-rows : goal.invariant-rows
invariant-rows g l = record {
  lender : l.rows.conn.ghost_name ≡ l.initial.rows.conn.ghost_name;
  proper : All g.T.FromRow.proper l.values.items;
  reads : ReadsOn g.S.Store l.sql (bound l.params) g.T.FromRow.cells g.T.FromRow.width
      (state g.S.Store l.fn.conn) l.rows.conn.now l.values.items;
  count : length l.values.items ≡ l.counter;
}

abbrev pub decreases-rows : goal.decreases-rows
decreases-rows g l = 2 ^ 64 - l.counter
