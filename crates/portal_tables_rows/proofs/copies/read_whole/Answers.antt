use Rattle.portal_tables_rows.proofs.Common.{[], sym, subst, state, Schema, looks_weaker, Shown}
use Rattle.portal_tables_sql.proofs.AskLemmas.{asks_looks}
use Rattle.portal_tables_sql.specs.Asks.{Anything, Asks}
use Rattle.portal_tables_rows.proofs.CopySteps.{ok_weaker}
use Rattle.portal_tables_rows.proofs.WholeAsks.{whole_asked}
use Rattle.portal_tables_rows.proofs.WholeReading.{laid_out, whole_rows}
use Rattle.portal_tables_sql.specs.Copies.{table_copied}
use Rattle.portal_tables_rows.proofs.copies.read_whole.Goals as goal

pub returns-clause-rows : goal.returns-clause-rows
returns-clause-rows g c clean layout v indexes t h on = ok_weaker c.query_all.result
    (λ rows shown. whole_rows c.args.table layout (state g.S.Store c.args.conn.now)
    (state g.S.Store c.query_all.new.self) rows.items
    (subst (λ sql. Shown sql [] (state g.S.Store c.args.conn.now) (state g.S.Store c.query_all.new.self)
    rows.items)
    c.select_statement.ensures shown) (h.places (table_copied c.args.table))
    (h.tables_exist.tables (table_copied c.args.table) (on, laid_out c.args.table layout)).exists t
    (h.store (table_copied c.args.table) (on, laid_out c.args.table layout))) (c.query_all.ensures.ok clean)

pub returns-clause-looks : goal.returns-clause-looks
returns-clause-looks g c =
    let sql = c.select_statement.result.now in
    let asks : (schema : Schema) → Asks sql schema =
    subst (λ text. (schema : Schema) → Asks text schema) (sym c.select_statement.ensures)
    (whole_asked c.args.table) in
    looks_weaker (Asks sql) Anything (λ schema any. asks schema) c.query_all.result _ _
    (asks_looks sql [] (state g.S.Store c.args.conn.now) (state g.S.Store c.query_all.new.self)
    (λ rows. rows.items) c.query_all.result c.query_all.ensures.ok c.query_all.ensures.err
    c.query_all.ensures.mode c.query_all.ensures.survives)
