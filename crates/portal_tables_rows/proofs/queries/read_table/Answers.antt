use Rattle.portal_tables_rows.proofs.Common.{List, [], map, ap, subst, ◌∙◌, take_all, Row, Has, state}
use Rattle.portal_tables_rows.proofs.Common.{columns, err_from_is_err_and, reads_fails}
use Rattle.sqlite_rules.proofs.ListLemmas.{has_at}
use Rattle.portal_tables_sql.proofs.AskLemmas.{asks_looks}
use Rattle.portal_tables_sql.proofs.Causes.{taken_fails}
use Rattle.portal_tables_rows.proofs.Caused.{error_caused, error_of_store}
use Rattle.portal_tables_rows.proofs.Common.{AreOwn, HasCleanDisk, Shown, inl, refl}
use Rattle.portal_tables_rows.specs.Foreign.{IsOwnRow}
use Rattle.portal_tables_rows.proofs.Compose.{made_more}
use Rattle.portal_tables_rows.proofs.queries.read_table.Goals as goal

pub returns-in_err-rows : goal.returns-in_err-rows
returns-in_err-rows g c =
    let told = err_from_is_err_and c.from_residual.result c.from_residual.ensures.1 in
    let looks = asks_looks c.args.sql.now [] (state g.S.Store c.args.conn.now)
    (state g.S.Store c.query_all.new.self) (λ rows. rows.items) c.query_all.result c.query_all.ensures.ok
    c.query_all.ensures.err c.query_all.ensures.mode c.query_all.ensures.survives in
    record {
      rows = λ clean asks. rw told.1 tt;
      looks = rw told.1 (rw c.in_err-rows.was at looks);
      own = λ clean simple own. rw (told.1, told.2) tt;
      caused = λ clean taken own. rw (told.1, told.2) (taken_fails c.args.sql.now []
          (state g.S.Store c.args.conn.now) (state g.S.Store c.query_all.new.self) _ taken
          (rw c.in_err-rows.was at (c.query_all.ensures.err clean)));
    }

pub loop-row-preserved : goal.loop-row-preserved
loop-row-preserved g c =
    made_more g.T.FromRow.cells (columns g.T.FromRow.width) c.loop-row.values.items c.push.new.self.items
    c.in_ok-from_row.field-0 c.as_slice-row-items.result.now c.loop-row.row-index c.row-item.result
    c.loop-row.invariant c.in_ok-push.ensures.items c.loop-row-test.true c.row-item.is
    c.in_ok-from_row.ensures.cells

pub returns : goal.returns
returns g c =
    let looks = asks_looks c.args.sql.now [] (state g.S.Store c.args.conn.now)
    (state g.S.Store c.query_all.new.self) (λ rows. rows.items) c.query_all.result c.query_all.ensures.ok
    c.query_all.ensures.err c.query_all.ensures.mode c.query_all.ensures.survives in
    record {
      rows = λ clean asks. record {
        rows = c.in_ok-rows.rows.items;
        shown = c.in_ok-rows.ensures.ok clean;
        are = c.loop-row.invariant ∙ ap (map (columns g.T.FromRow.width)) (take_all c.loop-row.row-index
            c.as_slice-row-items.result.now c.loop-row-test.false ∙ c.as_slice-row-items.ensures.value);
      };
      looks = rw c.in_ok-rows.was at looks;
      own = λ clean simple own. tt;
      caused = λ clean taken own. tt;
    }

pub returns-in_err-from_row : goal.returns-in_err-from_row
returns-in_err-from_row g c =
    let told =
    err_from_is_err_and c.from_residual-in_err-from_row.result c.from_residual-in_err-from_row.ensures.1 in
    let looks = asks_looks c.args.sql.now [] (state g.S.Store c.args.conn.now)
    (state g.S.Store c.query_all.new.self) (λ rows. rows.items) c.query_all.result c.query_all.ensures.ok
    c.query_all.ensures.err c.query_all.ensures.mode c.query_all.ensures.survives in
    let has = subst (λ (rows : List Row). Has rows c.row-item.result) c.as_slice-row-items.ensures.value
    (has_at c.as_slice-row-items.result.now c.loop-row.row-index c.row-item.result
    c.loop-row-test.true c.row-item.is) in
    let owned_of : HasCleanDisk (state g.S.Store c.query_all.new.self) → ((rows : List Row)
    → Shown c.args.sql.now [] (state g.S.Store c.args.conn.now) (state g.S.Store c.query_all.new.self) rows
    → AreOwn (IsOwnRow g.T.FromRow.own g.T.FromRow.width) rows)
    → IsOwnRow g.T.FromRow.own g.T.FromRow.width c.row-item.result =
    λ clean own. own c.in_ok-rows.rows.items (c.in_ok-rows.ensures.ok clean) c.row-item.result has in
    record {
      rows = λ clean asks. rw told.1 tt;
      looks = rw told.1 (reads_fails _ _ _ (rw c.in_ok-rows.was at looks));
      own = λ clean simple own. let owned = owned_of clean own in rw (told.1, told.2)
          (error_of_store _ (c.in_err-from_row.ensures.own owned.0 owned.1));
      caused = λ clean taken own. let owned = owned_of clean own in rw (told.1, told.2)
          (error_caused (state g.S.Store c.args.conn.now) (state g.S.Store c.query_all.new.self) _
          (c.in_err-from_row.ensures.own owned.0 owned.1));
    }

pub returns-in_err-push : goal.returns-in_err-push
returns-in_err-push g c =
    let told = err_from_is_err_and c.from_residual-in_err-push.result c.from_residual-in_err-push.ensures.1 in
    let looks = asks_looks c.args.sql.now [] (state g.S.Store c.args.conn.now)
    (state g.S.Store c.query_all.new.self) (λ rows. rows.items) c.query_all.result c.query_all.ensures.ok
    c.query_all.ensures.err c.query_all.ensures.mode c.query_all.ensures.survives in
    record {
      rows = λ clean asks. rw told.1 tt;
      looks = rw told.1 (reads_fails _ _ _ (rw c.in_ok-rows.was at looks));
      own = λ clean simple own. rw (told.1, told.2) tt;
      caused = λ clean taken own. rw (told.1, told.2) (inl refl);
    }
