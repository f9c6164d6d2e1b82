use Rattle.portal_tables_rows.proofs.Common.{List, sym, ap, ◌∙◌, slice_get, Row, state, err_from_is_err_and}
use Rattle.portal_tables_rows.proofs.Common.{reads_fails}
use Rattle.sqlite.specs.Values.{bound}
use Rattle.portal_tables_sql.proofs.AskLemmas.{asks_looks}
use Rattle.portal_tables_sql.proofs.Causes.{taken_fails}
use Rattle.portal_tables_rows.proofs.Caused.{error_caused}
use Rattle.portal_tables_rows.proofs.queries.read_one.Goals as goal

pub returns-in_err-rows : goal.returns-in_err-rows
returns-in_err-rows g c =
    let told = err_from_is_err_and c.from_residual.result c.from_residual.ensures.1 in
    let looks = asks_looks c.args.sql.now (bound c.args.params.now) (state g.S.Store c.args.conn.now)
    (state g.S.Store c.query_all.new.self) (λ rows. rows.items) c.query_all.result c.query_all.ensures.ok
    c.query_all.ensures.err c.query_all.ensures.mode c.query_all.ensures.survives in
    record {
      rows = λ clean. rw told.1 tt;
      proper = rw told.1 tt;
      looks = rw told.1 (rw c.in_err-rows.was at looks);
      caused = λ clean taken owns. rw (told.1, told.2) (taken_fails c.args.sql.now (bound c.args.params.now)
          (state g.S.Store c.args.conn.now) (state g.S.Store c.query_all.new.self) _ taken
          (rw c.in_err-rows.was at (c.query_all.ensures.err clean)));
    }

pub returns-in_err-from_row-in-Some : goal.returns-in_err-from_row-in-Some
returns-in_err-from_row-in-Some g c =
    let told = err_from_is_err_and c.from_residual-in_err-from_row-in-Some.result
    c.from_residual-in_err-from_row-in-Some.ensures.1 in
    let looks = asks_looks c.args.sql.now (bound c.args.params.now) (state g.S.Store c.args.conn.now)
    (state g.S.Store c.query_all.new.self) (λ rows. rows.items) c.query_all.result c.query_all.ensures.ok
    c.query_all.ensures.err c.query_all.ensures.mode c.query_all.ensures.survives in
    let got =
    ap (λ (rows : List Row). slice_get rows 0) (sym c.deref.ensures.value) ∙ sym c.in-Some.ensures.value in
    record {
      rows = λ clean. rw told.1 tt;
      proper = rw told.1 tt;
      looks = rw told.1 (reads_fails _ _ _ (rw c.in_ok-rows.was at looks));
      caused = λ clean taken owns. let owned = owns _ (c.in_ok-rows.ensures.ok clean) c.in-Some.row.now got in
          rw (told.1, told.2) (error_caused (state g.S.Store c.args.conn.now)
          (state g.S.Store c.query_all.new.self) _
          (c.in_err-from_row-in-Some.ensures.own owned.0 owned.1));
    }

pub returns-in-Some : goal.returns-in-Some
returns-in-Some g c =
    let looks = asks_looks c.args.sql.now (bound c.args.params.now) (state g.S.Store c.args.conn.now)
    (state g.S.Store c.query_all.new.self) (λ rows. rows.items) c.query_all.result c.query_all.ensures.ok
    c.query_all.ensures.err c.query_all.ensures.mode c.query_all.ensures.survives in
    let got =
    ap (λ (rows : List Row). slice_get rows 0) (sym c.deref.ensures.value) ∙ sym c.in-Some.ensures.value in
    record {
      rows = λ clean. (
        c.in_ok-rows.rows.items,
        c.in_ok-rows.ensures.ok clean,
        (c.in-Some.row.now, got, c.in_ok-from_row-in-Some.ensures.cells),
      );
      proper = c.in_ok-from_row-in-Some.ensures.proper;
      looks = rw c.in_ok-rows.was at looks;
      caused = λ clean taken owns. tt;
    }

pub returns : goal.returns
returns g c =
    let looks = asks_looks c.args.sql.now (bound c.args.params.now) (state g.S.Store c.args.conn.now)
    (state g.S.Store c.query_all.new.self) (λ rows. rows.items) c.query_all.result c.query_all.ensures.ok
    c.query_all.ensures.err c.query_all.ensures.mode c.query_all.ensures.survives in
    let got =
    ap (λ (rows : List Row). slice_get rows 0) (sym c.deref.ensures.value) ∙ sym c.in-None.ensures.value in
    record {
      rows = λ clean. (c.in_ok-rows.rows.items, c.in_ok-rows.ensures.ok clean, got);
      proper = tt;
      looks = rw c.in_ok-rows.was at looks;
      caused = λ clean taken owns. tt;
    }
