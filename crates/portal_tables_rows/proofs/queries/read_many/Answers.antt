use Rattle.portal_tables_rows.proofs.Common.{refl, ◌∙◌, All-push, arith, rules, err_from_is_err_and, state}
use Rattle.portal_tables_rows.proofs.Common.{HasCleanDisk}
use Rattle.portal_tables_rows.proofs.Common.{looks_read}
use Rattle.sqlite.specs.Values.{bound}
use Rattle.portal_tables_sql.specs.Asks.{Asks}
use Rattle.portal_tables_sql.specs.Looks.{Looks}
use Rattle.portal_tables_sql.proofs.Streaming.{begins_reading, caused_on, caused_refused, fails_refused}
use Rattle.portal_tables_sql.proofs.Streaming.{fails_on, own_row, reads_all}
use Rattle.portal_tables_sql.proofs.Causes.{taken_simple}
use Rattle.portal_tables_rows.proofs.Caused.{error_caused, error_of_store}
use Rattle.portal_tables_rows.proofs.Common.{ap, inl, length}
use Rattle.portal_tables_rows.specs.Foreign.{IsOwnRow}
use Rattle.portal_tables_sql.proofs.Streaming.{reads_row, reads_value}
use Rattle.portal_tables_rows.proofs.queries.read_many.Goals as goal

pub returns-in_err-rows-clause-reads : goal.returns-in_err-rows-clause-reads
returns-in_err-rows-clause-reads g c =
    let told = err_from_is_err_and c.from_residual.result c.from_residual.ensures.1 in
    record {
      rows = λ clean asks. rw told.1 tt;
      looks = rw told.1 (fails_refused g.S.Store c.args.sql.now (bound c.args.params.now) c.args.conn.now
          c.query.follows.lender-at-none c.query.result _ c.in_err-rows.was c.query.follows.holds-at-none);
      own = λ clean simple own. rw (told.1, told.2) tt;
      caused = λ clean taken own. rw (told.1, told.2) (caused_refused g.S.Store c.args.sql.now
          (bound c.args.params.now) c.args.conn.now c.query.follows.lender-at-none c.query.result _
          c.in_err-rows.was c.query.follows.holds-at-none clean taken);
    }

pub rows-init : goal.rows-init
rows-init g c =
    let made = c.in_ok-rows.ensures in
    record {
      lender = refl;
      proper = rw c.new-values.ensures.items (λ k d within. absurd (omega arith));
      reads = begins_reading g.S.Store c.args.sql.now (bound c.args.params.now) g.T.FromRow.cells
          g.T.FromRow.width c.args.conn.now _ made.begun made.survives c.new-values.result.items
          c.new-values.ensures.items;
      count = ap length c.new-values.ensures.items;
    }

pub rows-preserved : goal.rows-preserved
rows-preserved g c =
    let moved = c.next.follows.holds-at-none in
    record {
      lender = moved.same_reference ∙ c.rows.invariant.lender;
      proper = rw c.in_ok-push.ensures.items (All-push g.T.FromRow.proper c.rows.values.items
          c.in_ok-from_row.field-0 c.rows.invariant.proper c.in_ok-from_row.ensures.proper);
      reads = reads_value g.S.Store c.args.sql.now (bound c.args.params.now) g.T.FromRow.cells
          g.T.FromRow.width (state g.S.Store c.args.conn.now) c.rows.rows c.next.follows.lender-at-none
          c.rows.values.items c.rows.invariant.reads c.next.result c.next.follows.holds-at-none c.in-Some.row
          (rw c.in-Some.is at c.in_ok-row.was) c.in_ok-from_row.field-0 c.in_ok-from_row.ensures.cells
          c.push.new.self.items c.in_ok-push.ensures.items;
      count = search rules;
    }

pub returns-in_err-row-clause-reads : goal.returns-in_err-row-clause-reads
returns-in_err-row-clause-reads g c =
    let told = err_from_is_err_and c.from_residual-in_err-row.result c.from_residual-in_err-row.ensures.1 in
    let failed =
    fails_on g.S.Store c.args.sql.now (bound c.args.params.now) g.T.FromRow.cells g.T.FromRow.width
    (state g.S.Store c.args.conn.now) c.rows.rows c.next.follows.lender-at-none c.rows.values.items
    c.rows.invariant.reads c.next.result c.next.follows.holds-at-none _ c.in_err-row.was in
    let looks : Looks (Asks c.args.sql.now) c.from_residual-in_err-row.result (state g.S.Store
    c.args.conn.now) (state g.S.Store c.next.follows.lender-at-none.conn.now) = rw told.1 failed in
    record {
      rows = λ clean asks. rw told.1 tt;
      looks = search rules;
      own = λ clean simple own. rw (told.1, told.2) tt;
      caused = λ clean taken own.
          let late : HasCleanDisk (state g.S.Store c.next.follows.lender-at-none.conn.now) = search rules in
          let caused = caused_on g.S.Store c.args.sql.now (bound c.args.params.now) g.T.FromRow.cells
          g.T.FromRow.width (state g.S.Store c.args.conn.now) c.rows.rows c.next.follows.lender-at-none
          c.rows.values.items c.rows.invariant.reads c.next.result c.next.follows.holds-at-none _
          c.in_err-row.was late taken in
          rw (told.1, told.2) (search rules);
    }

pub returns-in_default-clause-reads : goal.returns-in_default-clause-reads
returns-in_default-clause-reads g c =
    let read = reads_row g.S.Store c.args.sql.now (bound c.args.params.now) g.T.FromRow.cells
    g.T.FromRow.width (state g.S.Store c.args.conn.now) c.rows.rows c.next.follows.lender-at-none
    c.rows.values.items c.rows.invariant.reads c.next.result c.next.follows.holds-at-none _ c.in_ok-row.was in
    record {
      rows = λ clean asks.
          let late : HasCleanDisk (state g.S.Store c.next.follows.lender-at-none.conn.now) = search rules in
          let all = reads_all g.S.Store c.args.sql.now (bound c.args.params.now) g.T.FromRow.cells
          g.T.FromRow.width (state g.S.Store c.args.conn.now) c.rows.rows c.next.follows.lender-at-none
          c.rows.values.items c.rows.invariant.reads c.next.result c.next.follows.holds-at-none
          (rw c.in_default.is at c.in_ok-row.was) late asks in
          search rules;
      looks = search rules;
      own = λ clean simple own. tt;
      caused = λ clean taken own. tt;
    }

pub returns-in_err-from_row-clause-reads : goal.returns-in_err-from_row-clause-reads
returns-in_err-from_row-clause-reads g c =
    let told =
    err_from_is_err_and c.from_residual-in_err-from_row.result c.from_residual-in_err-from_row.ensures.1 in
    let read = reads_row g.S.Store c.args.sql.now (bound c.args.params.now) g.T.FromRow.cells
    g.T.FromRow.width (state g.S.Store c.args.conn.now) c.rows.rows c.next.follows.lender-at-none
    c.rows.values.items c.rows.invariant.reads c.next.result c.next.follows.holds-at-none _ c.in_ok-row.was in
    let looks = looks_read (Asks c.args.sql.now) c.from_residual-in_err-from_row.result _ _ read in
    record {
      rows = λ clean asks. rw told.1 tt;
      looks = search rules;
      own = λ clean simple own.
          let late : HasCleanDisk (state g.S.Store c.next.follows.lender-at-none.conn.now) = search rules in
          let owned = own_row g.S.Store c.args.sql.now (bound c.args.params.now) g.T.FromRow.cells
          g.T.FromRow.width (state g.S.Store c.args.conn.now) c.rows.rows c.next.follows.lender-at-none
          c.rows.values.items c.rows.invariant.reads c.next.result c.next.follows.holds-at-none
          (IsOwnRow g.T.FromRow.own g.T.FromRow.width) c.in-Some.row
          (rw c.in-Some.is at c.in_ok-row.was) late simple (λ rows shown. own rows (search rules)) in
          rw (
            told.1,
            told.2,
          ) (error_of_store _ (c.in_err-from_row.ensures.own owned.0 owned.1));
      caused = λ clean taken own.
          let late : HasCleanDisk (state g.S.Store c.next.follows.lender-at-none.conn.now) = search rules in
          let simple = taken_simple c.args.sql.now (bound c.args.params.now) _ taken in
          let owned = own_row g.S.Store c.args.sql.now (bound c.args.params.now) g.T.FromRow.cells
          g.T.FromRow.width (state g.S.Store c.args.conn.now) c.rows.rows c.next.follows.lender-at-none
          c.rows.values.items c.rows.invariant.reads c.next.result c.next.follows.holds-at-none
          (IsOwnRow g.T.FromRow.own g.T.FromRow.width) c.in-Some.row
          (rw c.in-Some.is at c.in_ok-row.was) late simple (λ rows shown. own rows (search rules)) in
          let caused = error_caused (state g.S.Store c.args.conn.now)
          (state g.S.Store c.next.follows.lender-at-none.conn.now) _
          (c.in_err-from_row.ensures.own owned.0 owned.1) in
          rw (told.1, told.2) (search rules);
    }

pub returns-in_err-push-clause-reads : goal.returns-in_err-push-clause-reads
returns-in_err-push-clause-reads g c =
    let told = err_from_is_err_and c.from_residual-in_err-push.result c.from_residual-in_err-push.ensures.1 in
    let read = reads_row g.S.Store c.args.sql.now (bound c.args.params.now) g.T.FromRow.cells
    g.T.FromRow.width (state g.S.Store c.args.conn.now) c.rows.rows c.next.follows.lender-at-none
    c.rows.values.items c.rows.invariant.reads c.next.result c.next.follows.holds-at-none _ c.in_ok-row.was in
    let looks = looks_read (Asks c.args.sql.now) c.from_residual-in_err-push.result _ _ read in
    record {
      rows = λ clean asks. rw told.1 tt;
      looks = search rules;
      own = λ clean simple own. rw (told.1, told.2) tt;
      caused = λ clean taken own. rw (told.1, told.2) (inl refl);
    }
