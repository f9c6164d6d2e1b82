use Rattle.sqlite.specs.Held.{state}
use Rattle.portal_tables_rows.proofs.HeadVersion.{asked_answers, asked_refused, asked_undone, commits_nothing}
use Rattle.portal_tables_rows.proofs.schema_versions.select_schema_version.Goals as goal

pub returns-clause-answers : goal.returns-clause-answers
returns-clause-answers g c clean =
    asked_answers (state g.S.Store c.args.conn.now) (state g.S.Store c.query_all.new.self)
    (λ rows. rows.items) c.query_all.result (c.query_all.ensures.ok clean)

pub returns-clause-is_no_query : goal.returns-clause-is_no_query
returns-clause-is_no_query g c clean = asked_refused (state g.S.Store c.args.conn.now)
    (state g.S.Store c.query_all.new.self) c.query_all.result (c.query_all.ensures.err clean)

pub returns-clause-undone : goal.returns-clause-undone
returns-clause-undone g c clean outside settled = asked_undone (state g.S.Store c.args.conn.now)
    (state g.S.Store c.query_all.new.self) c.query_all.result outside settled (c.query_all.ensures.err clean)

pub returns-clause-crash : goal.returns-clause-crash
returns-clause-crash g c = commits_nothing (state g.S.Store c.args.conn.now)
    (state g.S.Store c.query_all.new.self) c.query_all.ensures.survives
