use Rattle.portal_tables_rows.proofs.Common.{Some, sym, subst, err_from_is_err_and, RequestRow}
use Rattle.portal_tables_rows.proofs.Common.{text_of_caller, Finds, key_of}
use Rattle.portal_tables_rows.proofs.ManyValues.{row_fails, row_made}
use Rattle.portal_tables_rows.proofs.RequestReading.{reads_request}
use Rattle.portal_tables_rows.proofs.requests.read_request_row.Goals as goal

pub returns-in_err-found-clause-reads : goal.returns-in_err-found-clause-reads
returns-in_err-found-clause-reads g c =
    row_fails g.S.Store c.from_residual.result c.from_residual.ensures.1
    (reads_request g.S.Store (text_of_caller c.args.caller.now) c.args.number.now (rw (
      c.params-to_sql.ensures,
      c.params-to_sql-2.ensures,
      c.as_bytes.ensures,
      c.of-text.ensures.text,
      c.text.ensures.value,
    ) at c.in_err-found.ensures))

pub returns-in_err-parse_kept_request-in-Some-clause-reads :
    goal.returns-in_err-parse_kept_request-in-Some-clause-reads
returns-in_err-parse_kept_request-in-Some-clause-reads g c =
    let told = err_from_is_err_and c.from_residual-in_err-parse_kept_request-in-Some.result
    c.from_residual-in_err-parse_kept_request-in-Some.ensures.1 in
    row_made g.S.Store c.from_residual-in_err-parse_kept_request-in-Some.result
    (reads_request g.S.Store (text_of_caller c.args.caller.now) c.args.number.now (rw (
      c.params-to_sql.ensures,
      c.params-to_sql-2.ensures,
      c.as_bytes.ensures,
      c.of-text.ensures.text,
      c.text.ensures.value,
    ) at c.in_ok-found.ensures))
    (λ t is. rw told.1 tt)
    (λ t is own. let found = rw (c.in-Some.is) at is in
    rw (told.1, told.2) (c.in_err-parse_kept_request-in-Some.ensures.own (own _ found.0)))

pub returns-in_ok-parse_kept_request-in-Some-clause-reads :
    goal.returns-in_ok-parse_kept_request-in-Some-clause-reads
returns-in_ok-parse_kept_request-in-Some-clause-reads g c =
    row_made g.S.Store _
    (reads_request g.S.Store (text_of_caller c.args.caller.now) c.args.number.now (rw (
      c.params-to_sql.ensures,
      c.params-to_sql-2.ensures,
      c.as_bytes.ensures,
      c.of-text.ensures.text,
      c.text.ensures.value,
    ) at c.in_ok-found.ensures))
    (λ t is. subst (λ (r : RequestRow). Finds key_of (
      text_of_caller c.args.caller.now,
      c.args.number.now,
    ) t.requests (Some r)) (sym c.in_ok-parse_kept_request-in-Some.ensures.row) (rw c.in-Some.is at is))
    (λ t is own. tt)

pub returns-in-None-clause-reads : goal.returns-in-None-clause-reads
returns-in-None-clause-reads g c =
    row_made g.S.Store _
    (reads_request g.S.Store (text_of_caller c.args.caller.now) c.args.number.now (rw (
      c.params-to_sql.ensures,
      c.params-to_sql-2.ensures,
      c.as_bytes.ensures,
      c.of-text.ensures.text,
      c.text.ensures.value,
    ) at c.in_ok-found.ensures))
    (λ t is. rw c.in-None.is at is)
    (λ t is own. tt)
