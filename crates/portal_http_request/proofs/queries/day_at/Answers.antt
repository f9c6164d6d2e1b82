use Rattle.portal_http_request.proofs.QueryLemmas.{no_day}
use Rattle.portal_http_request.proofs.queries.day_at.Goals as goal

pub returns-in-Ok-clause-none : goal.returns-in-Ok-clause-none
returns-in-Ok-clause-none c = λ none day is.
    no_day c.args.key.now c.args.query c.in_ok-query.field-0 c.in_ok-only_value.field-0 c.in-Ok.text
    c.only_value.result c.in_ok-query.was c.only_value.ensures
    c.in_ok-only_value.was c.in-Ok.ensures.cases.0 (c.read_day.ensures.none none) day is
