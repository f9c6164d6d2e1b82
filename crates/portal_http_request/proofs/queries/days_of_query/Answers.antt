use Rattle.std.specs.Prelude.{option_map}
use Rattle.portal_http_request.proofs.QueryLemmas.{no_days, not_there}
use Rattle.portal_http_request.proofs.queries.days_of_query.Goals as goal

pub returns-in_err-from-clause-none : goal.returns-in_err-from-clause-none
returns-in_err-from-clause-none c =
    λ none range is. c.day_at.ensures.none c.in_err-from.was range.first is.from

pub returns-in_err-to-clause-none : goal.returns-in_err-to-clause-none
returns-in_err-to-clause-none c = λ none range is. c.day_at-2.ensures.none c.in_err-to.was range.last is.to

pub returns-clause-none : goal.returns-clause-none
returns-clause-none c = λ none range is.
    no_days (option_map (λ q. q.now) c.args.query) c.in_ok-from.from c.in_ok-to.to
    c.in_ok-from.ensures.some c.in_ok-to.ensures.some
    (λ span. not_there c.new.result none (c.new.ensures.accepts.1 span)) range is
