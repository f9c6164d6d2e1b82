use Rattle.portal_http_request.proofs.Common.{Close, Desk, Exactly, IsCloseOrder, GivesCommand}
use Rattle.portal_http_request.proofs.Common.{AsksForCommand}
use Rattle.portal_http_request.proofs.RouteLemmas.{let_in, ordered_by}
use Rattle.portal_http_request.proofs.routes.check_closes.Goals as goal

pub returns-clause-checks : goal.returns-clause-checks
returns-clause-checks c = λ seed.
    let m = c.args.asked.now in
    let acted = ordered_by m Desk (GivesCommand (λ value. Exactly (IsCloseOrder value)) Close)
    c.body.result.now c.close_command.result c.command_operation.result c.body.ensures
    c.close_command.ensures.orders c.command_operation.ensures.checks in
    let_in c.args.settings.now.desk_token c.desk_token.result.now m
    (AsksForCommand m Desk (GivesCommand (λ value. Exactly (IsCloseOrder value)) Close m.body))
    c.command_operation.result c.desk_token.ensures c.in_ok-require_token.ensures acted
