use Rattle.portal_http_request.proofs.Common.{Refund, Desk, CodeOrder, GivesCommand, AsksForCommand}
use Rattle.portal_http_request.proofs.RouteLemmas.{let_in, ordered_by}
use Rattle.portal_http_request.proofs.routes.check_refunds.Goals as goal

pub returns-clause-checks : goal.returns-clause-checks
returns-clause-checks c = λ seed.
    let m = c.args.asked.now in
    let acted = ordered_by m Desk (GivesCommand CodeOrder Refund) c.body.result.now
    c.refund_command.result c.command_operation.result c.body.ensures c.refund_command.ensures.orders
    c.command_operation.ensures.checks in
    let_in c.args.settings.now.desk_token c.desk_token.result.now m
    (AsksForCommand m Desk (GivesCommand CodeOrder Refund m.body)) c.command_operation.result
    c.desk_token.ensures c.in_ok-require_token.ensures acted
