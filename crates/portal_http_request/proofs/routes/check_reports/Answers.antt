use Rattle.portal_http_request.proofs.Common.{Report, Gateway, Exactly, IsReportOrder, GivesCommand}
use Rattle.portal_http_request.proofs.Common.{AsksForCommand}
use Rattle.portal_http_request.proofs.RouteLemmas.{let_in, ordered_by}
use Rattle.portal_http_request.proofs.routes.check_reports.Goals as goal

pub returns-clause-checks : goal.returns-clause-checks
returns-clause-checks c = λ seed.
    let m = c.args.asked.now in
    let acted = ordered_by m Gateway (GivesCommand (λ value. Exactly (IsReportOrder value)) (λ order.
    Report order.session order.bytes)) c.body.result.now c.report_command.result c.command_operation.result
    c.body.ensures c.report_command.ensures.orders c.command_operation.ensures.checks in
    let_in c.args.settings.now.gateway_token c.gateway_token.result.now m
    (AsksForCommand m Gateway (GivesCommand (λ value. Exactly (IsReportOrder value))
    (λ order. Report order.session order.bytes) m.body))
    c.command_operation.result c.gateway_token.ensures c.in_ok-require_token.ensures acted
