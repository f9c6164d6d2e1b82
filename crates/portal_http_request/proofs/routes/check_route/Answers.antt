use Rattle.std.proofs.Common.{inr}
use Rattle.portal_http_routes.specs.declared.Route.TheVariants as route
use Rattle.portal_http_request.proofs.RouteLemmas.{at_route}
use Rattle.portal_http_request.proofs.routes.check_route.Goals as goal

pub returns-in-Captive-clause-checks : goal.returns-in-Captive-clause-checks
returns-in-Captive-clause-checks c = at_route c.args.settings.now c.args.seed
    c.args.asked.now c.args.route route.Captive c.check_captive.result c.in-Captive.is
    (inr (c.check_captive.ensures.checks c.args.settings.now c.args.seed))

pub returns-in-Redeem-clause-checks : goal.returns-in-Redeem-clause-checks
returns-in-Redeem-clause-checks c =
    at_route c.args.settings.now c.args.seed c.args.asked.now c.args.route route.Redeem c.check_redeem.result
    c.in-Redeem.is (c.check_redeem.ensures.checks c.args.settings.now c.args.seed)

pub returns-in-Plans-clause-checks : goal.returns-in-Plans-clause-checks
returns-in-Plans-clause-checks c = at_route c.args.settings.now c.args.seed c.args.asked.now c.args.route
    route.Plans c.check_plans.result c.in-Plans.is (c.check_plans.ensures.checks c.args.seed)

pub returns-in-Print-clause-checks : goal.returns-in-Print-clause-checks
returns-in-Print-clause-checks c = at_route c.args.settings.now c.args.seed c.args.asked.now c.args.route
    route.Print c.check_print.result c.in-Print.is (inr (c.check_print.ensures.checks c.args.seed))

pub returns-in-Sales-clause-checks : goal.returns-in-Sales-clause-checks
returns-in-Sales-clause-checks c = at_route c.args.settings.now c.args.seed c.args.asked.now c.args.route
    route.Sales c.check_sales.result c.in-Sales.is (c.check_sales.ensures.checks c.args.seed)

pub returns-in-Refunds-clause-checks : goal.returns-in-Refunds-clause-checks
returns-in-Refunds-clause-checks c = at_route c.args.settings.now c.args.seed c.args.asked.now c.args.route
    route.Refunds c.check_refunds.result c.in-Refunds.is (c.check_refunds.ensures.checks c.args.seed)

pub returns-in-Closes-clause-checks : goal.returns-in-Closes-clause-checks
returns-in-Closes-clause-checks c = at_route c.args.settings.now c.args.seed c.args.asked.now c.args.route
    route.Closes c.check_closes.result c.in-Closes.is (c.check_closes.ensures.checks c.args.seed)

pub returns-in-Voucher-clause-checks : goal.returns-in-Voucher-clause-checks
returns-in-Voucher-clause-checks c = at_route c.args.settings.now c.args.seed c.args.asked.now c.args.route
    route.Voucher c.check_voucher.result c.in-Voucher.is (inr (c.check_voucher.ensures.checks c.args.seed))

pub returns-in-Takings-clause-checks : goal.returns-in-Takings-clause-checks
returns-in-Takings-clause-checks c = at_route c.args.settings.now c.args.seed c.args.asked.now c.args.route
    route.Takings c.check_takings.result c.in-Takings.is (inr (c.check_takings.ensures.checks c.args.seed))

pub returns-in-Reports-clause-checks : goal.returns-in-Reports-clause-checks
returns-in-Reports-clause-checks c = at_route c.args.settings.now c.args.seed c.args.asked.now c.args.route
    route.Reports c.check_reports.result c.in-Reports.is (c.check_reports.ensures.checks c.args.seed)

pub returns-in-Sessions-clause-checks : goal.returns-in-Sessions-clause-checks
returns-in-Sessions-clause-checks c =
    at_route c.args.settings.now c.args.seed c.args.asked.now c.args.route route.Sessions
    c.check_sessions.result c.in-Sessions.is (inr (c.check_sessions.ensures.checks c.args.seed))

pub returns-in-Session-clause-checks : goal.returns-in-Session-clause-checks
returns-in-Session-clause-checks c = at_route c.args.settings.now c.args.seed c.args.asked.now c.args.route
    route.Session c.check_session.result c.in-Session.is (inr (c.check_session.ensures.checks c.args.seed))

pub returns-in-LastSession-clause-checks : goal.returns-in-LastSession-clause-checks
returns-in-LastSession-clause-checks c =
    at_route c.args.settings.now c.args.seed c.args.asked.now c.args.route route.LastSession
    c.check_last_session.result c.in-LastSession.is (inr (c.check_last_session.ensures.checks c.args.seed))

pub returns-in-OwnSession-clause-checks : goal.returns-in-OwnSession-clause-checks
returns-in-OwnSession-clause-checks c = at_route c.args.settings.now c.args.seed
    c.args.asked.now c.args.route route.OwnSession c.check_own_session.result c.in-OwnSession.is
    (inr (c.check_own_session.ensures.checks c.args.settings.now c.args.seed))

pub returns-in-SessionDetails-clause-checks : goal.returns-in-SessionDetails-clause-checks
returns-in-SessionDetails-clause-checks c =
    at_route c.args.settings.now c.args.seed c.args.asked.now c.args.route route.SessionDetails
    c.check_session_details.result c.in-SessionDetails.is
    (inr (c.check_session_details.ensures.checks c.args.seed))

pub returns-in-BatchList-clause-checks : goal.returns-in-BatchList-clause-checks
returns-in-BatchList-clause-checks c =
    at_route c.args.settings.now c.args.seed c.args.asked.now c.args.route route.BatchList
    c.check_batch_list.result c.in-BatchList.is (inr (c.check_batch_list.ensures.checks c.args.seed))

pub returns-in-Batch-clause-checks : goal.returns-in-Batch-clause-checks
returns-in-Batch-clause-checks c = at_route c.args.settings.now c.args.seed c.args.asked.now c.args.route
    route.Batch c.check_batch.result c.in-Batch.is (inr (c.check_batch.ensures.checks c.args.seed))

pub returns-in-Vouchers-clause-checks : goal.returns-in-Vouchers-clause-checks
returns-in-Vouchers-clause-checks c =
    at_route c.args.settings.now c.args.seed c.args.asked.now c.args.route route.Vouchers
    c.check_vouchers.result c.in-Vouchers.is (c.check_vouchers.ensures.checks c.args.seed)

pub returns-in-Redemptions-clause-checks : goal.returns-in-Redemptions-clause-checks
returns-in-Redemptions-clause-checks c =
    at_route c.args.settings.now c.args.seed c.args.asked.now c.args.route route.Redemptions
    c.check_redemptions.result c.in-Redemptions.is (inr (c.check_redemptions.ensures.checks c.args.seed))
