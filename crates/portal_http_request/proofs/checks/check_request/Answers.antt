use Rattle.portal_http_request.proofs.Common.{Ok, message_of_request}
use Rattle.portal_http_request.proofs.NoStops.{no_stop}
use Rattle.portal_http_request.proofs.checks.check_request.Goals as goal

pub returns-in-Ok-clause-own : goal.returns-in-Ok-clause-own
returns-in-Ok-clause-own c = no_stop c.args.settings.now c.args.seed (Ok (message_of_request c.in-Ok.request))
    c.check_path.result c.check_path.ensures.checks
