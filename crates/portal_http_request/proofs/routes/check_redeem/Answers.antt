use Rattle.portal_http_request.proofs.Common.{subst, Guest, CodeOrder, GivesCommand, IsGuest, AsksForCommand}
use Rattle.portal_model.specs.declared.command.Command.TheVariants.{Redeem}
use Rattle.portal_http_request.proofs.RouteLemmas.{let_guest_in, ordered_by}
use Rattle.portal_http_request.proofs.routes.check_redeem.Goals as goal

pub returns-clause-checks : goal.returns-clause-checks
returns-clause-checks c = λ settings seed.
    let m = c.args.asked.now in
    let device = c.in_ok-device.device in
    let guest = subst (IsGuest _) c.in_ok-device.ensures.ok_part c.guest_device.ensures in
    let acted = ordered_by m (Guest device) (GivesCommand CodeOrder (λ code. Redeem device code))
    c.body.result.now c.redeem_command-ordered.result c.command_operation.result
    c.body.ensures c.redeem_command-ordered.ensures.orders c.command_operation.ensures.checks in
    let_guest_in _ m device
    (λ device. AsksForCommand m (Guest device) (GivesCommand CodeOrder (λ code. Redeem device code) m.body))
    c.command_operation.result c.device.ensures guest acted
