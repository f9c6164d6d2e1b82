use Rattle.std.proofs.Common.{arith}
use Rattle.std.proofs.lemmas.Grind.{common_steps}
use Rattle.portal_desk_store.proofs.AttachLemmas.{on_failed}
use Rattle.portal_desk_store.proofs.HeadLemmas.{decides_fresh, refuses_fresh}
use Rattle.portal_desk_store.proofs.desks.StoreDeskDesk.prepare_marked.Goals as goal

pub returns-in_err-changes : goal.returns-in_err-changes
returns-in_err-changes g c =
    let mark = c.args.mark.now in
    let result = c.from_residual-in_err-changes.result in
    let failed = c.from_residual-in_err-changes.ensures.1 in
    let decided = c.in_err-changes.ensures in
    decides_fresh c.args.command c.args.moment mark result c.in_ok-answer.ensures
    (grind (arith, common_steps)) decided (on_failed result _ _ _ failed decided.stops)
    (λ L none after refused. on_failed result _ _ _ failed
    (refuses_fresh c.args.command c.args.moment mark L _ after none refused))

pub returns : goal.returns
returns g c =
    decides_fresh c.args.command c.args.moment c.args.mark.now _ c.in_ok-answer.ensures
    (grind (arith, common_steps)) c.decide.ensures
    (grind (arith, common_steps)) (λ L none after decided. grind (arith, common_steps))
