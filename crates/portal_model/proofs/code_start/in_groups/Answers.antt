use Rattle.portal_model.proofs.Common.{◌∙◌, ◌++◌, ap, sym, get_or}
use Rattle.portal_model.specs.CodeStart.{in_place}
use Rattle.portal_model.proofs.Starts.{groups_more}
use Rattle.portal_model.proofs.code_start.in_groups.Goals as goal

pub loop-place-preserved : goal.loop-place-preserved
loop-place-preserved c =
    let place = c.loop-place.place in
    let signs = c.args.signs.now in
    c.in_ok-push_sign.ensures ∙ ap (λ xs. xs ++ in_place place (get_or signs place 0)) c.loop-place.invariant
    ∙ sym (groups_more signs place c.loop-place-test.true)
