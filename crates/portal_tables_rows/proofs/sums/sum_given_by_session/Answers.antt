use Rattle.portal_tables_rows.proofs.Common.{ap, ◌∙◌, cond, Some, map, nat_eq, get, take_all, grant_read}
use Rattle.portal_tables_rows.proofs.Common.{given_to, err_from_is_err_and}
use Rattle.portal_tables_rows.proofs.SumLemmas.{given_step, given_kept}
use Rattle.portal_tables_rows.proofs.sums.sum_given_by_session.Goals as goal

pub loop-grant-preserved : goal.loop-grant-preserved
loop-grant-preserved c =
    given_step c.args.grants.now c.loop-grant.grant-index c.grant-item.result c.loop-grant-test.true
    c.grant-item.is c.given_to_session-before.result (get nat_eq c.loop-grant.given)
    (get nat_eq c.insert.new.self) c.loop-grant.invariant
    c.given_to_session-before.ensures
    (λ number. c.in_ok-insert.ensures.updates.0 number ∙ ap (λ sum. cond (nat_eq c.grant-item.result.session
    number) (Some sum) (get nat_eq c.loop-grant.given number)) c.in_ok-sum.ensures.sum)

pub returns-clause-given : goal.returns-clause-given
returns-clause-given c =
    λ number. c.loop-grant.invariant number ∙ ap (λ grants. given_to (map grant_read grants) number)
    (take_all c.loop-grant.grant-index c.args.grants.now c.loop-grant-test.false)

pub returns-in_err-sum-clause-kept : goal.returns-in_err-sum-clause-kept
returns-in_err-sum-clause-kept c fits =
    let told = err_from_is_err_and c.from_residual.result c.from_residual.ensures.1 in
    let grant = c.grant-item.result in
    let so_far = c.given_to_session-before.ensures ∙ c.loop-grant.invariant grant.session in
    let kept = given_kept c.args.grants.now c.loop-grant.grant-index grant c.given_to_session-before.result
    c.loop-grant-test.true c.grant-item.is so_far fits in
    rw (told.1, told.2) (c.in_err-sum.ensures.kept kept.0 kept.1)
