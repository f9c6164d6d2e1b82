use Rattle.portal_tables_rows.proofs.Common.{◌≡◌, ◌≤◌, List, subst, ◌∙◌, arith, map, bytes_eq, get, take_all}
use Rattle.portal_tables_rows.proofs.Common.{text_of, GrantValue, AreUses, grant_read}
use Rattle.portal_tables_rows.proofs.SumLemmas.{uses_so_far, uses_few, uses_step}
use Rattle.portal_tables_rows.proofs.sums.count_uses_by_code.Goals as goal

pub overflow_add-before : goal.overflow_add-before
overflow_add-before c =
    let code = c.grant-item.result.code in
    let few : uses_so_far c.args.grants.now c.loop-grant.grant-index (text_of code)
    ≤ c.loop-grant.grant-index = uses_few c.args.grants.now c.loop-grant.grant-index (text_of code) in
    let count : c.uses_of_code-before.result
    ≡ uses_so_far c.args.grants.now c.loop-grant.grant-index (text_of code) =
    c.uses_of_code-before.ensures.found ∙ c.loop-grant.invariant code c.uses_of_code-before.ensures.code in
    omega arith

pub loop-grant-preserved : goal.loop-grant-preserved
loop-grant-preserved c =
    uses_step c.args.grants.now c.loop-grant.grant-index c.grant-item.result
    c.uses_of_code-before.ensures.code c.loop-grant-test.true c.grant-item.is c.uses_of_code-before.result
    (get bytes_eq c.loop-grant.uses) (get bytes_eq c.insert.new.self)
    c.loop-grant.invariant c.uses_of_code-before.ensures.found c.in_ok-insert.ensures.updates.0

pub returns-clause-uses : goal.returns-clause-uses
returns-clause-uses c =
    subst (λ (grants : List GrantValue). AreUses c.loop-grant.uses (map grant_read grants))
    (take_all c.loop-grant.grant-index c.args.grants.now c.loop-grant-test.false) c.loop-grant.invariant
