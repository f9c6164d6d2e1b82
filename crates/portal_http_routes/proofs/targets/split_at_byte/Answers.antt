use Rattle.portal_http_routes.proofs.Common.{◌≡◌, ℕ, List, Some, true, false, ◌==◌, get_or, sym, ap, ◌∙◌}
use Rattle.portal_http_routes.proofs.Common.{arith, nat_tests}
use Rattle.portal_http_routes.proofs.TargetLemmas.{found, passed, never, back_found, back_passed, after_end}
use Rattle.portal_http_routes.proofs.targets.split_at_byte.Goals as goal

pub returns-then-bytes-at-clause-front : goal.returns-then-bytes-at-clause-front
returns-then-bytes-at-clause-front c =
    let x : (get_or c.args.bytes.now c.loop-at.at 0 == c.args.separator) ≡ true = grind (arith, nat_tests) in
    c.split_at.ensures.front
    ∙ sym (found c.args.separator c.args.bytes.now c.loop-at.at c.loop-at-test.true x)
    ∙ c.loop-at.invariant.front

pub returns-then-bytes-at-clause-back : goal.returns-then-bytes-at-clause-back
returns-then-bytes-at-clause-back c =
    let x : (get_or c.args.bytes.now c.loop-at.at 0 == c.args.separator) ≡ true = grind (arith, nat_tests) in
    ap (λ (l : List ℕ). Some l) c.split_at-then-bytes-at.ensures.back
    ∙ sym (back_found c.args.separator c.args.bytes.now c.loop-at.at c.loop-at-test.true x)
    ∙ c.loop-at.invariant.back

pub loop-at-preserved : goal.loop-at-preserved
loop-at-preserved c =
    let x : (get_or c.args.bytes.now c.loop-at.at 0 == c.args.separator) ≡ false = grind (arith, nat_tests) in
    record {
      front = sym (passed c.args.separator c.args.bytes.now c.loop-at.at c.loop-at-test.true x)
          ∙ c.loop-at.invariant.front;
      back = sym (back_passed c.args.separator c.args.bytes.now c.loop-at.at c.loop-at-test.true x)
          ∙ c.loop-at.invariant.back;
    }

pub returns-clause-front : goal.returns-clause-front
returns-clause-front c = sym (never c.args.separator c.args.bytes.now c.loop-at.at c.loop-at-test.false)
    ∙ c.loop-at.invariant.front

pub returns-clause-back : goal.returns-clause-back
returns-clause-back c = sym (after_end c.args.separator c.args.bytes.now c.loop-at.at c.loop-at-test.false)
    ∙ c.loop-at.invariant.back
