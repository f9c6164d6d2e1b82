use Rattle.portal_http_message.proofs.Common.{◌≡◌, ◌∙◌, sym, ◌<◌, nat_lt, true, false, arith, nat_tests}
use Rattle.portal_http_message.proofs.Common.{digits_value, body_limit}
use Rattle.portal_http_message.specs.Lengths.{length_in}
use Rattle.portal_http_message.proofs.lengths.read_length.Goals as goal

pub returns-then-is_empty-clause-value : goal.returns-then-is_empty-clause-value
unfolding length_in
returns-then-is_empty-clause-value c = rw (sym c.is_empty.ensures ∙ c.if-is_empty.true)

pub returns-in-None-clause-value : goal.returns-in-None-clause-value
unfolding length_in
returns-in-None-clause-value c = rw (sym c.is_empty.ensures ∙ c.if-is_empty.false, c.in-None.ensures)

pub returns-in-Some-clause-value : goal.returns-in-Some-clause-value
unfolding length_in
returns-in-Some-clause-value c =
    let n : body_limit < digits_value 10 c.args.value.now = omega (arith, c.in-Some.ensures.1) in
    let t : nat_lt body_limit (digits_value 10 c.args.value.now) ≡ true = grind (arith, nat_tests) in
    rw (sym c.is_empty.ensures ∙ c.if-is_empty.false, c.in-Some.ensures.0, t)

pub returns-in-Some-2-clause-value : goal.returns-in-Some-2-clause-value
unfolding length_in
returns-in-Some-2-clause-value c =
    let n : digits_value 10 c.args.value.now ≡ c.in-Some.length = omega (arith, c.in-Some.ensures.1) in
    let t : nat_lt body_limit c.in-Some.length ≡ false = grind (arith, nat_tests) in
    rw (sym c.is_empty.ensures ∙ c.if-is_empty.false, c.in-Some.ensures.0, n, t)
