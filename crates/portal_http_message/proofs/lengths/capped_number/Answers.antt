use Rattle.portal_http_message.proofs.Common.{◌≡◌, ◌∙◌, sym, ap, arith, ◌+◌, ◌-◌, ◌*◌, min, ℕ, Bool, true}
use Rattle.portal_http_message.proofs.Common.{◌&&◌, get_or, drop, nat_tests, at_drop_more, list_all}
use Rattle.portal_http_message.proofs.Common.{is_ascii_digit, digit_value}
use Rattle.std.proofs.lemmas.Int.Digits.{digits_value_more}
use Rattle.portal_http_message.proofs.lengths.capped_number.Goals as goal

digit_is : (x : ℕ) → is_ascii_digit x ≡ true → digit_value x ≡ x - 48
digit_is x e = grind (arith, nat_tests)

capped_more : (size result d d' before after : ℕ) → size ≡ min before 65537 → after ≡ before * 10 + d → d ≡ d'
    → result ≡ min (10 * size + d') 65537 → result ≡ min after 65537
capped_more size result d d' before after a b e r = omega arith

pub loop-digit-preserved : goal.loop-digit-preserved
loop-digit-preserved c =
    let i = c.loop-digit.digit-index in
    let x = get_or c.args.digits.now i 0 in
    let rest = list_all is_ascii_digit (drop (i + 1) c.args.digits.now) in
    let v = digits_value_more 10 c.args.digits.now i (omega arith) in
    let digit : is_ascii_digit x ≡ true = sym c.if-not-is_ascii_digit.ensures.value in
    let all = at_drop_more (list_all is_ascii_digit) c.args.digits.now i 0 (omega arith)
    ∙ ap (λ (b : Bool). b && rest) digit in
    record {
      digits_left = sym all ∙ c.loop-digit.invariant.digits_left;
      so_far = capped_more _ _ _ _ _ _ c.loop-digit.invariant.so_far v
          (digit_is x digit ∙ sym c.from.ensures) c.min-number.ensures;
    }
