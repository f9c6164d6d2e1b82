use Rattle.portal_http_message.proofs.Common.{◌≡◌, take, drop, min, list_all, is_ascii_digit, digits_value}
use Rattle.portal_http_message.proofs.lengths.capped_number.Given as goal

abbrev pub invariant-loop-digit : goal.invariant-loop-digit
invariant-loop-digit l = record {
  digits_left : list_all is_ascii_digit (drop l.digit-index l.digits) ≡ list_all is_ascii_digit l.digits;
  so_far : l.number ≡ min (digits_value 10 (take l.digit-index l.digits)) 65537;
}
