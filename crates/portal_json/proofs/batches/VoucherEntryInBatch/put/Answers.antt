use Rattle.portal_json.proofs.Common.{List, ℕ, ◌++◌, ◌∙◌, ap, refl, Option, string_bytes}
use Rattle.std.specs.Prelude.{codes}
use Rattle.portal_json.specs.Listed.{number_or_null}
use Rattle.portal_json.proofs.ListedLemmas.{appended_joined, ok_along, with_part}
use Rattle.portal_json.proofs.BatchesLemmas.{text_part, batch_voucher_parts, batch_voucher_text_is}
use Rattle.portal_json.proofs.batches.VoucherEntryInBatch.put.Goals as goal

pub returns : goal.returns
returns c =
    let v = c.args.self.now in
    let old = string_bytes c.args.text.now in
    let coded = with_part c.in_ok-put_text.ensures refl
    (ap (text_part (codes "{\"code\":\""))
    (c.as_text.ensures ∙ c.as_bytes.ensures ∙ c.text-code.ensures.value)) in
    let redeemed = with_part c.in_ok-put_integer.ensures coded refl in
    let refunded = with_part c.in_ok-put_integer_or_null.ensures redeemed refl in
    ok_along c.put_integer_or_null-2.result (λ e. with_part e refunded
    (ap (λ (t : Option ℕ). codes ",\"sold\":" ++ (number_or_null t ++ codes "}")) c.seconds_of_moment.ensures)
    ∙ appended_joined old (batch_voucher_parts v)
    ∙ ap (λ (t : List ℕ). old ++ t) (batch_voucher_text_is v c.text-code.ensures.spells.is_code))
    c.put_integer_or_null-2.ensures
