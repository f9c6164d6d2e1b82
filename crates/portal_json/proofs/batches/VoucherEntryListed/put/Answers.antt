use Rattle.portal_json.proofs.Common.{List, [], ℕ, ◌++◌, ◌∙◌, ap, refl, Option, Some, string_bytes}
use Rattle.std.specs.Prelude.{codes}
use Rattle.portal_json.specs.Listed.{between, number_or_null}
use Rattle.portal_json.proofs.ListedLemmas.{appended_joined, ok_along, with_part}
use Rattle.portal_json.proofs.BatchesLemmas.{text_part, voucher_parts, voucher_text_is}
use Rattle.portal_json.proofs.batches.VoucherEntryListed.put.Goals as goal

pub returns : goal.returns
returns c =
    let v = c.args.self.now in
    let old = string_bytes c.args.text.now in
    let issued = with_part c.in_ok-put_text.ensures refl
    (ap (text_part (codes "{\"batch\":\"")) c.text.ensures.value) in
    let coded = with_part c.in_ok-put_text-2.ensures issued
    (ap (text_part (codes ",\"code\":\""))
    (c.as_text.ensures ∙ c.as_bytes.ensures ∙ c.text-code.ensures.value)) in
    let expiring = with_part c.in_ok-put_integer.ensures coded
    (ap (λ (t : ℕ). between (codes ",\"expires\":") (Some t) []) c.get.ensures.value) in
    let planned = with_part c.in_ok-put_text-3.ensures expiring
    (ap (text_part (codes ",\"plan\":\"")) c.text-2.ensures.value) in
    let redeemed = with_part c.in_ok-put_integer-2.ensures planned refl in
    let refunded = with_part c.in_ok-put_integer_or_null.ensures redeemed refl in
    let sold = with_part c.in_ok-put_integer_or_null-2.ensures refunded
    (ap (λ (t : Option ℕ). codes ",\"sold\":" ++ (number_or_null t ++ [])) c.seconds_of_moment.ensures) in
    ok_along c.put_integer-3.result (λ e. with_part e sold
    (ap (λ (n : ℕ). between (codes ",\"uses\":") (Some n) (codes "}")) c.from.ensures)
    ∙ appended_joined old (voucher_parts v)
    ∙ ap (λ (t : List ℕ). old ++ t)
    (voucher_text_is v c.text.ensures.id_text c.text-code.ensures.spells.is_code c.text-2.ensures.id_text))
    c.put_integer-3.ensures
