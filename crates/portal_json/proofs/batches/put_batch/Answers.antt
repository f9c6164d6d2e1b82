use Rattle.portal_json.proofs.Common.{List, [], ℕ, ◌++◌, ◌∙◌, ap, refl, Some, string_bytes}
use Rattle.std.specs.Prelude.{codes}
use Rattle.portal_json.specs.Listed.{between}
use Rattle.portal_json.proofs.ListedLemmas.{appended_joined, ok_along, with_part}
use Rattle.portal_json.proofs.BatchesLemmas.{text_part, batch_parts, batch_parts_are}
use Rattle.portal_json.proofs.batches.put_batch.Goals as goal

pub returns : goal.returns
returns c =
    let s = c.args.state.now in
    let old = string_bytes c.args.text.now in
    let named = with_part c.in_ok-put_text.ensures refl
    (ap (text_part (codes "{\"batch\":\"")) c.text.ensures.value) in
    let counted = with_part c.in_ok-put_integer.ensures named refl in
    let expiring = with_part c.in_ok-put_integer-2.ensures counted
    (ap (λ (t : ℕ). between (codes ",\"expires\":") (Some t) []) c.get.ensures.value) in
    let issued = with_part c.in_ok-put_integer-3.ensures expiring
    (ap (λ (t : ℕ). between (codes ",\"issued\":") (Some t) []) c.get-2.ensures.value) in
    let planned = with_part c.in_ok-put_text-2.ensures issued
    (ap (text_part (codes ",\"plan\":\"")) c.text-2.ensures.value) in
    let refunded = with_part c.in_ok-put_integer-4.ensures planned refl in
    let sold = with_part c.in_ok-put_integer-5.ensures refunded refl in
    ok_along c.put_integer-6.result (λ e. with_part e sold refl
    ∙ appended_joined old (batch_parts c.args.behind.now s)
    ∙ ap (λ (t : List ℕ). old ++ t) (batch_parts_are c.args.behind.now s c.text.ensures.id_text
    c.text-2.ensures.id_text)) c.put_integer-6.ensures
