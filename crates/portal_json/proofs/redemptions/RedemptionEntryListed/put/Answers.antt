use Rattle.portal_json.proofs.Common.{List, [], ℕ, ◌++◌, ◌∙◌, ap, refl, subst, sym, Some, IsAscii}
use Rattle.portal_json.proofs.Common.{string_bytes}
use Rattle.std.specs.Prelude.{codes}
use Rattle.portal_json.specs.Listed.{between}
use Rattle.portal_json.proofs.TextLemmas.{device_ascii}
use Rattle.portal_json.proofs.BatchesLemmas.{text_part}
use Rattle.portal_json.proofs.ListedLemmas.{appended_joined, ok_along, with_part}
use Rattle.portal_json.proofs.RedemptionLemmas.{redemption_parts, redemption_text_is}
use Rattle.portal_json.proofs.redemptions.RedemptionEntryListed.put.Goals as goal

pub as_text-requires : goal.as_text-requires
as_text-requires c = subst IsAscii (sym c.text-device.ensures.value)
    (device_ascii c.args.self.now.device c.text-device.ensures.device)

pub returns : goal.returns
returns c =
    let r = c.args.self.now in
    let old = string_bytes c.args.text.now in
    let timed = with_part c.in_ok-put_integer.ensures refl
    (ap (λ (t : ℕ). between (codes "{\"at\":") (Some t) []) c.get.ensures.value) in
    let named = with_part c.in_ok-put_text.ensures timed
    (ap (text_part (codes ",\"device\":\"")) (c.as_text.ensures ∙ c.text-device.ensures.value)) in
    let extended = with_part c.in_ok-put_text-2.ensures named
    (ap (λ (word : List ℕ). codes ",\"extended\":" ++ (word ++ [])) c.word_of_flag.ensures) in
    let shown = with_part c.in_ok-put_text-3.ensures extended
    (ap (λ (word : List ℕ). codes ",\"open\":" ++ (word ++ [])) c.word_of_flag-2.ensures) in
    ok_along c.put_integer-2.result (λ e. with_part e shown refl
    ∙ appended_joined old (redemption_parts r)
    ∙ ap (λ (t : List ℕ). old ++ t) (redemption_text_is r c.text-device.ensures.device))
    c.put_integer-2.ensures
