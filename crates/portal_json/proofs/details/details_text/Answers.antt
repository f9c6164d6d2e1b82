use Rattle.portal_json.proofs.Common.{List, ℕ, subst, sym, ap, ◌∙◌, Some, IsAscii, has_float, object_of}
use Rattle.portal_json.specs.Bodies.{details_body, details_data, details_keys}
use Rattle.portal_json.proofs.ObjectLemmas.{text_along}
use Rattle.portal_json.proofs.DetailsLemmas.{details_in_order, whole_details}
use Rattle.portal_json.proofs.TextLemmas.{device_ascii}
use Rattle.portal_json.proofs.details.details_text.Goals as goal

pub as_text-requires : goal.as_text-requires
as_text-requires c = subst IsAscii (sym c.text-device.ensures.value)
    (device_ascii c.args.details.now.device c.text-device.ensures.device)

pub text_of_value-requires : goal.text_of_value-requires
text_of_value-requires c =
    let device = Some c.as_text.result.now in
    ap has_float (c.in_ok-value.ensures ∙ details_in_order device c.args.details.now)
    ∙ whole_details device c.args.details.now

pub returns-clause-ok : goal.returns-clause-ok
unfolding details_body
returns-clause-ok c =
    let s = c.args.details.now in
    text_along c.text_of_value.result _ (details_data s)
    (c.in_ok-value.ensures ∙ details_in_order (Some c.as_text.result.now) s
    ∙ ap (λ (d : List ℕ). object_of (details_keys (Some d) s))
    (c.as_text.ensures ∙ c.text-device.ensures.value))
    c.text_of_value.ensures.ok
