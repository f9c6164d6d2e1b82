use Rattle.portal_http_message.proofs.Common.{◌≡◌, Option, Err, refl, ap, map, ◌∙◌, subst, sym}
use Rattle.portal_http_message.proofs.Common.{err_from_is_err_and, RequestHead, header_bytes, HeadError}
use Rattle.portal_http_message.proofs.Common.{HeadOf, body_after, message_in}
use Rattle.portal_http_message.proofs.RequestLemmas.{told}
use Rattle.portal_http_message.proofs.head.request_with_head.Goals as goal

pub returns-in_err-body : goal.returns-in_err-body
returns-in_err-body c =
    let bytes = c.args.bytes.now in
    let head = c.args.head.now in
    let error = err_from_is_err_and c.from_residual.result c.from_residual.ensures.1 in
    rw error.1 (subst (λ (x : HeadError).
    (is : Option RequestHead) × HeadOf bytes is × (Err x ≡ message_in is bytes)) (sym error.2)
    (told bytes head c.requires.0 c.new-fields.result _ _ _ _ _ _ c.requires.1
    (c.new-fields.ensures ∙ ap (map (header_bytes bytes)) c.split_at.ensures.front)
    (c.in_err-body.ensures ∙ ap (body_after head.declared) c.split_at-2.ensures.back)
    c.only_value-token.ensures c.only_value-device.ensures c.at_most_one_value-number.ensures refl refl))

pub returns : goal.returns
returns c =
    let bytes = c.args.bytes.now in
    let head = c.args.head.now in
    told bytes head c.requires.0 c.new-fields.result _ _ _ _ _ _ c.requires.1
    (c.new-fields.ensures ∙ ap (map (header_bytes bytes)) c.split_at.ensures.front)
    (c.in_ok-body.ensures ∙ ap (body_after head.declared) c.split_at-2.ensures.back)
    c.only_value-token.ensures c.only_value-device.ensures c.at_most_one_value-number.ensures
    c.of.ensures c.of-2.ensures
