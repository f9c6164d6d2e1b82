use Rattle.portal_json.proofs.Common.{List, [], ℕ, ◌++◌, ◌∙◌, ap, subst, sym, Some, IsAscii, string_bytes}
use Rattle.std.specs.Prelude.{codes}
use Rattle.portal_model.specs.Device.{text_of_device}
use Rattle.portal_json.specs.Listed.{between}
use Rattle.portal_json.proofs.TextLemmas.{device_ascii}
use Rattle.portal_json.proofs.ListedLemmas.{appended_joined, ok_along}
use Rattle.portal_json.proofs.DetailsLemmas.{open_details_parts, open_details_text_is}
use Rattle.portal_json.proofs.details.SessionDetailsEntryListed.put.Goals as goal

pub as_text-requires : goal.as_text-requires
as_text-requires c = subst IsAscii (sym c.text-device.ensures.value)
    (device_ascii c.args.self.now.device c.text-device.ensures.device)

pub returns : goal.returns
returns c =
    let s = c.args.self.now in
    let old = string_bytes c.args.text.now in
    let behind = λ (part before : List ℕ). before ++ part in
    let quoted = λ (before value : List ℕ). before ++ (value ++ codes "\"") in
    let named = c.in_ok-put_text.ensures
    ∙ ap (λ (d : List ℕ). string_bytes c.put_integer.new.text ++ quoted (codes "\"device\":\"") d)
    (c.as_text.ensures ∙ c.text-device.ensures.value)
    ∙ ap (behind (quoted (codes "\"device\":\"") (text_of_device s.device)))
    (c.in_ok-put_integer.ensures ∙ ap (behind (between (codes "\"bytes-remaining\":") s.bytes (codes ",")))
    c.in_ok-push_str.ensures.bytes) in
    let opened = c.in_ok-put_integer-2.ensures
    ∙ ap (λ (t : ℕ). string_bytes c.put_text.new.text ++ between (codes ",\"opened\":") (Some t) [])
    c.get.ensures.value
    ∙ ap (behind (between (codes ",\"opened\":") (Some s.opened) [])) named in
    let planned = c.in_ok-put_text-2.ensures
    ∙ ap (λ (p : List ℕ). string_bytes c.put_integer-2.new.text ++ quoted (codes ",\"plan\":\"") p)
    c.text.ensures.value
    ∙ ap (behind (quoted (codes ",\"plan\":\"") s.plan)) opened in
    let timed = c.in_ok-put_integer-3.ensures
    ∙ ap (behind (between (codes ",\"seconds-remaining\":") s.seconds [])) planned in
    ok_along c.put_integer-4.result (λ e. e
    ∙ ap (behind (between (codes ",\"session\":") (Some s.number) (codes "}"))) timed
    ∙ appended_joined old (open_details_parts s)
    ∙ ap (λ (t : List ℕ). old ++ t)
    (open_details_text_is s c.text-device.ensures.device c.text.ensures.id_text)) c.put_integer-4.ensures
