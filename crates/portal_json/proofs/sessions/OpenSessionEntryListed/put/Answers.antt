use Rattle.portal_json.proofs.Common.{List, [], ℕ, ◌++◌, ◌∙◌, ap, subst, sym, Some, IsAscii, string_bytes}
use Rattle.std.specs.Prelude.{codes}
use Rattle.portal_model.specs.Device.{text_of_device}
use Rattle.portal_json.specs.Listed.{between}
use Rattle.portal_json.proofs.TextLemmas.{device_ascii}
use Rattle.portal_json.proofs.ListedLemmas.{appended_joined, ok_along}
use Rattle.portal_json.proofs.SessionLemmas.{session_parts, session_text_is}
use Rattle.portal_json.proofs.sessions.OpenSessionEntryListed.put.Goals as goal

pub as_text-requires : goal.as_text-requires
as_text-requires c = subst IsAscii (sym c.text-device.ensures.value)
    (device_ascii c.args.self.now.device c.text-device.ensures.device)

pub returns : goal.returns
returns c =
    let s = c.args.self.now in
    let old = string_bytes c.args.text.now in
    let behind = λ (part before : List ℕ). before ++ part in
    let device = c.as_text.ensures ∙ c.text-device.ensures.value in
    let named = c.in_ok-put_text.ensures
    ∙ ap (λ (d : List ℕ). string_bytes c.put_integer.new.text ++ (codes "\"device\":\"" ++ (d ++ codes "\"")))
    device in
    let bytes = between (codes "\"bytes-remaining\":") s.bytes (codes ",") in
    let shown = named
    ∙ ap (behind (codes "\"device\":\"" ++ (text_of_device s.device ++ codes "\"")))
    (c.in_ok-put_integer.ensures ∙ ap (behind bytes) c.in_ok-push_str.ensures.bytes) in
    let timed = c.in_ok-put_integer-2.ensures
    ∙ ap (behind (between (codes ",\"seconds-remaining\":") s.seconds [])) shown in
    ok_along c.put_integer-3.result (λ e. e
    ∙ ap (behind (between (codes ",\"session\":") (Some s.number) (codes "}"))) timed
    ∙ appended_joined old (session_parts s)
    ∙ ap (λ (t : List ℕ). old ++ t) (session_text_is s c.text-device.ensures.device)) c.put_integer-3.ensures
