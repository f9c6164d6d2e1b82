-- The texts that this product writes are UTF-8, so that they are read.
use Rattle.portal_tables_rows.proofs.Common.{◌≡◌, ◌<◌, ℕ, List, [], ◌∷◌, map, sym, subst, arith, lit<, true}
use Rattle.portal_tables_rows.proofs.Common.{rules, AreOwn, IsPrintedCode, IsPrintedDevice, RequestRow}
use Rattle.portal_tables_rows.proofs.Common.{has_image, key_of, text_of_device}
use Rattle.std.specs.Prelude.{◌/◌, ◌%◌, ◌^◌, All, IfSome, IsAscii}
use Rattle.std.specs.List.{join_with_byte}
use Rattle.std.specs.Str.{IsUtf8}
use Rattle.std.proofs.lemmas.Bool.Decides.{nat_tests}
use Rattle.std.proofs.lemmas.List.Elements.{All-head, All-tail}
use Rattle.std.proofs.lemmas.Str.{IsAscii-append, IsUtf8-from_ascii}
use Rattle.std.proofs.lemmas.Str.Ascii.{IsAscii-nil, IsAscii-cons}
use Rattle.portal_codes.specs.Code.{IsCode, text_of}
use Rattle.portal_codes.proofs.Spelling.{printed_ascii}
use Rattle.portal_model.specs.Device.{IsDevice, hex_digit, octet_text}
use Rattle.portal_model.specs.declared.change.Answer.{Answer}
use Rattle.portal_model.specs.declared.change.Answer.TheVariants.{LoadAnswer, IssueAnswer, SellAnswer}
use Rattle.portal_model.specs.declared.change.Answer.TheVariants.{RedeemAnswer, ReportAnswer, RefundAnswer}
use Rattle.portal_model.specs.declared.change.Answer.TheVariants.{CloseAnswer}
use Rattle.portal_model.proofs.Padding.{characters-utf8, id-utf8}
use Rattle.portal_ledger.specs.declared.caller.Caller.{Caller}
use Rattle.portal_ledger.specs.declared.caller.Caller.TheVariants.{Desk, Gateway, Guest}
use Rattle.portal_ledger.specs.Fingerprint.{IsCaller, IsKeyText, is_key_character}
use Rattle.portal_ledger.specs.RequestRow.{cells_of, text_of_caller}
use Rattle.portal_tables_rows.specs.Foreign.{IsOwnAnswer, IsOwnRequest}
use Rattle.portal_tables_rows.specs.Requests.{AreTexts, IsReadable}

-- ---- devices

sign_ascii : (digit : ℕ) → digit < 16 → hex_digit digit < 128
sign_ascii digit h = grind (arith, nat_tests)

octet_ascii : (octet : ℕ) → octet < 256 → IsAscii (octet_text octet)
octet_ascii octet h =
    IsAscii-cons (hex_digit (octet / 16)) (hex_digit (octet % 16) ∷ [])
    (sign_ascii (octet / 16) (omega arith))
    (IsAscii-cons (hex_digit (octet % 16)) [] (sign_ascii (octet % 16) (omega arith)) IsAscii-nil)

octets_ascii : (octets : List ℕ) → All (λ x. x < 256) octets
    → IsAscii (join_with_byte 58 (map octet_text octets))
octets_ascii [] h = IsAscii-nil
octets_ascii (a ∷ []) h = octet_ascii a (All-head (λ x. x < 256) a [] h)
octets_ascii (a ∷ b ∷ rest) h =
    IsAscii-append (octet_text a) (58 ∷ join_with_byte 58 (map octet_text (b ∷ rest)))
    (octet_ascii a (All-head (λ x. x < 256) a (b ∷ rest) h))
    (IsAscii-cons 58 (join_with_byte 58 (map octet_text (b ∷ rest))) (omega arith)
    (octets_ascii (b ∷ rest) (All-tail (λ x. x < 256) a (b ∷ rest) h)))

text_utf8 : (octets : List ℕ) → IsDevice octets → IsUtf8 (text_of_device octets)
text_utf8 octets h = IsUtf8-from_ascii (text_of_device octets) (octets_ascii octets h.below)

pub device_utf8 : (text : List ℕ) → IsPrintedDevice text → IsUtf8 text
device_utf8 text own = subst IsUtf8 own.2 (text_utf8 own.0 own.1)

-- ---- codes

printed_utf8 : (code : List ℕ) → IsCode code → IsUtf8 (text_of code)
printed_utf8 code is = IsUtf8-from_ascii (text_of code) (printed_ascii code is)

pub code_utf8 : (text : List ℕ) → IsPrintedCode text → IsUtf8 text
code_utf8 text own = subst IsUtf8 own.2 (printed_utf8 own.0 own.1)

-- ---- requests

caller_utf8 : (caller : Caller) → IsCaller caller → IsUtf8 (text_of_caller caller)
caller_utf8 Desk is = IsUtf8-from_ascii _ (search rules)
caller_utf8 Gateway is = IsUtf8-from_ascii _ (search rules)
caller_utf8 (Guest device) is = text_utf8 device is

key_ascii : (b : ℕ) → is_key_character b ≡ true → b < 128
key_ascii b h = grind (arith, nat_tests)

key_utf8 : (text : List ℕ) → IsKeyText text → IsUtf8 text
key_utf8 text h = characters-utf8 is_key_character key_ascii text h.characters

small_kind : (answer : Answer) → (cells_of answer).kind < 2 ^ 32
small_kind (LoadAnswer plans) = lit< tt
small_kind (IssueAnswer batch count expires) = lit< tt
small_kind (SellAnswer code price) = lit< tt
small_kind (RedeemAnswer extended session uses_left) = lit< tt
small_kind (ReportAnswer still_open session used) = lit< tt
small_kind (RefundAnswer amount code) = lit< tt
small_kind (CloseAnswer session) = lit< tt

word_utf8 : (answer : Answer) → IsOwnAnswer answer → IfSome (cells_of answer).word IsUtf8
word_utf8 (LoadAnswer plans) own = tt
word_utf8 (IssueAnswer batch count expires) own = id-utf8 batch own.0
word_utf8 (SellAnswer code price) own = printed_utf8 code own
word_utf8 (RedeemAnswer extended session uses_left) own = tt
word_utf8 (ReportAnswer still_open session used) own = tt
word_utf8 (RefundAnswer amount code) own = printed_utf8 code own
word_utf8 (CloseAnswer session) own = tt

pub request_readable : (k : RequestRow) → IsOwnRequest k → IsReadable k
request_readable k own = subst IsReadable own.is (record {
  caller = caller_utf8 own.kept.mark.caller own.mark.caller;
  number = key_utf8 own.kept.mark.number own.mark.number;
  method = own.mark.method;
  path = own.mark.path;
  kind = small_kind own.kept.answer;
  word = word_utf8 own.kept.answer own.answer;
})

pub keys_readable : (ks : List RequestRow) → AreOwn IsOwnRequest ks → AreOwn AreTexts (map key_of ks)
keys_readable ks own key has =
    let it = has_image key_of ks key has in
    let read = request_readable it.0 (own it.0 it.1) in
    subst AreTexts (sym it.2) (read.caller, read.number)
