-- The text of a device is ASCII.
use Rattle.portal_json.proofs.Common.{ℕ, ◌<◌, ◌/◌, ◌%◌, List, [], ◌∷◌, map, arith, IsAscii, All}
use Rattle.std.specs.List.{join_with_byte}
use Rattle.std.proofs.lemmas.Bool.Decides.{nat_tests}
use Rattle.std.proofs.lemmas.List.Elements.{All-head, All-tail}
use Rattle.std.proofs.lemmas.Str.{IsAscii-append}
use Rattle.std.proofs.lemmas.Str.Ascii.{IsAscii-nil, IsAscii-cons}
use Rattle.portal_model.specs.Device.{IsDevice, hex_digit, octet_text, text_of_device}

sign_ascii : (digit : ℕ) → digit < 16 → hex_digit digit < 128
sign_ascii digit h = grind (arith, nat_tests)

octet_ascii : (octet : ℕ) → octet < 256 → IsAscii (octet_text octet)
octet_ascii octet h =
    IsAscii-cons (hex_digit (octet / 16)) (hex_digit (octet % 16) ∷ [])
    (sign_ascii (octet / 16) (omega arith))
    (IsAscii-cons (hex_digit (octet % 16)) [] (sign_ascii (octet % 16) (omega arith)) IsAscii-nil)

octets_ascii : (octets : List ℕ) → All (λ x. x < 256) octets
    → IsAscii (join_with_byte 58 (map octet_text octets))
octets_ascii [] h = IsAscii-nil
octets_ascii (a ∷ []) h = octet_ascii a (All-head (λ x. x < 256) a [] h)
octets_ascii (a ∷ b ∷ rest) h =
    IsAscii-append (octet_text a) (58 ∷ join_with_byte 58 (map octet_text (b ∷ rest)))
    (octet_ascii a (All-head (λ x. x < 256) a (b ∷ rest) h))
    (IsAscii-cons 58 (join_with_byte 58 (map octet_text (b ∷ rest))) (omega arith)
    (octets_ascii (b ∷ rest) (All-tail (λ x. x < 256) a (b ∷ rest) h)))

pub device_ascii : (octets : List ℕ) → IsDevice octets → IsAscii (text_of_device octets)
device_ascii octets h = octets_ascii octets h.below
