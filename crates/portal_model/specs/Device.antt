-- Devices, by the six octets of their MAC address.
use Rattle.std.specs.Prelude.{◌≡◌, ℕ, ◌+◌, ◌/◌, ◌%◌, ◌<◌, ◌⊎◌, nat_lt, if◌then◌else◌, List, [], ◌∷◌, length}
use Rattle.std.specs.Prelude.{map, All}
use Rattle.std.specs.List.{join_with_byte}
use Rattle.std.specs.Str.{str_to_ascii_lowercase}

-- six octets
pub record IsDevice (octets : List ℕ) : Type 0 where
  pub six : length octets ≡ 6
  pub below : All (λ x. x < 256) octets

-- the hexadecimal digit of a value, in lower case
abbrev pub hex_digit : ℕ → ℕ
hex_digit digit = if nat_lt digit 10 then 48 + digit else (87 + digit)

-- an octet as two digits
abbrev pub octet_text : ℕ → List ℕ
octet_text octet = hex_digit (octet / 16) ∷ hex_digit (octet % 16) ∷ []

-- the octets, with that character between them
abbrev pub text_with : ℕ → List ℕ → List ℕ
text_with character octets = join_with_byte character (map octet_text octets)

-- the text of a device: lower case, with colons between its octets
abbrev pub text_of_device : List ℕ → List ℕ
text_of_device octets = text_with 58 octets

-- the text spells the device: in lower case it is the octets with colons, or with hyphens, between them
pub record SpellsDevice (text octets : List ℕ) : Type 0 where
  pub is_device : IsDevice octets
  pub written : (str_to_ascii_lowercase text ≡ text_with 58 octets)
      ⊎ (str_to_ascii_lowercase text ≡ text_with 45 octets)

-- the text of a device spells that device, and no other
abbrev pub DeviceTextReadsBack : Type 0
DeviceTextReadsBack = (device : List ℕ) → IsDevice device
    → SpellsDevice (text_of_device device) device
    × ((other : List ℕ) → SpellsDevice (text_of_device device) other → other ≡ device)
