-- Idempotency keys and fingerprints of requests.
use Rattle.std.specs.Prelude.{◌≡◌, ℕ, ◌-◌, ◌≤◌, Bool, true, false, ◌||◌, ◌&&◌, nat_eq, nat_le, List, ◌++◌}
use Rattle.std.specs.Prelude.{length, take, replicate, bytes_eq}
use Rattle.std.specs.List.{list_all}
use Rattle.std.specs.Str.{IsUtf8}
use Rattle.portal_model.specs.Device.{IsDevice}
use Rattle.portal_ledger.specs.declared.caller.Caller.{Caller}
use Rattle.portal_ledger.specs.declared.caller.Caller.TheVariants.{Desk, Gateway, Guest}

-- a letter, a digit or a hyphen
abbrev pub is_key_character : ℕ → Bool
is_key_character b = (nat_le 65 b && nat_le b 90)
    || ((nat_le 97 b && nat_le b 122) || ((nat_le 48 b && nat_le b 57) || nat_eq b 45))

-- an idempotency key: 1 to 36 of these characters
pub record IsKeyText (text : List ℕ) : Type 0 where
  pub least : 1 ≤ length text
  pub most : length text ≤ 36
  pub characters : list_all is_key_character text ≡ true

-- the bytes of a key, filled up with zeros to 36
abbrev pub key_with_zeros : List ℕ → List ℕ
key_with_zeros v = v ++ replicate (36 - length v) 0

-- the buffer holds a key of that length, and zeros behind it
pub record IsPaddedKey (len : ℕ) (bytes : List ℕ) : Type 0 where
  pub fits : len ≤ 36
  pub shown : length (take len bytes) ≡ len
  pub zeros : key_with_zeros (take len bytes) ≡ bytes
  pub text : IsKeyText (take len bytes)

-- the fingerprint of a request: its caller, its idempotency key, its method, its path, and the bytes of its
-- body
pub record Fingerprint : Type 0 where
  pub caller : Caller
  pub number : List ℕ
  pub method : List ℕ
  pub path : List ℕ
  pub body : List ℕ

-- the device of a guest is a device
abbrev pub IsCaller : Caller → Type 0
IsCaller Desk = Unit {0}
IsCaller Gateway = Unit {0}
IsCaller (Guest device) = IsDevice device

-- what holds of every fingerprint that a program can make
pub record IsFingerprint (mark : Fingerprint) : Type 0 where
  pub caller : IsCaller mark.caller
  pub number : IsKeyText mark.number
  pub method : IsUtf8 mark.method
  pub path : IsUtf8 mark.path

-- the callers are equal
abbrev pub same_caller : Caller → Caller → Bool
same_caller Desk Desk = true
same_caller Gateway Gateway = true
same_caller (Guest d) (Guest e) = bytes_eq d e
same_caller _ _ = false

-- the fingerprints have the same caller and the same idempotency key
abbrev pub same_key : Fingerprint → Fingerprint → Bool
same_key a b = same_caller a.caller b.caller && bytes_eq a.number b.number

-- the fingerprints have the same method, path and body
abbrev pub same_request : Fingerprint → Fingerprint → Bool
same_request a b = bytes_eq a.method b.method && (bytes_eq a.path b.path && bytes_eq a.body b.body)
