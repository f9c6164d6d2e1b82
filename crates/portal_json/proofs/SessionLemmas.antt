-- The text of an open session in a list.
use Rattle.portal_json.proofs.Common.{◌≡◌, ℕ, List, [], ◌∷◌, ◌++◌, Option, Some, None, refl}
use Rattle.portal_json.proofs.Common.{append_assoc, append-nil, compact_text, session_data}
use Rattle.std.specs.Prelude.{codes}
use Rattle.json.specs.Print.{escape, escape_byte}
use Rattle.portal_model.specs.declared.captive.OpenSession.{OpenSession}
use Rattle.portal_model.specs.Device.{IsDevice, text_of_device}
use Rattle.portal_json.specs.Listed.{between}
use Rattle.portal_json.proofs.ListedLemmas.{device_plain, joined}

-- what is appended for a session
abbrev pub session_parts : OpenSession → List (List ℕ)
session_parts s =
    codes "{"
    ∷ between (codes "\"bytes-remaining\":") s.bytes (codes ",")
    ∷ (codes "\"device\":\"" ++ (text_of_device s.device ++ codes "\""))
    ∷ between (codes ",\"seconds-remaining\":") s.seconds []
    ∷ between (codes ",\"session\":") (Some s.number) (codes "}")
    ∷ []

session_of : (n : ℕ) (device : List ℕ) (bytes seconds : Option ℕ)
    → escape (text_of_device device) ≡ text_of_device device
    → joined (session_parts (record { bytes = bytes; device = device; seconds = seconds; number = n }))
    ≡ compact_text (session_data (record { bytes = bytes; device = device; seconds = seconds; number = n }))
unfolding escape_byte
session_of n device None None plain = simp (append_assoc, append-nil, plain) refl
session_of n device None (Some s) plain = simp (append_assoc, append-nil, plain) refl
session_of n device (Some b) None plain = simp (append_assoc, append-nil, plain) refl
session_of n device (Some b) (Some s) plain = simp (append_assoc, append-nil, plain) refl

pub session_text_is : (s : OpenSession) → IsDevice s.device
    → joined (session_parts s) ≡ compact_text (session_data s)
session_text_is s h = session_of s.number s.device s.bytes s.seconds (device_plain s.device h)
