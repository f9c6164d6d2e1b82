-- Who sends a request, and with which idempotency key.
use Rattle.std.specs.Prelude.{◌≡◌, ℕ, List, Bool, false, Option, Some, None, option_map, Result, Ok, Err}
use Rattle.std.specs.Prelude.{bytes_eq, IsUtf8}
use Rattle.portal_model.specs.declared.refusal.Refusal.{Refusal}
use Rattle.portal_model.specs.declared.refusal.Refusal.TheVariants.{BadRequest}
use Rattle.portal_model.specs.Device.{SpellsDevice}
use Rattle.portal_ledger.specs.declared.caller.Caller.{Caller}
use Rattle.portal_ledger.specs.Fingerprint.{Fingerprint, IsKeyText}
use Rattle.portal_http_message.specs.declared.errors.HeadError.{HeadError}
use Rattle.portal_http_message.specs.Message.{Message}
use Rattle.portal_http_routes.specs.Targets.{path_of}

-- the value of a field is the text of a device
abbrev pub NamesDevice : List ℕ → List ℕ → Type 0
NamesDevice field device = IsUtf8 field × SpellsDevice field device

-- a guest is identified by the one field that names its device
abbrev pub IsGuest : Option (List ℕ) → Option (List ℕ) → Type 0
IsGuest None found = found ≡ None
IsGuest (Some field) (Some device) = NamesDevice field device
IsGuest (Some field) None = (device : List ℕ) → ¬ (NamesDevice field device)

-- the desk and the gateway are identified by the one field with their token
abbrev pub holds_token : List ℕ → Option (List ℕ) → Bool
holds_token token None = false
holds_token token (Some field) = bytes_eq field token

-- the value of a field is an idempotency key
abbrev pub IsKey : List ℕ → Type 0
IsKey field = IsUtf8 field × IsKeyText field

-- The idempotency key of a request, if it has the field. More than one such field, or a value that is not a
-- key, is an error.
abbrev pub ReadsKey : Result (Option (List ℕ)) HeadError → Result (Option (List ℕ)) Refusal → Type 0
ReadsKey (Ok None) number = number ≡ Ok None
ReadsKey (Ok (Some field)) (Ok number) = IsKey field × (number ≡ Some field)
ReadsKey (Ok (Some field)) (Err r) = (r ≡ BadRequest) × (¬ (IsKey field))
ReadsKey (Err error) number = number ≡ Err BadRequest

-- the fingerprint of a request with that idempotency key
abbrev pub fingerprint_with : Message → Caller → List ℕ → Fingerprint
fingerprint_with m caller number =
    record { caller = caller; number = number; method = m.method; path = path_of m.target; body = m.body }

-- its fingerprint, if it has an idempotency key
abbrev pub fingerprint_of : Message → Caller → Option (List ℕ) → Option Fingerprint
fingerprint_of m caller number = option_map (fingerprint_with m caller) number
