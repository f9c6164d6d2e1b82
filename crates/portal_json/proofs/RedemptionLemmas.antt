-- The texts of redemptions.
use Rattle.portal_json.proofs.Common.{◌≡◌, ℕ, Bool, true, false, List, [], ◌∷◌, ◌++◌, Some, refl}
use Rattle.portal_json.proofs.Common.{append_assoc, append-nil, compact_text}
use Rattle.std.specs.Prelude.{codes}
use Rattle.json.specs.Print.{escape, escape_byte}
use Rattle.portal_model.specs.declared.redemptions.Redemption.{Redemption}
use Rattle.portal_model.specs.Device.{IsDevice, text_of_device}
use Rattle.portal_json.specs.Bodies.{redemption_data, redemptions_data}
use Rattle.portal_json.specs.Listed.{between, entries_between, word_of_flag}
use Rattle.portal_json.proofs.BatchesLemmas.{flag_is, text_part}
use Rattle.portal_json.proofs.ListedLemmas.{device_plain, joined, list_is}

-- what is appended for a redemption
abbrev pub redemption_parts : Redemption → List (List ℕ)
redemption_parts r =
    between (codes "{\"at\":") (Some r.at) []
    ∷ text_part (codes ",\"device\":\"") (text_of_device r.device)
    ∷ (codes ",\"extended\":" ++ (word_of_flag r.extended ++ []))
    ∷ (codes ",\"open\":" ++ (word_of_flag r.is_open ++ []))
    ∷ between (codes ",\"session\":") (Some r.session) (codes "}")
    ∷ []

redemption_of : (at : ℕ) (device : List ℕ) (extended is_open : Bool) (session : ℕ)
    → escape (text_of_device device) ≡ text_of_device device
    → let r : Redemption = record {
      at = at;
      device = device;
      extended = extended;
      is_open = is_open;
      session = session;
    } in
    joined (redemption_parts r) ≡ compact_text (redemption_data r)
unfolding escape_byte
redemption_of at device true true session named = simp (append_assoc, append-nil, named) refl
redemption_of at device true false session named = simp (append_assoc, append-nil, named) refl
redemption_of at device false true session named = simp (append_assoc, append-nil, named) refl
redemption_of at device false false session named = simp (append_assoc, append-nil, named) refl

pub redemption_text_is : (r : Redemption) → IsDevice r.device
    → joined (redemption_parts r) ≡ compact_text (redemption_data r)
redemption_text_is r device =
    redemption_of r.at r.device r.extended r.is_open r.session (device_plain r.device device)

pub redemptions_text_is : (redemptions : List Redemption) (more : Bool)
    → (codes "{\"more\":" ++ (word_of_flag more ++ codes ","))
    ++ (codes "\"redemptions\":[" ++ (entries_between redemption_data redemptions ++ codes "]}"))
    ≡ compact_text (redemptions_data redemptions more)
unfolding escape_byte
redemptions_text_is redemptions more =
    simp (append_assoc, list_is redemption_data redemptions, flag_is more) refl
