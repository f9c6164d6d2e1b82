-- Details of sessions as values, and as texts.
use Rattle.portal_json.proofs.Common.{◌≡◌, ℕ, Bool, false, ◌||◌, List, [], ◌∷◌, ◌++◌, Option, Some, None}
use Rattle.portal_json.proofs.Common.{refl, ap, ◌∙◌, append_assoc, append-nil, Data, object, no_members}
use Rattle.portal_json.proofs.Common.{compact_text, has_float, put_all, KeyedValue, members_in_order}
use Rattle.portal_json.proofs.Common.{object_of, option_map}
use Rattle.std.specs.Prelude.{codes}
use Rattle.json.specs.Print.{escape, escape_byte}
use Rattle.serde_json.specs.Data.{string}
use Rattle.serde_json.specs.Written.{members_have_float}
use Rattle.portal_json.specs.Objects.{integer}
use Rattle.portal_json.specs.Bodies.{details_keys, end_or_null, open_details_data}
use Rattle.portal_json.specs.Listed.{between}
use Rattle.portal_model.specs.declared.details.End.{End}
use Rattle.portal_model.specs.declared.details.SessionDetails.{SessionDetails}
use Rattle.portal_model.specs.Device.{IsDevice, text_of_device}
use Rattle.portal_model.specs.IdText.{IsIdText}
use Rattle.portal_json.proofs.ListedLemmas.{device_plain, id_plain, joined}
use Rattle.portal_json.proofs.ObjectLemmas.{put_all-rising}

pub details_in_order : (device : Option (List ℕ)) (s : SessionDetails)
    → object (put_all (details_keys device s) no_members) ≡ object_of (details_keys device s)
details_in_order device s = put_all-rising (details_keys device s) refl

-- ---- no number of theirs has a fraction

-- of a value, if there is one
abbrev has_float_if : Option Data → Bool
has_float_if None = false
has_float_if (Some d) = has_float d

-- of one of the values of these keys
abbrev keys_have_float : List KeyedValue → Bool
keys_have_float [] = false
keys_have_float ((key, value) ∷ rest) = has_float_if value || keys_have_float rest

in_members : (keys : List KeyedValue) → members_have_float (members_in_order keys) ≡ keys_have_float keys
in_members [] = refl
in_members ((key, None) ∷ rest) = in_members rest
in_members ((key, Some d) ∷ rest) = ap (λ (b : Bool). has_float d || b) (in_members rest)

whole_integer : (o : Option ℕ) → has_float_if (option_map integer o) ≡ false
whole_integer None = refl
whole_integer (Some n) = refl

whole_string : (o : Option (List ℕ)) → has_float_if (option_map string o) ≡ false
whole_string None = refl
whole_string (Some t) = refl

whole_end : (o : Option End) → has_float (end_or_null o) ≡ false
whole_end None = refl
whole_end (Some end) = refl

pub whole_details : (device : Option (List ℕ)) (s : SessionDetails)
    → has_float (object_of (details_keys device s)) ≡ false
whole_details device s = in_members (details_keys device s)
    ∙ rw (
      whole_integer s.at,
      whole_integer s.bytes,
      whole_string device,
      whole_end s.ended,
      whole_integer s.seconds,
    ) refl

-- ---- in the list of open sessions

-- what is appended for a session
abbrev pub open_details_parts : SessionDetails → List (List ℕ)
open_details_parts s =
    codes "{"
    ∷ between (codes "\"bytes-remaining\":") s.bytes (codes ",")
    ∷ (codes "\"device\":\"" ++ (text_of_device s.device ++ codes "\""))
    ∷ between (codes ",\"opened\":") (Some s.opened) []
    ∷ (codes ",\"plan\":\"" ++ (s.plan ++ codes "\""))
    ∷ between (codes ",\"seconds-remaining\":") s.seconds []
    ∷ between (codes ",\"session\":") (Some s.number) (codes "}")
    ∷ []

details_of : (at bytes seconds : Option ℕ) (ended : Option End) (device plan : List ℕ)
    (opened number used : ℕ)
    → let s : SessionDetails = record {
      at = at;
      bytes = bytes;
      device = device;
      ended = ended;
      opened = opened;
      plan = plan;
      seconds = seconds;
      number = number;
      used = used;
    } in
    escape (text_of_device device) ≡ text_of_device device → escape plan ≡ plan
    → joined (open_details_parts s) ≡ compact_text (open_details_data s)
unfolding escape_byte
details_of at None None ended device plan opened number used named planned =
    simp (append_assoc, append-nil, named, planned) refl
details_of at None (Some s) ended device plan opened number used named planned =
    simp (append_assoc, append-nil, named, planned) refl
details_of at (Some b) None ended device plan opened number used named planned =
    simp (append_assoc, append-nil, named, planned) refl
details_of at (Some b) (Some s) ended device plan opened number used named planned =
    simp (append_assoc, append-nil, named, planned) refl

pub open_details_text_is : (s : SessionDetails) → IsDevice s.device → IsIdText s.plan
    → joined (open_details_parts s) ≡ compact_text (open_details_data s)
open_details_text_is s is_device is_id =
    details_of s.at s.bytes s.seconds s.ended s.device s.plan s.opened s.number s.used
    (device_plain s.device is_device) (id_plain s.plan is_id)
