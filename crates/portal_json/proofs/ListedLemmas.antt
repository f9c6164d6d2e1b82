-- Texts that are put together from left to right, and the text of a JSON value.
use Rattle.portal_json.proofs.Common.{◌≡◌, ℕ, ◌<◌, ◌/◌, ◌%◌, Bool, true, false, ◌&&◌, List, [], ◌∷◌}
use Rattle.portal_json.proofs.Common.{◌++◌, map, arith, refl, sym, ap}
use Rattle.portal_json.proofs.Common.{◌∙◌, append_assoc, append-nil, Data, compact_text, items_of, All}
use Rattle.std.specs.Prelude.{◌≤◌, OnOk, Result, Ok, Err, codes, nat_le}
use Rattle.std.specs.List.{join_with_byte, list_all}
use Rattle.std.proofs.Common.{get_or}
use Rattle.std.proofs.lemmas.Bool.Decides.{nat_tests}
use Rattle.std.proofs.lemmas.List.Elements.{All-append, All-cons, All-head, All-map, All-nil, All-tail}
use Rattle.std.proofs.lemmas.List.Folds.{list_all_at}
use Rattle.json.specs.Print.{escape, escape_byte}
use Rattle.serde_json.specs.Written.{items_text}
use Rattle.portal_codes.specs.Code.{IsCode, alphabet, character_of, text_of}
use Rattle.portal_codes.proofs.Spelling.{All-grouped}
use Rattle.portal_model.specs.Device.{IsDevice, hex_digit, octet_text, text_of_device}
use Rattle.portal_model.specs.IdText.{IsIdText, is_id_character}
use Rattle.portal_json.specs.Bodies.{sessions_list}
use Rattle.portal_json.specs.Listed.{entries_after, entries_between}

-- ---- texts without a character that is escaped

pub plain_byte : (x : ℕ) → 35 ≤ x → (x ≡ 92 → ⊥) → escape_byte x ≡ x ∷ []
unfolding escape_byte
plain_byte x low other = grind (arith, nat_tests)

hex_plain : (digit : ℕ) → digit < 16 → escape_byte (hex_digit digit) ≡ hex_digit digit ∷ []
hex_plain digit h = plain_byte (hex_digit digit) (grind (arith, nat_tests)) (grind (arith, nat_tests))

abbrev IsPlain : ℕ → Type 0
IsPlain x = escape_byte x ≡ x ∷ []

escape_all : (xs : List ℕ) → All IsPlain xs → escape xs ≡ xs
escape_all [] h = refl
escape_all (x ∷ xs) h = ap (λ (first : List ℕ). first ++ escape xs) (All-head IsPlain x xs h)
    ∙ ap (λ (rest : List ℕ). x ∷ rest) (escape_all xs (All-tail IsPlain x xs h))

octet_plain : (octet : ℕ) → octet < 256 → All IsPlain (octet_text octet)
octet_plain octet h =
    All-cons IsPlain (hex_digit (octet / 16)) (hex_digit (octet % 16) ∷ [])
    (hex_plain (octet / 16) (omega arith))
    (All-cons IsPlain (hex_digit (octet % 16)) [] (hex_plain (octet % 16) (omega arith)) (All-nil IsPlain))

colon_plain : IsPlain 58
unfolding escape_byte
colon_plain = refl

octets_plain : (octets : List ℕ) → All (λ x. x < 256) octets
    → All IsPlain (join_with_byte 58 (map octet_text octets))
octets_plain [] h = All-nil IsPlain
octets_plain (a ∷ []) h = octet_plain a (All-head (λ x. x < 256) a [] h)
octets_plain (a ∷ b ∷ rest) h =
    All-append IsPlain (octet_text a) (58 ∷ join_with_byte 58 (map octet_text (b ∷ rest)))
    (octet_plain a (All-head (λ x. x < 256) a (b ∷ rest) h))
    (All-cons IsPlain 58 (join_with_byte 58 (map octet_text (b ∷ rest))) colon_plain
    (octets_plain (b ∷ rest) (All-tail (λ x. x < 256) a (b ∷ rest) h)))

pub device_plain : (octets : List ℕ) → IsDevice octets
    → escape (text_of_device octets) ≡ text_of_device octets
device_plain octets h = escape_all (text_of_device octets) (octets_plain octets h.below)

id_byte_plain : (x : ℕ) → is_id_character x ≡ true → escape_byte x ≡ x ∷ []
id_byte_plain x h = plain_byte x (grind (arith, nat_tests)) (λ e. grind (arith, nat_tests))

ids_plain : (xs : List ℕ) → list_all is_id_character xs ≡ true → escape xs ≡ xs
ids_plain [] h = refl
ids_plain (x ∷ xs) h =
    let parts = both (is_id_character x) (list_all is_id_character xs) h in
    ap (λ (first : List ℕ). first ++ escape xs) (id_byte_plain x parts.0)
    ∙ ap (λ (rest : List ℕ). x ∷ rest) (ids_plain xs parts.1)
  where
    both : (a b : Bool) → (a && b) ≡ true → (a ≡ true) × (b ≡ true)
    both true b h = (refl, h)
    both false b h = absurd (cc)

pub id_plain : (text : List ℕ) → IsIdText text → escape text ≡ text
id_plain text h = ids_plain text h.characters

sign_plain : (value : ℕ) → value < 31 → IsPlain (character_of value)
sign_plain value h = by (is_between (character_of value)) refl
  where
    is_between : ℕ → Bool
    is_between b = nat_le 48 b && nat_le b 90

    by : (b : Bool) → is_between (character_of value) ≡ b → IsPlain (character_of value)
    by true e = plain_byte (character_of value) (grind (arith, nat_tests)) (λ same. grind (arith, nat_tests))
    by false e =
        let all : list_all is_between alphabet ≡ true = refl in
        let no : list_all is_between alphabet ≡ false =
        list_all_at is_between alphabet value 0 (omega arith) e in absurd (cc)

hyphen_plain : IsPlain 45
unfolding escape_byte
hyphen_plain = refl

pub code_plain : (code : List ℕ) → IsCode code → escape (text_of code) ≡ text_of code
code_plain code h = escape_all (text_of code) (All-grouped IsPlain (map character_of code) hyphen_plain
    (All-map IsPlain character_of code (λ k d within. sign_plain (get_or code k d) (h.below k d within))))

-- ---- parts

-- these parts, one behind another
abbrev pub joined : List (List ℕ) → List ℕ
joined [] = []
joined (part ∷ parts) = part ++ joined parts

-- a text to which these parts are appended
abbrev pub appended : List ℕ → List (List ℕ) → List ℕ
appended text [] = text
appended text (part ∷ parts) = appended (text ++ part) parts

pub appended_joined : (text : List ℕ) (parts : List (List ℕ)) → appended text parts ≡ text ++ joined parts
appended_joined text [] = sym (append-nil text)
appended_joined text (part ∷ parts) =
    appended_joined (text ++ part) parts ∙ append_assoc text part (joined parts)

pub ok_along : {X E : Type 0} {P Q : Type 0} (r : Result X E) → (P → Q) → OnOk r P → OnOk r Q
ok_along (Ok x) f h = f h
ok_along (Err e) f h = h

-- a part is appended, and the part is equal to another
pub with_part : {new old before part shown : List ℕ} → new ≡ old ++ part → old ≡ before → part ≡ shown
    → new ≡ before ++ shown
with_part {new} {old} {before} {part} {shown} e o p = e ∙ ap (λ (text : List ℕ). text ++ part) o
    ∙ ap (λ (text : List ℕ). before ++ text) p

-- ---- lists

pub items_are : {A : Type 0} (shown : A → Data) (xs : List A)
    → items_text true (items_of (map shown xs)) ≡ entries_after shown xs ++ 93 ∷ []
items_are shown [] = refl
items_are shown (x ∷ xs) = ap (λ (rest : List ℕ). 44 ∷ (compact_text (shown x) ++ rest)) (items_are shown xs)
    ∙ ap (λ (rest : List ℕ). 44 ∷ rest) (sym (append_assoc (compact_text (shown x)) (entries_after shown xs)
    (93 ∷ [])))

pub list_is : {A : Type 0} (shown : A → Data) (xs : List A)
    → items_text false (items_of (map shown xs)) ≡ entries_between shown xs ++ 93 ∷ []
list_is shown [] = refl
list_is shown (x ∷ xs) = ap (λ (rest : List ℕ). compact_text (shown x) ++ rest) (items_are shown xs)
    ∙ sym (append_assoc (compact_text (shown x)) (entries_after shown xs) (93 ∷ []))

pub list_text_is : {A : Type 0} (shown : A → Data) (xs : List A)
    → codes "{\"sessions\":[" ++ (entries_between shown xs ++ codes "]}")
    ≡ compact_text (sessions_list shown xs)
unfolding escape_byte
list_text_is shown xs = simp (append_assoc, list_is shown xs) refl
