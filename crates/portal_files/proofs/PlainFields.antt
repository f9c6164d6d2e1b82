-- Fields that CSV writes without quotes, and the lines of a print file.
use Rattle.portal_files.proofs.Common.{Bool, ◌≡◌, ℕ, suc, ℤ, pos, negsuc, ◌+◌, ◌/◌, ◌%◌, ◌^◌, ◌<◌, ◌≤◌, true}
use Rattle.portal_files.proofs.Common.{false, nat_le, List, [], ◌∷◌, ◌++◌, map, refl, ◌∙◌, arith, append-nil}
use Rattle.portal_files.proofs.Common.{decimal, All, ◌==◌, list_all, character_of, text_of, IsCode, Date}
use Rattle.portal_files.proofs.Common.{DateTime, date_text, two_digits, amount_text, minute_text, csv_line}
use Rattle.portal_files.proofs.Common.{limit_text}
use Rattle.std.proofs.lemmas.Bool.Decides.{nat_tests}
use Rattle.std.proofs.lemmas.Bool.{cond_both, cond-false, leb-true, agree_below_at}
use Rattle.std.proofs.lemmas.Fmt.{decimal_by_steps}
use Rattle.csv.specs.Writing.{default_writer, needs_byte, field_text, fields_text, is_blank, row_text}
use Rattle.csv.specs.Writing.{needs_quotes, quoted}
use Rattle.portal_model.specs.IdText.{IsIdText, is_id_character}
use Rattle.jiff_fmt.specs.Text.{pad2, year_text}
use Rattle.std.proofs.lemmas.List.Elements.{All-nil, All-cons, All-append, All-map, All-weaker}
use Rattle.std.proofs.lemmas.List.Folds.{list_any_none}
use Rattle.std.proofs.lemmas.List.Sums.{AllPass-from_list_all}
use Rattle.portal_codes.proofs.Spelling.{All-grouped}

-- a byte that needs no quotes
abbrev IsPlainByte : ℕ → Type 0
IsPlainByte b = needs_byte default_writer b ≡ false

-- a field that needs none
pub record IsPlain (field : List ℕ) : Type 0 where
  pub each : All IsPlainByte field

-- the bytes from the hyphen on are plain: comma, quote and line ends come before it
plain-byte : (b : ℕ) → 45 ≤ b → IsPlainByte b
plain-byte b h = grind (arith, nat_tests)

-- a field whose bytes pass a test that plain bytes alone pass
tested : (test : ℕ → Bool) → ((b : ℕ) → test b ≡ true → IsPlainByte b) → (field : List ℕ)
    → list_all test field ≡ true → IsPlain field
tested test plain field e = record {
  each = All-weaker (λ b. test b ≡ true) IsPlainByte plain field (AllPass-from_list_all test field e);
}

-- a word of letters
pub plain-word : (field : List ℕ) → list_all (λ b. nat_le 45 b) field ≡ true → IsPlain field
plain-word = tested (λ b. nat_le 45 b) (λ b h. plain-byte b (leb-true 45 b h))

empty : IsPlain []
empty = record { each = All-nil IsPlainByte }

cons : (b : ℕ) (field : List ℕ) → IsPlainByte b → IsPlain field → IsPlain (b ∷ field)
cons b field first rest = record { each = All-cons IsPlainByte b field first rest.each }

append : (a b : List ℕ) → IsPlain a → IsPlain b → IsPlain (a ++ b)
append a b first rest = record { each = All-append IsPlainByte a b first.each rest.each }

plain-decimal : (n : ℕ) → n < 2 ^ 64 → IsPlain (decimal n)
plain-decimal = decimal_by_steps (λ n ds. IsPlain ds)
    (λ n h. cons (48 + n) [] (plain-byte (48 + n) (omega arith)) empty)
    (λ n ds h rest. append ds ((48 + n % 10) ∷ []) rest
    (cons (48 + n % 10) [] (plain-byte (48 + n % 10) (omega arith)) empty))

plain-two : (n : ℕ) (rest : List ℕ) → IsPlain rest → IsPlain ((48 + n / 10) ∷ (48 + n % 10) ∷ rest)
plain-two n rest h = cons (48 + n / 10) ((48 + n % 10) ∷ rest) (plain-byte (48 + n / 10) (omega arith))
    (cons (48 + n % 10) rest (plain-byte (48 + n % 10) (omega arith)) h)

id-sign : (b : ℕ) → is_id_character b ≡ true → 45 ≤ b
id-sign b h = grind (arith, nat_tests)

pub plain-id : (text : List ℕ) → IsIdText text → IsPlain text
plain-id text is = tested is_id_character (λ b h. plain-byte b (id-sign b h)) text is.characters

-- the characters of codes
plain-code_sign : (v : ℕ) → v < 31 → IsPlainByte (character_of v)
plain-code_sign v h = plain-byte (character_of v)
    (leb-true 45 (character_of v) (agree_below_at (λ v. nat_le 45 (character_of v)) (λ _. true) 31 v refl h))

pub plain-code : (code : List ℕ) → IsCode code → IsPlain (text_of code)
plain-code code is =
    let characters : All IsPlainByte (map character_of code) = All-map IsPlainByte character_of code
    (All-weaker (λ v. v < 31) (λ v. IsPlainByte (character_of v)) plain-code_sign code is.below) in
    record { each = All-grouped IsPlainByte (map character_of code) refl characters }

pub plain-limit : (n : ℕ) → n < 2 ^ 64 → IsPlain (limit_text n)
plain-limit n h =
    cond_both (n == 0) [] (decimal n) (λ text. IsPlain text) (λ _. empty) (λ _. plain-decimal n h)

pub plain-amount : (n : ℕ) → n < 2 ^ 64 → IsPlain (amount_text n)
plain-amount n h =
    append (decimal (n / 100)) (46 ∷ two_digits (n % 100)) (plain-decimal (n / 100) (omega arith))
    (cons 46 (two_digits (n % 100)) refl (plain-two (n % 100) [] empty))

plain-year : (y : ℤ) → IsPlain (year_text y)
plain-year (pos n) = plain-two (n / 100) (pad2 (n % 100)) (plain-two (n % 100) [] empty)
plain-year (negsuc n) = cons 45 _ refl (cons 48 _ refl
    (cons 48 _ refl (plain-two (suc n / 100) (pad2 (suc n % 100)) (plain-two (suc n % 100) [] empty))))

plain-date : (d : Date) → IsPlain (date_text d)
plain-date d =
    let hyphen : IsPlain (45 ∷ []) = cons 45 [] refl empty in
    append _ (pad2 d.day) (append _ (45 ∷ []) (append _ (pad2 d.month)
    (append (year_text d.year) (45 ∷ []) (plain-year d.year) hyphen) (plain-two d.month [] empty)) hyphen)
    (plain-two d.day [] empty)

pub plain-minute : (at : DateTime) → IsPlain (minute_text at)
plain-minute at =
    append (date_text at.date) _ (plain-date at.date)
    (cons 32 _ refl (plain-two at.time.hour _ (cons 58 _ refl (plain-two at.time.minute [] empty))))

-- a plain field is written as it is
field-plain : (f : List ℕ) → IsPlain f → field_text default_writer f ≡ f
field-plain f h = cond-false (needs_quotes default_writer f) (quoted default_writer f) f
    (list_any_none (needs_byte default_writer) f h.each)

-- a row of six plain fields is a line with commas
pub plain-row : (a b c d e f : List ℕ) → IsPlain a → IsPlain b → IsPlain c → IsPlain d → IsPlain e → IsPlain f
    → row_text default_writer (a ∷ b ∷ c ∷ d ∷ e ∷ f ∷ []) ≡ csv_line (a ∷ b ∷ c ∷ d ∷ e ∷ f ∷ [])
unfolding fields_text is_blank
plain-row a b c d e f pa pb pc pd pe pf =
    let a_is = field-plain a pa in let b_is = field-plain b pb in let c_is = field-plain c pc in
    let d_is = field-plain d pd in let e_is = field-plain e pe in
    let f_is : field_text default_writer f ++ [] ≡ f = append-nil _ ∙ field-plain f pf in
    λ i.
    (a_is i ++ 44 ∷ (b_is i ++ 44 ∷ (c_is i ++ 44 ∷ (d_is i ++ 44 ∷ (e_is i ++ 44 ∷ f_is i))))) ++ 10 ∷ []
