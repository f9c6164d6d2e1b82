-- The first characters of a code, by which vouchers are found.
use Rattle.std.specs.Prelude.{ℕ, ◌<◌, ◌%◌, Bool, cond, ◌&&◌, nat_eq, nat_le, nat_lt, List, [], ◌∷◌, length}
use Rattle.std.specs.Prelude.{All}
use Rattle.std.specs.Prelude.{Option, Some, None}
use Rattle.std.specs.List.{list_all, list_any}
use Rattle.portal_codes.specs.Code.{alphabet, characters_in, in_groups}

-- a character of codes
abbrev pub is_sign : ℕ → Bool
is_sign b = list_any (λ sign. nat_eq sign b) alphabet

-- 4 to 15 characters of codes
abbrev pub are_first_signs : List ℕ → Bool
are_first_signs signs = nat_le 4 (length signs) && (nat_le (length signs) 15 && list_all is_sign signs)

-- the first characters of a code that a text spells, as they are printed; spaces and hyphens are ignored, and
-- the letters may be small
abbrev pub start_in : List ℕ → Option (List ℕ)
start_in text =
    let signs = characters_in text in cond (are_first_signs signs) (Some (in_groups signs)) None

-- a character at that place among others as it is printed: a hyphen is before it where a group of four begins
abbrev pub in_place : ℕ → ℕ → List ℕ
in_place place sign = cond (nat_lt 0 place && nat_eq (place % 4) 0) (45 ∷ sign ∷ []) (sign ∷ [])

-- a printed text is not empty, and is ASCII
pub record IsPrinted (text : List ℕ) : Type 0 where
  pub some : 0 < length text
  pub ascii : All (λ b. b < 128) text
