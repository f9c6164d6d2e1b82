-- The texts that are ids of plans and batches.
use Rattle.std.specs.Prelude.{◌≡◌, ℕ, ◌≤◌, Bool, true, ◌||◌, ◌&&◌, nat_eq, nat_le, List, length}
use Rattle.std.specs.List.{list_all}

-- a lower-case letter, a digit or a hyphen
abbrev pub is_id_character : ℕ → Bool
is_id_character b = (nat_le 97 b && nat_le b 122) || ((nat_le 48 b && nat_le b 57) || nat_eq b 45)

-- 1 to 32 of these characters
pub record IsIdText (text : List ℕ) : Type 0 where
  pub least : 1 ≤ length text
  pub most : length text ≤ 32
  pub characters : list_all is_id_character text ≡ true
