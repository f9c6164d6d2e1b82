-- Amounts of money as text, and columns.
use Rattle.std.specs.Prelude.{ℕ, ◌+◌, ◌-◌, ◌/◌, ◌%◌, List, [], ◌∷◌, ◌++◌, length, replicate, decimal}

-- a number below 100, in two digits
abbrev pub two_digits : ℕ → List ℕ
two_digits n = (48 + n / 10) ∷ (48 + n % 10) ∷ []

-- hundredths, as whole units, a point and two digits
abbrev pub amount_text : ℕ → List ℕ
amount_text n = decimal (n / 100) ++ 46 ∷ two_digits (n % 100)

-- the text, aligned to the right in so many columns
abbrev pub right_in : ℕ → List ℕ → List ℕ
right_in places text = replicate (places - length text) 32 ++ text

-- the text, aligned to the left in so many columns
abbrev pub left_in : ℕ → List ℕ → List ℕ
left_in places text = text ++ replicate (places - length text) 32
