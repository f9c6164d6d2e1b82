-- The status in the bytes of a response.
use Rattle.std.specs.Prelude.{ℕ, ◌+◌, ◌-◌, ◌*◌, List, get_or}

-- the digit at a place of a response
abbrev pub digit_at : List ℕ → ℕ → ℕ
digit_at response place = get_or response place 48 - 48

-- the status of a response: the three digits after `HTTP/1.1 `
abbrev pub status_in : List ℕ → ℕ
status_in response = 100 * digit_at response 9 + 10 * digit_at response 10 + digit_at response 11
