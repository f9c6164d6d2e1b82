-- The lines of a head that is not complete yet.
use Rattle.std.specs.Prelude.{ℕ, ◌≤◌, ◌||◌, ◌==◌, if◌then◌else◌, List, [], ◌∷◌, count_by}
use Rattle.portal_http_message.specs.Limits.{line_limit}

-- the bytes without the carriage returns and line feeds at the start
unfoldable pub from_start : List ℕ → List ℕ
from_start [] = []
from_start (b ∷ rest) = if b == 13 || b == 10 then from_start rest else b ∷ rest

-- so many line feeds that the head has more than `field_limit` fields
abbrev pub HasTooManyLines : List ℕ → Type 0
HasTooManyLines bytes = line_limit ≤ count_by (λ b. b == 10) (from_start bytes)
