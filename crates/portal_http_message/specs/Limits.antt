-- The limits of a request.
use Rattle.std.specs.Prelude.{ℕ}

-- the greatest length of a head in bytes, with the empty line at its end
abbrev pub head_limit : ℕ
head_limit = 8192

-- the greatest number of fields in a head
abbrev pub field_limit : ℕ
field_limit = 32

-- the greatest length of a body in bytes
abbrev pub body_limit : ℕ
body_limit = 65536

-- the lines of the request line, and of one field more than a head can have
abbrev pub line_limit : ℕ
line_limit = 34

-- the greatest number of bytes that one read gives
abbrev pub piece_limit : ℕ
piece_limit = 4096
