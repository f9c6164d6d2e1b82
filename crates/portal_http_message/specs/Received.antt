-- The bytes that were received of a request.
use Rattle.std.specs.Prelude.{ℕ, List}

-- The bytes that were received, and how many of them the last read gave.
pub record Incoming : Type 0 where
  pub bytes : List ℕ
  pub last : ℕ
