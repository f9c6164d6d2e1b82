-- When the first bytes of a request decide its response.
use Rattle.std.specs.Prelude.{ℕ, ◌+◌, ◌<◌, ◌≤◌, ◌⊎◌, List, length, take, None, Result, Ok, Err, ⊤}
use Rattle.httparse.specs.Grammar.{RequestHead, NeverHasRequest, EndsInTarget}
use Rattle.portal_http_message.specs.Limits.{head_limit, body_limit}
use Rattle.portal_http_message.specs.declared.errors.HeadError.{HeadError}
use Rattle.portal_http_message.specs.Lines.{HasTooManyLines}
use Rattle.portal_http_message.specs.Message.{BeginsWith, HeadOf, bytes_after, length_of}

-- the fields are in error, or the bytes after the head hold the declared body
abbrev pub IsSettled : Result ℕ HeadError → ℕ → Type 0
IsSettled (Err error) there = ⊤
IsSettled (Ok declared) there = declared ≤ there

-- a complete head decides the response
abbrev pub IsDecidedByHead : List ℕ → Type 0
IsDecidedByHead bytes =
    (head : RequestHead) × BeginsWith (take head_limit bytes) head
    × IsSettled (length_of head) (length (bytes_after head bytes))

-- too many bytes or lines for a head that is not complete yet
abbrev pub ExceedsHeadLimits : List ℕ → Type 0
ExceedsHeadLimits bytes = (head_limit ≤ length bytes) ⊎ HasTooManyLines bytes

-- there is no head, and no further bytes can make one
abbrev pub IsDecidedWithout : List ℕ → Type 0
IsDecidedWithout bytes = HeadOf bytes None × (ExceedsHeadLimits bytes ⊎ NeverHasRequest bytes)

-- the response is decided
abbrev pub IsDecided : List ℕ → Type 0
IsDecided bytes = IsDecidedByHead bytes ⊎ IsDecidedWithout bytes

-- The response is not decided; or the bytes end within a target, whose UTF-8 is tested at its end only.
pub record IsIncomplete (bytes : List ℕ) : Type 0 where
  pub not_by_head : ¬ (IsDecidedByHead bytes)
  pub undecided : (¬ (IsDecided bytes)) ⊎ EndsInTarget bytes
  pub short : length bytes < head_limit + body_limit
