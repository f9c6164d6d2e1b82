-- Where the reading of a request ends.
use Rattle.std.specs.Prelude.{◌≡◌, ℕ, ◌<◌, ◌≤◌, ◌⊎◌, List, ◌++◌, length, Option}
use Rattle.std.specs.Io.KnownBytes.{Consumes, IsAtEnd}
use Rattle.portal_http_message.specs.Limits.{piece_limit}
use Rattle.portal_http_message.specs.declared.received.ReadError.{ReadError}
use Rattle.portal_http_message.specs.declared.received.ReadError.TheVariants.{Read, NoMemory}
use Rattle.portal_http_message.specs.Decided.{IsDecided, IsIncomplete}
use Rattle.portal_http_message.specs.Received.{Incoming}

-- Before the last read, which gave the last so many bytes, the response was not decided.
abbrev pub IsIncompleteBefore : ℕ → List ℕ → Type 0
IsIncompleteBefore last bytes =
    (front piece : List ℕ) × (bytes ≡ front ++ piece) × (length piece ≡ last)
    × (last ≤ piece_limit) × IsIncomplete front

-- From the old remaining input to the new one a request is read: until its response is decided, or the last
-- read found the end of the input; and no further.
pub record ReadsRequestBytes (old new : Option (List ℕ)) (received : Incoming) : Type 0 where
  pub read : Consumes old new received.bytes
  pub enough : IsDecided received.bytes ⊎ ((received.last ≡ 0) × IsAtEnd new)
  pub not_late : IsIncompleteBefore received.last received.bytes

-- Reading breaks off before the response is decided: at a read that fails and takes nothing, or at a piece
-- for which there is no memory.
abbrev pub BreaksOff : Option (List ℕ) → Option (List ℕ) → ReadError → Type 0
BreaksOff old new Read = (bytes : List ℕ) × Consumes old new bytes × IsIncomplete bytes
BreaksOff old new NoMemory =
    (bytes piece : List ℕ) × Consumes old new (bytes ++ piece) × (0 < length piece)
    × (length piece ≤ piece_limit) × IsIncomplete bytes
