-- What single steps find. Only the contracts of private functions use these words.
use Rattle.std.specs.Prelude.{◌≡◌, ℕ, ◌<◌, ◌≤◌, ◌⊎◌, List, [], ◌∷◌, ◌++◌, length, take, Option, None, Result}
use Rattle.std.specs.Prelude.{Ok, Err, IfOk}
use Rattle.std.specs.Io.KnownBytes.{Consumes, Keeps, IsAtEnd}
use Rattle.httparse.specs.Grammar.{RequestHead, NeverHasRequest, MayBecomeRequest}
use Rattle.httparse.specs.Spans.{IsRequestAt, IsRequestWithin}
use Rattle.portal_http_message.specs.Limits.{head_limit, body_limit, piece_limit}
use Rattle.portal_http_message.specs.declared.fields.Occurrence.{Occurrence}
use Rattle.portal_http_message.specs.declared.fields.Occurrence.TheVariants.{Absent, Once, Repeated}
use Rattle.portal_http_message.specs.declared.head.FoundHead.{FoundHead}
use Rattle.portal_http_message.specs.declared.head.Finding.{Finding}
use Rattle.portal_http_message.specs.declared.head.Finding.TheVariants as finding
use Rattle.portal_http_message.specs.declared.received.ReadError.{ReadError}
use Rattle.portal_http_message.specs.declared.received.ReadError.TheVariants.{Read, NoMemory}
use Rattle.portal_http_message.specs.Lines.{HasTooManyLines}
use Rattle.portal_http_message.specs.Message.{BeginsWith, HeadOf, length_of}
use Rattle.portal_http_message.specs.Received.{Incoming}

-- ---- the fields of a name

-- the values of a name: none, that one, or more than one
abbrev pub IsOccurrence : List (List ℕ) → Occurrence → Type 0
IsOccurrence values Absent = values ≡ []
IsOccurrence values (Once value) = values ≡ value.now ∷ []
IsOccurrence values Repeated =
    (value other : List ℕ) × (rest : List (List ℕ)) × (values ≡ value ∷ other ∷ rest)

-- ---- a head

-- The bytes begin with the head; its parts and its length are at those places.
pub record IsHeadAt (bytes : List ℕ) (at : FoundHead) (head : RequestHead) : Type 0 where
  pub begins : BeginsWith (take head_limit bytes) head
  pub early : at.spans.len ≤ head_limit
  pub within : IsRequestWithin bytes at.headers at.spans
  pub is_at : IsRequestAt bytes at.headers at.spans head
  pub declared : at.declared ≡ length_of head
  pub small : IfOk at.declared (λ length. length ≤ body_limit)

-- the complete head; or no head yet; or no head with any further bytes
abbrev pub IsFinding : List ℕ → Finding → Type 0
IsFinding bytes (finding.Whole at) = (head : RequestHead) × IsHeadAt bytes at head
IsFinding bytes finding.Unfinished = HeadOf bytes None × MayBecomeRequest (take head_limit bytes)
IsFinding bytes finding.Invalid =
    HeadOf bytes None × (HasTooManyLines (take head_limit bytes) ⊎ NeverHasRequest (take head_limit bytes))

-- ---- one read

-- A read gave a piece, which is empty only at the end of the input, and it was added; or the read failed
-- and took nothing; or there was no memory for the piece that it took.
abbrev pub Receives : Option (List ℕ) → Option (List ℕ) → Incoming → Incoming → Result ℕ ReadError → Type 0
Receives old new before after (Ok count) =
    (piece : List ℕ) × Consumes old new piece
    × (after ≡ record { bytes = before.bytes ++ piece; last = count })
    × (length piece ≡ count) × (count ≤ piece_limit) × (count ≡ 0 → IsAtEnd new)
Receives old new before after (Err Read) = Keeps old new
Receives old new before after (Err NoMemory) =
    (piece : List ℕ) × Consumes old new piece × (0 < length piece) × (length piece ≤ piece_limit)
