-- One exchange with a peer: the bytes that are read, the run of at most one request, and the bytes that are
-- written.
use Rattle.std.specs.Prelude.{◌≡◌, ◌⊎◌, ℕ, ◌<◌, List, [], ◌∷◌, length, take, Option, Result, Ok, Err}
use Rattle.std.specs.Io.KnownBytes.{Appends, Keeps}
use Rattle.portal_model.specs.declared.refusal.Refusal.{Refusal}
use Rattle.portal_model.specs.Refusal.{status_of}
use Rattle.portal_http_message.specs.declared.responses.ContentType.{ContentType}
use Rattle.portal_http_message.specs.Bytes.{IsResponse}
use Rattle.portal_http_message.specs.declared.received.ReadError.TheVariants as error
use Rattle.portal_http_message.specs.Received.{Incoming}
use Rattle.portal_http_message.specs.Reading.{ReadsRequestBytes, BreaksOff}
use Rattle.portal_http.specs.declared.exchanges.Done.{Done}
use Rattle.portal_http.specs.declared.exchanges.Cause.{Cause}
use Rattle.portal_http.specs.declared.exchanges.Cause.TheVariants.{Read, NoRoom, Write}
use Rattle.portal_http.specs.declared.exchanges.Cut.{Cut}
use Rattle.portal_http.specs.Arrived.{Arrived}
use Rattle.portal_http.specs.Status.{status_in}

-- What is known of the bytes that a peer has still to send and of those that were sent to it, before and
-- after.
pub record Wire : Type 0 where
  pub unread : Option (List ℕ)
  pub unread_after : Option (List ℕ)
  pub sent : Option (List ℕ)
  pub sent_after : Option (List ℕ)

-- those of a reader and a writer, before and after
abbrev pub between : Option (List ℕ) → Option (List ℕ) → Option (List ℕ) → Option (List ℕ) → Wire
between unread unread_after sent sent_after =
    record { unread = unread; unread_after = unread_after; sent = sent; sent_after = sent_after }

-- The status of a response is in its bytes, be it 200 or that of a refusal.
pub record StatusIsInResponse : Type 0 where
  pub accepted : (moment : ℕ) (content_type : ContentType) (allow : Option (List ℕ)) (body response : List ℕ)
      → IsResponse 200 moment content_type allow body response → status_in response ≡ 200
  pub refused : (r : Refusal) (moment : ℕ) (content_type : ContentType) (allow : Option (List ℕ))
      (body response : List ℕ)
      → IsResponse (status_of r) moment content_type allow body response → status_in response ≡ status_of r

-- A request is read, no further than its response needs. It is the one request of a run, and the first
-- bytes of its response are written.
abbrev pub ReadsAndServes : Wire → ℕ → List ℕ → (List Arrived → List (List ℕ) → Type 0) → List ℕ → ℕ → Type 0
ReadsAndServes wire moment seed IsRun response written =
    (received : Incoming) × ReadsRequestBytes wire.unread wire.unread_after received
    × IsRun (record { moment = moment; seed = seed; bytes = received.bytes } ∷ []) (response ∷ [])
    × Appends wire.sent wire.sent_after (take written response)

-- there is no memory for the request, or, once it is read, for any response
abbrev pub IsOutOfMemory : Wire → Type 0
IsOutOfMemory wire =
    BreaksOff wire.unread wire.unread_after error.NoMemory
    ⊎ ((received : Incoming) × ReadsRequestBytes wire.unread wire.unread_after received)

-- By the cause. After a failed read, and if there is no memory, the run has no requests, and nothing is
-- written. After a failed write the request was executed, and fewer bytes were written than the response
-- has.
abbrev pub CutsOff : Wire → ℕ → List ℕ → (List Arrived → List (List ℕ) → Type 0) → Cause → ℕ → ℕ → Type 0
CutsOff wire moment seed IsRun Read written whole =
    (written ≡ 0) × (whole ≡ 0) × BreaksOff wire.unread wire.unread_after error.Read
    × Keeps wire.sent wire.sent_after × IsRun [] []
CutsOff wire moment seed IsRun NoRoom written whole =
    (written ≡ 0) × (whole ≡ 0) × IsOutOfMemory wire × Keeps wire.sent wire.sent_after × IsRun [] []
CutsOff wire moment seed IsRun Write written whole =
    (response : List ℕ) × (whole ≡ length response) × (written < whole)
    × ReadsAndServes wire moment seed IsRun response written

-- How an exchange ends. `IsRun` says which requests with which responses are a run.
abbrev pub EndsExchange : Wire → ℕ → List ℕ → (List Arrived → List (List ℕ) → Type 0)
    → Result Done Cut → Type 0
EndsExchange wire moment seed IsRun (Ok done) =
    (response : List ℕ) × (done.status ≡ status_in response) × (done.written ≡ length response)
    × ReadsAndServes wire moment seed IsRun response (length response)
EndsExchange wire moment seed IsRun (Err cut) = CutsOff wire moment seed IsRun cut.cause cut.written cut.whole
