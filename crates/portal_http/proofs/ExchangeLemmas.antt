-- An exchange as a run of at most one request.
use Rattle.portal_http.proofs.Common.{◌≡◌, ℕ, List, [], ◌∷◌, length, take, refl, sym, subst, Option, Result}
use Rattle.portal_http.proofs.Common.{Ok, Err, Appends, State, SettingsValue, Arrived, Step, ServesInOrder}
use Rattle.std.specs.Io.KnownBytes.{Keeps}
use Rattle.std.proofs.Math.Seq.{take-length}
use Rattle.portal_http.specs.declared.exchanges.Done.{Done}
use Rattle.portal_http.specs.declared.exchanges.Cause.{Cause}
use Rattle.portal_http.specs.declared.exchanges.Cause.TheVariants.{Read, NoRoom, Write}
use Rattle.portal_http.specs.declared.exchanges.Cut.{Cut}
use Rattle.portal_http.specs.Exchanges.{Wire, IsOutOfMemory, ReadsAndServes, CutsOff, EndsExchange}

-- ---- a run of at most one request

pub whole_goes_out : (old new : Option (List ℕ)) (response : List ℕ) → Appends old new response
    → Appends old new (take (length response) response)
whole_goes_out old new response h = subst (Appends old new) (sym (take-length response)) h

-- the step of a request is a run of it
pub one_served : (settings : SettingsValue) (old new : State) (a arrived : Arrived) (response : List ℕ)
    → arrived ≡ a
    → Step settings old arrived response new → ServesInOrder settings old (a ∷ []) (response ∷ []) new
one_served settings old new a arrived response same step =
    (new, subst (λ (x : Arrived). Step settings old x response new) same step, refl)

-- out of memory: nothing was done
pub no_room : (IsRun : List Arrived → List (List ℕ) → Type 0) (wire : Wire) (moment : ℕ)
    (seed : List ℕ) (cut : Cut)
    → cut ≡ record { cause = NoRoom; written = 0; whole = 0 } → IsOutOfMemory wire
    → Keeps wire.sent wire.sent_after → IsRun [] []
    → CutsOff wire moment seed IsRun cut.cause cut.written cut.whole
no_room IsRun wire moment seed cut same full kept none = rw same (refl, refl, full, kept, none)

-- another description of such a run
module _ (IsRun Other : List Arrived → List (List ℕ) → Type 0)
    (also : (xs : List Arrived) (rs : List (List ℕ)) → IsRun xs rs → Other xs rs) (wire : Wire)
    (moment : ℕ) (seed : List ℕ) where
  carries_also : (response : List ℕ) (written : ℕ) → ReadsAndServes wire moment seed IsRun response written
      → ReadsAndServes wire moment seed Other response written
  carries_also response written (received, reads, is_run, out) = (
    received,
    reads,
    also (record { moment = moment; seed = seed; bytes = received.bytes } ∷ []) (response ∷ []) is_run,
    out,
  )

  cuts_also : (cause : Cause) (written whole : ℕ) → CutsOff wire moment seed IsRun cause written whole
      → CutsOff wire moment seed Other cause written whole
  cuts_also Read written whole (none, empty, broken, kept, is_run) =
      (none, empty, broken, kept, also [] [] is_run)
  cuts_also NoRoom written whole (none, empty, full, kept, is_run) =
      (none, empty, full, kept, also [] [] is_run)
  cuts_also Write written whole (response, size, less, carried) =
      (response, size, less, carries_also response written carried)

  pub ends_also : (result : Result Done Cut) → EndsExchange wire moment seed IsRun result
      → EndsExchange wire moment seed Other result
  ends_also (Ok done) (response, status, size, carried) =
      (response, status, size, carries_also response (length response) carried)
  ends_also (Err cut) off = cuts_also cut.cause cut.written cut.whole off
