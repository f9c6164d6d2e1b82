-- The reply of a ledger to a request, and the ledger after it, without settings and bytes.
use Rattle.std.specs.Prelude.{◌≡◌, ℕ, ◌∷◌, Option, Some, None, Result, Ok, Err}
use Rattle.portal_model.specs.declared.command.Command.{Command}
use Rattle.portal_model.specs.declared.change.Answer.{Answer}
use Rattle.portal_model.specs.declared.change.Changes.{Changes}
use Rattle.portal_model.specs.declared.refusal.Refusal.{Refusal}
use Rattle.portal_model.specs.Verdict.{verdict}
use Rattle.portal_model.specs.Change.{changes_of, answer_of}
use Rattle.portal_ledger.specs.Fingerprint.{Fingerprint}
use Rattle.portal_ledger.specs.Ledger.{Accepted, Ledger, history_of, repeat_in, accepted_at}

-- a checked request: a query, or a command with a fingerprint or without one
pub data CallRequest : Type 0 where
  asks : CallRequest
  acts : Command → Option Fingerprint → CallRequest

-- the response
pub data CallResponse : Type 0 where
  query_result : CallResponse
  command_answer : Answer → CallResponse
  refuses : Refusal → CallResponse

-- the response to a command that is not a repetition, by its verdict
abbrev pub RepliesByVerdict : Option Refusal → Ledger → Accepted → CallResponse → Ledger → Type 0
RepliesByVerdict (Some r) L a response after = (response ≡ refuses r) × (after ≡ L)
RepliesByVerdict None L a response after =
    (changes : Changes) × (changes_of (history_of L) a.command a.at ≡ Some changes)
    × (response ≡ command_answer (answer_of changes)) × (after ≡ a ∷ L)

-- the response to a command, by the kept request with its key
abbrev pub RepliesByKey : Result (Option Answer) Refusal → Ledger → Accepted → CallResponse → Ledger → Type 0
RepliesByKey (Err r) L a response after = (response ≡ refuses r) × (after ≡ L)
RepliesByKey (Ok (Some answer)) L a response after = (response ≡ command_answer answer) × (after ≡ L)
RepliesByKey (Ok None) L a response after =
    RepliesByVerdict (verdict (history_of L) a.command a.at) L a response after

-- the response that the ledger determines, and the ledger after the request
abbrev pub IsCallReply : Ledger → CallRequest → ℕ → CallResponse → Ledger → Type 0
IsCallReply L asks moment response after = (response ≡ query_result) × (after ≡ L)
IsCallReply L (acts command mark) moment response after =
    RepliesByKey (repeat_in L mark) L (accepted_at L moment command mark) response after
