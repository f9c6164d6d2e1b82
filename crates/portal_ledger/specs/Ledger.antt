-- The ledger: the accepted commands, with the fingerprints of idempotent requests.
use Rattle.std.specs.Prelude.{◌≡◌, ℕ, Bool, false, cond, List, [], ◌∷◌, ◌++◌, find, Option, Some, None}
use Rattle.std.specs.Prelude.{option_map, option_and_then, Result, Ok, Err}
use Rattle.std.specs.Option.{option_or, option_to_list}
use Rattle.portal_model.specs.declared.command.Command.{Command}
use Rattle.portal_model.specs.declared.change.Answer.{Answer}
use Rattle.portal_ledger.specs.declared.marked.MarkedChanges.{MarkedChanges}
use Rattle.portal_ledger.specs.declared.request.KeptRequest.{KeptRequest}
use Rattle.portal_model.specs.declared.refusal.Refusal.{Refusal}
use Rattle.portal_model.specs.declared.refusal.Refusal.TheVariants.{IdReused}
use Rattle.portal_ledger.specs.Fingerprint.{Fingerprint, IsFingerprint, same_key, same_request}
use Rattle.portal_model.specs.History.{entry, History, effective_moment}
use Rattle.portal_model.specs.Verdict.{Follows}
use Rattle.portal_model.specs.Change.{changes_of, answer_of}
use Rattle.portal_model.specs.Rows.{Rows, rows_of, rows_after_changes}

-- an accepted command with its time, and with the fingerprint of its request if that had an idempotency key
pub record Accepted : Type 0 where
  pub at : ℕ
  pub command : Command
  pub mark : Option Fingerprint

abbrev pub accepted_command : ℕ → Command → Option Fingerprint → Accepted
accepted_command t command mark = record { at = t; command = command; mark = mark }

-- the accepted commands, the newest first
abbrev pub Ledger : Type 0
Ledger = List Accepted

-- the history of a ledger: the same without the fingerprints
abbrev pub history_of : Ledger → History
history_of [] = []
history_of (a ∷ L) = entry a.at a.command ∷ history_of L

-- Kept requests

-- the answer to the command
abbrev pub answer_in : History → Accepted → Option Answer
answer_in H a = option_map answer_of (changes_of H a.command a.at)

-- a request with its answer
abbrev pub kept_with : Fingerprint → Answer → KeptRequest
kept_with mark answer = record { mark = mark; answer = answer }

-- the kept request of the command: its fingerprint with the answer, if it has a fingerprint
abbrev pub request_kept : History → Accepted → Option KeptRequest
request_kept H a = option_and_then (λ mark. option_map (kept_with mark) (answer_in H a)) a.mark

-- the kept requests, the oldest first: the rows of portal_requests
abbrev pub requests_of : Ledger → List KeptRequest
requests_of [] = []
requests_of (a ∷ L) = requests_of L ++ option_to_list (request_kept (history_of L) a)

-- the command was accepted with the key of that fingerprint
abbrev pub is_under : Fingerprint → Option Fingerprint → Bool
is_under mark None = false
is_under mark (Some own) = same_key own mark

-- the kept request with the key of that fingerprint
abbrev pub held_in : Ledger → Fingerprint → Option KeptRequest
held_in [] mark = None
held_in (a ∷ L) mark =
    option_or (held_in L mark) (cond (is_under mark a.mark) (request_kept (history_of L) a) None)

-- the same, from the rows
abbrev pub request_among : List KeptRequest → Fingerprint → Option KeptRequest
request_among rows mark = find (λ k. same_key k.mark mark) rows

-- The result of a request whose key was used: the kept answer if it is the same request, and an error if it
-- is another. None: no request with the key is kept.
abbrev pub repeat_of : Option KeptRequest → Fingerprint → Result (Option Answer) Refusal
repeat_of None mark = Ok None
repeat_of (Some k) mark = cond (same_request k.mark mark) (Ok (Some k.answer)) (Err IdReused)

-- the kept answer for a request with that fingerprint, or an error; a request without one is never a
-- repetition
abbrev pub repeat_in : Ledger → Option Fingerprint → Result (Option Answer) Refusal
repeat_in L None = Ok None
repeat_in L (Some mark) = repeat_of (held_in L mark) mark

-- the command as it would be accepted: at the effective time
abbrev pub accepted_at : Ledger → ℕ → Command → Option Fingerprint → Accepted
accepted_at L moment command mark = accepted_command (effective_moment (history_of L) moment) command mark

-- the command that a 200 acknowledges as new: a repetition acknowledges none
abbrev pub newly_accepted : Result (Option Answer) Refusal → Accepted → List Accepted
newly_accepted (Ok None) a = a ∷ []
newly_accepted _ a = []

-- Sound ledgers

-- a fingerprint whose key is not used yet, or none
abbrev pub IsKeyFree : Ledger → Option Fingerprint → Type 0
IsKeyFree L None = Unit {0}
IsKeyFree L (Some mark) = IsFingerprint mark × (held_in L mark ≡ None)

-- the command may be accepted after the ledger, with that fingerprint
pub record MayFollow (L : Ledger) (a : Accepted) : Type 0 where
  pub follows : Follows (history_of L) a.at a.command
  pub free : IsKeyFree L a.mark

-- each command may be accepted after those before it
abbrev pub IsSound : Ledger → Type 0
IsSound [] = Unit {0}
IsSound (a ∷ L) = MayFollow L a × IsSound L

-- Rows

-- the rows of all nine tables
pub record AllRows : Type 0 where
  pub rows : Rows
  pub requests : List KeptRequest

abbrev pub all_rows_of : Ledger → AllRows
all_rows_of L = record { rows = rows_of (history_of L); requests = requests_of L }

-- the row of portal_requests for the changes of an idempotent request
abbrev pub request_row : MarkedChanges → Option KeptRequest
request_row m = option_map (λ mark. kept_with mark (answer_of m.changes)) m.mark

-- the rows after the changes: those of the command, and a row of portal_requests if there is a fingerprint
abbrev pub all_rows_after_changes : MarkedChanges → AllRows → AllRows
all_rows_after_changes m r = record {
  rows = rows_after_changes m.changes r.rows;
  requests = r.requests ++ option_to_list (request_row m);
}
