-- Sessions one after another: what they keep, what is found after them, and what a repeated request gets.
-- Between
-- two sessions there was a crash, or a close; each may have settings of its own.
--
-- A × B and (x : A) × B read: and, there is; A ⊎ B: or.
use Rattle.std.specs.Prelude.{◌≡◌, ◌⊎◌, ◌≤◌, ◌++◌, ℕ, true, List, [], ◌∷◌, length, take, Some, None, Ok}
use Rattle.portal_model.specs.declared.command.Command.{Command}
use Rattle.portal_model.specs.declared.change.Answer.{Answer}
use Rattle.portal_model.specs.declared.refusal.Refusal.TheVariants.{NoMemory, Stopped}
use Rattle.portal_model.specs.Rows.{rows_of}
use Rattle.portal_model.specs.Verdict.{IsLegal}
use Rattle.portal_model_laws.specs.Laws.{HasGrantsWithin}
use Rattle.portal_ledger.specs.Fingerprint.{Fingerprint}
use Rattle.portal_ledger.specs.Laws.{times_under}
use Rattle.portal_ledger.specs.Ledger.{Accepted, Ledger, history_of, held_in, kept_with, IsSound}
use Rattle.portal_ledger.specs.States.{State, running, stopped}
use Rattle.portal_ledger.specs.declared.request.KeptRequest.{KeptRequest}
use Rattle.portal_files.specs.SettingsFile.{SettingsValue}
use Rattle.portal_http_request.specs.Checks.{IsChecked}
use Rattle.portal_http_request.specs.declared.operation.Operation.TheVariants.{Act}
use Rattle.portal_http.specs.Arrived.{Arrived}
use Rattle.portal_http.specs.Headline.{Leads, IsInDoubt, is_ok}
use Rattle.portal_http.specs.Replies.{IsAnswer, IsRefusal}
use Rattle.portal_http.specs.Runs.{Step}

-- A session: no desk was opened, or a desk was opened with these settings, and served some of these requests
-- with these responses.
pub data ServerSession : Type 0 where
  without_desk : ServerSession
  with_desk : SettingsValue → List Arrived → List (List ℕ) → ServerSession

-- The ledger, then for each session the commands that were answered 200, in order, and at most one command
-- more, which was answered `stopped`; and nothing else.
abbrev pub IsKeptByExecution : Ledger → List ServerSession → Ledger → Type 0
IsKeptByExecution L [] found = found ≡ L
IsKeptByExecution L (without_desk ∷ server_sessions) found = IsKeptByExecution L server_sessions found
IsKeptByExecution L (with_desk settings arrivals responses ∷ server_sessions) found =
    let answered = take (length responses) arrivals in
    (last next : Ledger) × Leads settings L answered responses last
    × ((next ≡ last) ⊎ ((own : Accepted) × IsInDoubt settings L answered responses own × (next ≡ own ∷ last)))
    × IsKeptByExecution next server_sessions found

-- ---- what was answered to requests with an idempotency key

-- The response to a request with an idempotency key, if it is a 200, has the answer that the ledger holds
-- under its caller and key.
abbrev pub IsAsHeld : SettingsValue → Ledger → Arrived → List ℕ → Type 0
IsAsHeld settings L a response = is_ok response ≡ true → (command : Command) (mark : Fingerprint)
    → IsChecked settings a.seed a.bytes (Ok (Act command (Some mark)))
    → (kept : KeptRequest) × (held_in L mark ≡ Some kept) × IsAnswer kept.answer a.moment response

-- Each request that was answered, in order.
abbrev pub AreAsHeld : SettingsValue → Ledger → List Arrived → List (List ℕ) → Type 0
AreAsHeld settings L arrivals [] = Unit {0}
AreAsHeld settings L [] (r ∷ rs) = Unit {0}
AreAsHeld settings L (a ∷ rest) (r ∷ rs) = IsAsHeld settings L a r × AreAsHeld settings L rest rs

-- In all sessions.
abbrev pub AllAsHeld : Ledger → List ServerSession → Type 0
AllAsHeld L [] = Unit {0}
AllAsHeld L (without_desk ∷ sessions) = AllAsHeld L sessions
AllAsHeld L (with_desk settings arrivals responses ∷ sessions) =
    AreAsHeld settings L arrivals responses × AllAsHeld L sessions

-- ---- what is found

-- A ledger that was kept by sessions: its history is legal, no code in it has more redemptions (grants) than
-- its plan has uses, no idempotency key of a caller was accepted twice, and each 200 to a request with a key
-- has the answer that is held under it.
pub record IsFoundAfter (sessions : List ServerSession) (found : Ledger) : Type 0 where
  pub legal : IsLegal (history_of found)
  pub grants : (code : List ℕ) → HasGrantsWithin (rows_of (history_of found)) code
  pub once : (mark : Fingerprint) → times_under found mark ≤ 1
  pub as_held : AllAsHeld found sessions

-- Whatever the sessions were, such a ledger is found.
abbrev pub SessionsAreKept : Type 0
SessionsAreKept = (L found : Ledger) (sessions : List ServerSession) → IsKeptByExecution L sessions found
    → IsSound found → IsFoundAfter sessions found

-- Sessions, and others over what they left, are sessions.
abbrev pub SessionsFollow : Type 0
SessionsFollow = (L mid found : Ledger) (sessions later : List ServerSession)
    → IsKeptByExecution L sessions mid → IsKeptByExecution mid later found
    → IsKeptByExecution L (sessions ++ later) found

-- ---- a retry

-- The ledger holds a command that was accepted with this fingerprint, which is a caller, its idempotency key,
-- a
-- method, a path and a body; and the command was given this answer.
abbrev pub HoldsAnswered : Ledger → Fingerprint → Answer → Type 0
HoldsAnswered L mark answer = held_in L mark ≡ Some (kept_with mark answer)

-- The response has the answer, with the date of its own time of arrival, or it is that of `no_memory` or
-- `stopped`. No command is added.
abbrev pub IsAnsweredAgain : Answer → Ledger → ℕ → List ℕ → State → Type 0
IsAnsweredAgain answer L moment response new =
    ((IsAnswer answer moment response ⊎ IsRefusal NoMemory moment response) × (new ≡ running L))
    ⊎ (IsRefusal Stopped moment response × (new ≡ stopped L None))

-- Once a request with an idempotency key was accepted, whether or not its response was read, each later one
-- with the same fingerprint that passes the checks is answered again: in the same session or in a later one,
-- and after any other requests.
pub record RetryIsSafe : Type 0 where
  pub accepted : (L : Ledger) (a : Accepted) (mark : Fingerprint) → IsSound (a ∷ L) → a.mark ≡ Some mark
      → (answer : Answer) × HoldsAnswered (a ∷ L) mark answer
  pub answered : (L next now : Ledger) (mark : Fingerprint) (answer : Answer) (sessions : List ServerSession)
      → HoldsAnswered L mark answer → IsKeptByExecution L sessions next
      → (settings : SettingsValue) (before : List Arrived) (responses : List (List ℕ))
      → Leads settings next before responses now
      → (a : Arrived) (command : Command) → IsChecked settings a.seed a.bytes (Ok (Act command (Some mark)))
      → (response : List ℕ) (new : State) → Step settings (running now) a response new
      → IsAnsweredAgain answer now a.moment response new
