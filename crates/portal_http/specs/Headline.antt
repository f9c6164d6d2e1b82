-- What a run of requests leaves after a crash, by the requests and their responses.
--
-- After a crash, the ledger is the one before the run, then the commands that were answered 200, and at
-- most one command more, which was answered `stopped`. Each response, but for those of `no_memory` and
-- `stopped`, is the reply that the ledger so far gives at the time of arrival. A crash within the run is
-- one at its end: a store that has stopped changes nothing more, so the run ends with what the crash left.
--
-- A × B and (x : A) × B read: and, there is; A ⊎ B: or; ⊥: never; ¬ A: not. MatchBool b A B: A if b is
-- true, else B.
use Rattle.std.specs.Prelude.{◌≡◌, ◌⊎◌, ℕ, List, [], ◌∷◌, ◌++◌, length, take, Bool, Option, None, Result, Ok}
use Rattle.std.specs.Prelude.{codes, nat_eq}
use Rattle.std.specs.List.{starts_with}
use Rattle.std.specs.Bool.{MatchBool}
use Rattle.portal_model.specs.declared.command.Command.{Command}
use Rattle.portal_model.specs.declared.refusal.Refusal.TheVariants.{NoMemory, Stopped}
use Rattle.portal_model.specs.Rows.{rows_of}
use Rattle.portal_model.specs.Verdict.{verdict, IsLegal}
use Rattle.portal_model_laws.specs.Laws.{HasGrantsWithin}
use Rattle.portal_ledger.specs.Fingerprint.{Fingerprint}
use Rattle.portal_ledger.specs.Ledger.{Accepted, Ledger, history_of, repeat_in, accepted_at, newly_accepted}
use Rattle.portal_ledger.specs.Ledger.{IsSound}
use Rattle.portal_files.specs.SettingsFile.{SettingsValue}
use Rattle.portal_http_request.specs.declared.operation.Operation.{Operation}
use Rattle.portal_http_request.specs.declared.operation.Operation.TheVariants.{Act}
use Rattle.portal_http_request.specs.declared.rejection.Rejection.{Rejection}
use Rattle.portal_http_request.specs.Checks.{IsChecked}
use Rattle.portal_http.specs.Arrived.{Arrived}
use Rattle.portal_http.specs.Replies.{IsRefusal, IsReply}

-- ---- what was acknowledged

-- the response has the status 200
abbrev pub is_ok : List ℕ → Bool
is_ok response = starts_with nat_eq response (codes "HTTP/1.1 200 ")

-- the ledger with the command of a request, if the command is new; a repetition and any other request add
-- nothing
abbrev pub with_command : Ledger → Result Operation Rejection → ℕ → Ledger
with_command L (Ok (Act command mark)) moment =
    newly_accepted (repeat_in L mark) (accepted_at L moment command mark) ++ L
with_command L _ moment = L

-- the ledger after a request: with its command, if it was answered 200
abbrev pub Acknowledges : SettingsValue → Ledger → Arrived → List ℕ → Ledger → Type 0
Acknowledges settings L a response after = MatchBool (is_ok response)
    ((operation : Result Operation Rejection) × IsChecked settings a.seed a.bytes operation
    × (after ≡ with_command L operation a.moment))
    (after ≡ L)

-- the response is that of `no_memory`, or that of `stopped`
abbrev pub IsFailure : ℕ → List ℕ → Type 0
IsFailure moment response = IsRefusal NoMemory moment response ⊎ IsRefusal Stopped moment response

-- the response is the reply of the ledger at the time of arrival, or that of a failure
abbrev pub Replies : SettingsValue → Ledger → Arrived → List ℕ → Ledger → Type 0
Replies settings L a response after =
    ((operation : Result Operation Rejection) × IsChecked settings a.seed a.bytes operation
    × IsReply settings operation L a.moment response after)
    ⊎ IsFailure a.moment response

-- Requests and their responses, one after another: each response is as above, and the last ledger is the
-- first one with the acknowledged commands.
abbrev pub Leads : SettingsValue → Ledger → List Arrived → List (List ℕ) → Ledger → Type 0
Leads settings L [] [] last = last ≡ L
Leads settings L [] (r ∷ rs) last = ⊥
Leads settings L (a ∷ rest) [] last = ⊥
Leads settings L (a ∷ rest) (r ∷ rs) last =
    (after : Ledger) × Acknowledges settings L a r after × Replies settings L a r after
    × Leads settings after rest rs last

-- A sound ledger, the settings, and a request with its time and its seed determine the response, byte for
-- byte, and the ledger after it, but for a failure.
abbrev pub ResponseIsUnique : Type 0
ResponseIsUnique = (settings : SettingsValue) (L : Ledger) (a : Arrived) (one other : List ℕ)
    (after also : Ledger) → IsSound L → Replies settings L a one after → Replies settings L a other also
    → ¬ IsFailure a.moment one → ¬ IsFailure a.moment other → (one ≡ other) × (after ≡ also)

-- ---- what is in doubt

-- the command of a request as it would be accepted, if it is new and the verdict accepts it
abbrev pub IsAccepted : SettingsValue → Ledger → Arrived → Accepted → Type 0
IsAccepted settings L a own =
    (command : Command) × (mark : Option Fingerprint)
    × IsChecked settings a.seed a.bytes (Ok (Act command mark))
    × (own ≡ accepted_at L a.moment command mark) × (repeat_in L mark ≡ Ok None)
    × (verdict (history_of L) command own.at ≡ None)

-- the command of the first request that was answered `stopped`, if the ledger so far accepts it
abbrev pub IsInDoubt : SettingsValue → Ledger → List Arrived → List (List ℕ) → Accepted → Type 0
IsInDoubt settings L [] rs own = ⊥
IsInDoubt settings L (a ∷ rest) [] own = ⊥
IsInDoubt settings L (a ∷ rest) (r ∷ rs) own =
    (IsRefusal Stopped a.moment r × IsAccepted settings L a own)
    ⊎ ((¬ IsRefusal Stopped a.moment r) × (after : Ledger) × Acknowledges settings L a r after
    × IsInDoubt settings after rest rs own)

-- ---- what is found after a crash

-- What is found after a crash: the ledger with the acknowledged commands, or also with the one in doubt. It
-- is sound, its history is legal, and no code in it has more redemptions (grants) than its plan has uses.
pub record IsFound (settings : SettingsValue) (L : Ledger) (arrivals : List Arrived)
    (responses : List (List ℕ)) (last found : Ledger) : Type 0 where
  pub is : (found ≡ last)
      ⊎ ((own : Accepted) × IsInDoubt settings L arrivals responses own × (found ≡ own ∷ last))
  pub sound : IsSound found
  pub legal : IsLegal (history_of found)
  pub grants : (code : List ℕ) → HasGrantsWithin (rows_of (history_of found)) code

-- The answered requests lead from the ledger to another one. Each crash state holds a ledger that may be
-- found then: that one, or also with the command in doubt, as above.
abbrev pub Survives : (Files : Type 0) → (Files → Type 0) → (Files → Ledger → Type 0) → SettingsValue → Ledger
    → List Arrived → List (List ℕ) → Type 0
Survives Files is_crash_state holds_ledger settings L arrivals responses =
    let answered = take (length responses) arrivals in
    (last : Ledger) × Leads settings L answered responses last
    × ((files : Files) → is_crash_state files
    → (found : Ledger) × holds_ledger files found × IsFound settings L answered responses last found)

-- The requests and their responses determine the ledger that they led to, and the command in doubt.
pub record AcknowledgedIsUnique : Type 0 where
  pub leads : (settings : SettingsValue) (L : Ledger) (arrivals : List Arrived)
      (responses : List (List ℕ)) (last other : Ledger)
      → Leads settings L arrivals responses last → Leads settings L arrivals responses other → last ≡ other
  pub in_doubt : (settings : SettingsValue) (L : Ledger) (arrivals : List Arrived)
      (responses : List (List ℕ)) (own other : Accepted)
      → IsInDoubt settings L arrivals responses own
      → IsInDoubt settings L arrivals responses other → own ≡ other
