-- The result of each call of a desk, and the states before and after it.
use Rattle.std.specs.Prelude.{◌≡◌, ◌≢◌, ◌⊎◌, ℕ, Bool, true, false, Option, Some, None, Result, Ok, Err}
use Rattle.std.specs.Prelude.{MatchResult}
use Rattle.portal_model.specs.declared.command.Command.{Command}
use Rattle.portal_model.specs.declared.change.Answer.{Answer}
use Rattle.portal_model.specs.declared.refusal.Refusal.{Refusal}
use Rattle.portal_model.specs.declared.refusal.Refusal.TheVariants.{NoMemory, Stopped}
use Rattle.portal_model.specs.History.{History, effective_moment}
use Rattle.portal_model.specs.Verdict.{verdict}
use Rattle.portal_files.specs.SettingsFile.{SettingsValue}
use Rattle.portal_ledger.specs.declared.marked.MarkedChanges.{MarkedChanges}
use Rattle.portal_ledger.specs.Fingerprint.{Fingerprint}
use Rattle.portal_ledger.specs.Ledger.{Accepted, Ledger, history_of, repeat_in, accepted_at}
use Rattle.portal_ledger.specs.States.{State, running, stopped}
use Rattle.portal_ledger.specs.Calls.{ReadsOf, ReadsThat, Fits, FailsToRead, FailsToKeep}
use Rattle.portal_desk.specs.declared.prepared.Marked.{Marked}
use Rattle.portal_desk.specs.declared.prepared.Marked.TheVariants.{Fresh, Kept}

-- the desk has stopped
abbrev pub is_stopped_state : State → Bool
is_stopped_state (running L) = false
is_stopped_state (stopped L doubt) = true

-- Whether the desk has stopped, before an error and after it: after `Stopped` it has, and any other error
-- leaves that unchanged.
abbrev pub RefusalGivesStop : Bool → Bool → Refusal → Type 0
RefusalGivesStop old new r = ((r ≡ Stopped) × (new ≡ true)) ⊎ ((r ≢ Stopped) × (new ≡ old))

-- the same for a call, whatever the disk did: a result without an error leaves it unchanged
abbrev pub KeepsStop : {T : Type 0} → Bool → Bool → Result T Refusal → Type 0
KeepsStop old new result = MatchResult result (λ _. new ≡ old) (RefusalGivesStop old new)

-- over several calls of a desk: a stopped desk stays stopped
abbrev pub StaysStopped : Bool → Bool → Type 0
StaysStopped old new = old ≡ true → new ≡ true

-- A call of a desk, by the desk's relations. Whatever the disk did, the settings are unchanged, and the
-- result tells whether the desk has stopped. A disk that is fault-free after the call was so before it, and
-- then the call leads from the state before to a state after.
pub record Moves {D A : Type 0} (settings : D → SettingsValue) (is_fault_free : D → Type 0)
    (has_stopped : D → Bool) (represents : D → State → Type 0)
    (old new : D) (result : Result A Refusal) (Step : State → State → Type 0) : Type 0 where
  pub same_settings : settings new ≡ settings old
  pub fault_free : is_fault_free new → is_fault_free old
  pub stops : KeepsStop (has_stopped old) (has_stopped new) result
  pub step : is_fault_free new → (before : State) → represents old before
      → (after : State) × represents new after × Step before after

-- the result is the one that the history determines, and the state is unchanged
abbrev pub Answers : {A : Type 0} → (History → A) → State → A → State → Type 0
Answers given old answer new = ReadsThat old (λ H. answer ≡ given H) new

-- the call fails: out of memory leaves the state unchanged, an error of the database stops the desk, and a
-- stopped desk stays stopped
abbrev pub CannotAnswer : State → Refusal → State → Type 0
CannotAnswer old r new = FailsToRead NoMemory Stopped old r new

-- the result holds of the history and the state is unchanged, or the call fails
abbrev pub Returns : {A : Type 0} → Result A Refusal → (A → History → Type 0) → State → State → Type 0
Returns result Is old new =
    MatchResult result (λ found. ReadsThat old (λ H. Is found H) new) (λ r. CannotAnswer old r new)

-- the history has no such record, and the error says so, or the call fails
abbrev pub RefusesUnknown : {A : Type 0} → Refusal → (History → Option A) → State → Refusal → State → Type 0
RefusesUnknown unknown given old r new = ((r ≡ unknown) × Answers given old None new) ⊎ CannotAnswer old r new

-- the result is the record of the history, or an error if there is none
abbrev pub Finds : {A : Type 0} → Refusal → (History → Option A) → Result A Refusal → State → State → Type 0
Finds unknown given result old new =
    MatchResult result (λ found. Answers given old (Some found) new)
    (λ r. RefusesUnknown unknown given old r new)

-- the result holds of the record of the history, or an error if there is none
abbrev pub FindsThat : {A X : Type 0} → Refusal → (History → Option X) → (A → X → History → Type 0)
    → Result A Refusal → State → State → Type 0
FindsThat {X = X} unknown given Is result old new =
    MatchResult result (λ found. ReadsThat old (λ H. (x : X) × (given H ≡ Some x) × Is found x H) new)
    (λ r. RefusesUnknown unknown given old r new)

-- a command that is not a repetition and that the verdict accepts, with its changes and its fingerprint;
-- nothing is committed yet
abbrev pub Prepares : State → Command → ℕ → Option Fingerprint → MarkedChanges → State → Type 0
Prepares old command moment mark marked new =
    ReadsOf old
    (λ L. (repeat_in L mark ≡ Ok None) × Fits (running L) marked (accepted_at L moment command mark)) new

-- a repetition, with the kept answer
abbrev pub Repeats : State → Fingerprint → Answer → State → Type 0
Repeats old mark answer new = ReadsOf old (λ L. repeat_in L (Some mark) ≡ Ok (Some answer)) new

-- an idempotent request: a new one, or a repetition
abbrev pub PreparesMarked : State → Command → ℕ → Fingerprint → Marked → State → Type 0
PreparesMarked old command moment mark (Fresh prepared) new =
    Prepares old command moment (Some mark) prepared new
PreparesMarked old command moment mark (Kept answer) new = Repeats old mark answer new

-- the error of a command after the ledger: its idempotency key was used for another request, or else its
-- verdict
abbrev pub IsRefused : Ledger → Command → ℕ → Option Fingerprint → Refusal → Type 0
IsRefused L command moment mark r =
    (repeat_in L mark ≡ Err r)
    ⊎ ((repeat_in L mark ≡ Ok None)
    × (verdict (history_of L) command (effective_moment (history_of L) moment) ≡ Some r))

-- the command is refused, or the call fails
abbrev pub Refuses : State → Command → ℕ → Option Fingerprint → Refusal → State → Type 0
Refuses old command moment mark r new =
    ReadsOf old (λ L. IsRefused L command moment mark r) new ⊎ CannotAnswer old r new

-- the command is not committed, or it is in doubt
abbrev pub CannotKeep : State → Accepted → Refusal → State → Type 0
CannotKeep old a r new = FailsToKeep NoMemory Stopped old a r new
