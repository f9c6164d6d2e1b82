-- The result of a command that is prepared and committed in one call.
use Rattle.std.specs.Prelude.{◌≡◌, ◌⊎◌, ◌∷◌, ℕ, Option, Some, None, Ok, Result, MatchResult}
use Rattle.portal_model.specs.declared.command.Command.{Command}
use Rattle.portal_model.specs.declared.change.Answer.{Answer}
use Rattle.portal_model.specs.declared.refusal.Refusal.{Refusal}
use Rattle.portal_model.specs.declared.refusal.Refusal.TheVariants.{NoMemory, Stopped}
use Rattle.portal_ledger.specs.Fingerprint.{Fingerprint}
use Rattle.portal_ledger.specs.Ledger.{Accepted, Ledger, history_of, answer_in, repeat_in, accepted_at}
use Rattle.portal_ledger.specs.Ledger.{MayFollow}
use Rattle.portal_ledger.specs.States.{State, running, stopped}
use Rattle.portal_desk.specs.Calls.{IsRefused}

-- a new command that the ledger accepts, and its answer
abbrev pub IsNewCommand : Ledger → Accepted → Answer → Type 0
IsNewCommand L a answer =
    (repeat_in L a.mark ≡ Ok None) × MayFollow L a × (answer_in (history_of L) a ≡ Some answer)

-- An answer: the command is committed, or it is a repetition, which changes nothing.
abbrev pub Executes : State → Command → ℕ → Option Fingerprint → Answer → State → Type 0
Executes (running L) command moment mark answer new =
    let a = accepted_at L moment command mark in
    (IsNewCommand L a answer × (new ≡ running (a ∷ L)))
    ⊎ ((repeat_in L mark ≡ Ok (Some answer)) × (new ≡ running L))
Executes (stopped L doubt) command moment mark answer new = ⊥

-- An error: nothing is changed. After `Stopped` the ledger is unchanged, or the command is in doubt.
abbrev pub FailsToExecute : State → Command → ℕ → Option Fingerprint → Refusal → State → Type 0
FailsToExecute (running L) command moment mark r new =
    let a = accepted_at L moment command mark in
    ((IsRefused L command moment mark r ⊎ (r ≡ NoMemory)) × (new ≡ running L))
    ⊎ ((r ≡ Stopped) × ((new ≡ stopped L None) ⊎ (MayFollow L a × (new ≡ stopped L (Some a)))))
FailsToExecute (stopped L doubt) command moment mark r new = (r ≡ Stopped) × (new ≡ stopped L doubt)

-- the result of a command, with the states before and after it
abbrev pub EndsExecution : Result Answer Refusal → Command → ℕ → Option Fingerprint → State → State → Type 0
EndsExecution result command moment mark old new =
    MatchResult result (λ answer. Executes old command moment mark answer new)
    (λ r. FailsToExecute old command moment mark r new)
