-- The result of one command, and the response to it.
use Rattle.std.specs.Prelude.{◌≡◌, ◌≢◌, ◌⊎◌, ℕ, List, ◌∷◌, Option, Some, Result, Ok, Err}
use Rattle.portal_model.specs.declared.command.Command.{Command}
use Rattle.portal_model.specs.declared.change.Answer.{Answer}
use Rattle.portal_model.specs.declared.refusal.Refusal.{Refusal}
use Rattle.portal_model.specs.declared.refusal.Refusal.TheVariants.{NoMemory, Stopped}
use Rattle.portal_ledger.specs.Ledger.{Accepted, Ledger}
use Rattle.portal_ledger.specs.States.{State, running, stopped}
use Rattle.portal_ledger.specs.Fingerprint.{Fingerprint}
use Rattle.portal_files.specs.SettingsFile.{SettingsValue}
use Rattle.portal_http_request.specs.declared.operation.Operation.{Operation}
use Rattle.portal_http_request.specs.declared.operation.Operation.TheVariants.{Act}
use Rattle.portal_http.specs.declared.reply.Response.{Response}
use Rattle.portal_http.specs.Replies.{IsRefusal, IsAnswer}
use Rattle.portal_http.specs.Runs.{CarriesOut}

-- the response to a refusal, or that for out of memory in its place
abbrev pub GivesRefusal : Refusal → ℕ → List ℕ → Type 0
GivesRefusal r moment bytes = IsRefusal r moment bytes ⊎ ((r ≢ Stopped) × IsRefusal NoMemory moment bytes)

-- It holds of the bytes of the response that is sent for a result: of the one that was made, or of each one
-- that the refusal gives.
abbrev pub HoldsOfResponse : Result Response Refusal → ℕ → (List ℕ → Type 0) → Type 0
HoldsOfResponse (Ok response) moment Holds = Holds response.bytes.items
HoldsOfResponse (Err r) moment Holds = (bytes : List ℕ) → GivesRefusal r moment bytes → Holds bytes

-- The command is committed and answered; or there was no memory, and nothing has changed; or the desk has
-- stopped, and the command is in doubt.
abbrev pub Finishes : Ledger → Accepted → Answer → ℕ → List ℕ → State → Type 0
Finishes L a answer moment bytes new =
    (IsAnswer answer moment bytes × (new ≡ running (a ∷ L)))
    ⊎ ((IsRefusal NoMemory moment bytes × (new ≡ running L))
    ⊎ (IsRefusal Stopped moment bytes × (new ≡ stopped L (Some a))))

-- there was no memory, and nothing has changed; or the operation is executed
abbrev pub ServesOperation : SettingsValue → Operation → State → ℕ → List ℕ → State → Type 0
ServesOperation settings asked old moment bytes new =
    (IsRefusal NoMemory moment bytes × (new ≡ old)) ⊎ CarriesOut settings (Ok asked) old moment bytes new

-- the same for a command
abbrev pub ServesCommand : SettingsValue → Command → Option Fingerprint → State → ℕ → List ℕ → State → Type 0
ServesCommand settings command mark old moment bytes new =
    ServesOperation settings (Act command mark) old moment bytes new
