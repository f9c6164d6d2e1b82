-- The commands in the bodies of requests.
use Rattle.std.specs.Prelude.{◌≡◌, ◌⊎◌, ℕ, List, Result, Ok, Err, MatchResult}
use Rattle.serde_json.specs.Data.{Data}
use Rattle.portal_model.specs.declared.command.Command.{Command}
use Rattle.portal_model.specs.declared.refusal.Refusal.{Refusal}
use Rattle.portal_model.specs.declared.refusal.Refusal.TheVariants.{BadRequest}
use Rattle.portal_json.specs.Orders.{ReadsJson}

-- The value that is asked for is there, and the result is made of it; or there is no such value, and the
-- result is the error.
abbrev pub Gives : {A B E : Type 0} → (A → Type 0) → (A → B) → E → Result B E → Type 0
Gives {A} Is made refusal (Ok result) = (x : A) × Is x × (result ≡ made x)
Gives {A} Is made refusal (Err r) = (r ≡ refusal) × ((x : A) → ¬ (Is x))

-- the result for the body's JSON value; bad_request if the body is not JSON
abbrev pub SaysBody : {A : Type 0} → (Data → Result A Refusal → Type 0) → List ℕ → Result A Refusal → Type 0
SaysBody Of body result =
    ((value : Data) × ReadsJson body value × Of value result)
    ⊎ (((value : Data) → ¬ (ReadsJson body value)) × (result ≡ Err BadRequest))

-- the command of that result, or its refusal
abbrev pub GivesCommand : {A : Type 0} → (Data → Result A Refusal → Type 0) → (A → Command) → List ℕ
    → Result Command Refusal → Type 0
GivesCommand {A} Of command body result =
    (said : Result A Refusal) × SaysBody Of body said
    × MatchResult said (λ x. result ≡ Ok (command x)) (λ r. result ≡ Err r)
