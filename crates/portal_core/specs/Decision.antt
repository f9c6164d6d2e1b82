-- The result of a decision on a command.
use Rattle.std.specs.Prelude.{◌≡◌, ◌≢◌, ◌⊎◌, IfErr, IfOk, None, Option, Result, Some}
use Rattle.portal_model.specs.declared.change.Changes.{Changes}
use Rattle.portal_model.specs.declared.refusal.Refusal.{Refusal}
use Rattle.portal_model.specs.declared.refusal.Refusal.TheVariants.{NoMemory, Stopped}

-- The command is accepted only if its verdict is no error, and then the result is its changes. It is
-- refused with the error of the verdict, which is never `Stopped`.
pub record IsDecision (result : Result Changes Refusal) (verdict : Option Refusal)
    (made : Option Changes) : Type 0 where
  pub accepts : IfOk result (λ _. verdict ≡ None)
  pub refuses : IfErr result (λ r. verdict ≡ Some r)
  pub change : IfOk result (λ c. made ≡ Some c)
  pub own : IfErr result (λ r. r ≢ Stopped)

-- the same of a decision that allocates, and may fail with `NoMemory`
pub record IsDecisionOrNoMemory (result : Result Changes Refusal) (verdict : Option Refusal)
    (made : Option Changes) : Type 0 where
  pub accepts : IfOk result (λ _. verdict ≡ None)
  pub refuses : IfErr result (λ r. (r ≡ NoMemory) ⊎ (verdict ≡ Some r))
  pub change : IfOk result (λ c. made ≡ Some c)
  pub own : IfErr result (λ r. r ≢ Stopped)
