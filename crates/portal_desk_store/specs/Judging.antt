-- The result of deciding on a command over the records that were read.
use Rattle.std.specs.Prelude.{◌≡◌, ◌⊎◌, ℕ, Result, MatchResult, Some, None}
use Rattle.portal_model.specs.declared.command.Command.{Command}
use Rattle.portal_model.specs.declared.change.Changes.{Changes}
use Rattle.portal_model.specs.declared.refusal.Refusal.{Refusal}
use Rattle.portal_model.specs.History.{History, effective_moment}
use Rattle.portal_model.specs.Change.{changes_of}
use Rattle.portal_model.specs.Verdict.{verdict, Follows}
use Rattle.portal_ledger.specs.Ledger.{Ledger, history_of}
use Rattle.portal_ledger.specs.States.{State, running}
use Rattle.portal_ledger.specs.Calls.{ReadsThat}
use Rattle.portal_desk.specs.Calls.{CannotAnswer}

-- the history accepts the command at t with these changes
abbrev pub AcceptsWith : History → Command → ℕ → Changes → Type 0
AcceptsWith H command t changes = (verdict H command t ≡ None) × (changes_of H command t ≡ Some changes)

-- the decision on a command at t: the ledger is unchanged, or the call fails
abbrev pub Judges : Result Changes Refusal → Command → ℕ → Ledger → State → Type 0
Judges result command t L new = MatchResult result
    (λ changes. AcceptsWith (history_of L) command t changes × (new ≡ running L))
    (λ r. ((verdict (history_of L) command t ≡ Some r) × (new ≡ running L)) ⊎ CannotAnswer (running L) r new)

-- the command may be accepted for a request at that time, with these changes
abbrev pub MayChange : History → Command → ℕ → Changes → Type 0
MayChange H command moment changes =
    let t = effective_moment H moment in Follows H t command × (changes_of H command t ≡ Some changes)

-- the decision on a command for a request at that time
abbrev pub Decides : Result Changes Refusal → Command → ℕ → State → State → Type 0
Decides result command moment old new = MatchResult result
    (λ changes. ReadsThat old (λ H. MayChange H command moment changes) new)
    (λ r. ReadsThat old (λ H. verdict H command (effective_moment H moment) ≡ Some r) new
    ⊎ CannotAnswer old r new)
