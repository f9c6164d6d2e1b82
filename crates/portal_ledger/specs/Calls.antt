-- The states before and after a call. The contracts of a desk and of the tables below it share these words.
use Rattle.std.specs.Prelude.{◌≡◌, ◌⊎◌, ◌∷◌, Some, None}
use Rattle.portal_model.specs.History.{History}
use Rattle.portal_model.specs.Change.{changes_of}
use Rattle.portal_ledger.specs.declared.marked.MarkedChanges.{MarkedChanges}
use Rattle.portal_ledger.specs.Ledger.{Accepted, Ledger, history_of, MayFollow}
use Rattle.portal_ledger.specs.States.{State, running, stopped}

-- ---- reads

-- the result of a read holds of the ledger, and the state is unchanged
abbrev pub ReadsOf : State → (Ledger → Type 0) → State → Type 0
ReadsOf (running L) Is new = Is L × (new ≡ running L)
ReadsOf (stopped L doubt) Is new = ⊥

-- the same for a result that depends on the history alone
abbrev pub ReadsThat : State → (History → Type 0) → State → Type 0
ReadsThat old Is new = ReadsOf old (λ L. Is (history_of L)) new

-- ---- commits

-- the changes and the fingerprint are those of this command, and it may be accepted
abbrev pub Fits : State → MarkedChanges → Accepted → Type 0
Fits (running L) marked a =
    MayFollow L a × (changes_of (history_of L) a.command a.at ≡ Some marked.changes) × (marked.mark ≡ a.mark)
Fits (stopped L doubt) marked a = Unit {0}

-- the command is committed: the ledger has it as its newest
abbrev pub Keeps : State → Accepted → State → Type 0
Keeps (running L) a new = new ≡ running (a ∷ L)
Keeps (stopped L doubt) a new = ⊥

-- ---- errors: out of memory, and an error of the database

module _ {RowError : Type 0} (memory over : RowError) where
  -- A read fails: out of memory leaves the state unchanged, an error of the database stops it, and a
  -- stopped one stays stopped.
  abbrev pub FailsToRead : State → RowError → State → Type 0
  FailsToRead (running L) fault new =
      ((fault ≡ memory) × (new ≡ running L)) ⊎ ((fault ≡ over) × (new ≡ stopped L None))
  FailsToRead (stopped L doubt) fault new = (fault ≡ over) × (new ≡ stopped L doubt)

  -- A commit fails: the command is not committed, or it is in doubt.
  abbrev pub FailsToKeep : State → Accepted → RowError → State → Type 0
  FailsToKeep (running L) a fault new =
      ((fault ≡ memory) × (new ≡ running L)) ⊎ ((fault ≡ over) × (new ≡ stopped L (Some a)))
  FailsToKeep (stopped L doubt) a fault new = (fault ≡ over) × (new ≡ stopped L doubt)
