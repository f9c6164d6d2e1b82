-- The state of a connection after a call.
use Rattle.std.specs.Prelude.{◌≡◌, false, IsTrue}
use Rattle.sqlite.specs.Tree.{Trees}
use Rattle.sqlite.specs.State.{State}

-- the database is as it was
abbrev pub KeepsNow : State → State → Type 0
KeepsNow old new = (new.now ≡ old.now) × (new.committed ≡ old.committed)

-- nothing changed, if the connection is still open
pub record IsUndone (old new : State) : Type 0 where
  pub now : IsTrue new.is_open → new.now ≡ old.committed
  pub committed : IsTrue new.is_open → new.committed ≡ old.committed
  pub ended : new.in_transaction ≡ false

-- the connection is open, outside a transaction, and its database is that of the last commit before
pub record IsAsBefore (old new : State) : Type 0 where
  pub is_open : IsTrue new.is_open
  pub now : new.now ≡ old.committed
  pub committed : new.committed ≡ old.committed
  pub ended : new.in_transaction ≡ false

-- each crash state is what is committed
abbrev pub LeavesOnly : State → Type 0
LeavesOnly s = (trees : Trees) → s.may_leave trees → trees ≡ s.committed.trees
