-- The state of a desk and of the tables below it, from opening the database to an error of it.
use Rattle.std.specs.Prelude.{◌≡◌, ◌⊎◌, ◌∷◌, Option, Some, None}
use Rattle.portal_ledger.specs.Ledger.{Accepted, Ledger}

-- running: with a ledger; stopped: with a ledger and at most one command in doubt
pub data State : Type 0 where
  running : Ledger → State
  stopped : Ledger → Option Accepted → State

-- what opening the database again may find
abbrev pub MayBeFound : State → Ledger → Type 0
MayBeFound (running L) found = found ≡ L
MayBeFound (stopped L None) found = found ≡ L
MayBeFound (stopped L (Some a)) found = (found ≡ L) ⊎ (found ≡ a ∷ L)
