-- The open sessions that a desk keeps.
use Rattle.std.specs.Prelude.{Option, IfSome}
use Rattle.portal_desk_store.specs.OpenSessions.{OpenAt, HasOpenSessions}
use Rattle.portal_ledger.specs.Ledger.{history_of}
use Rattle.portal_ledger.specs.States.{State, running, stopped}

-- the list that a running desk keeps has the sessions of its ledger that are open at the time of the last
-- command
abbrev pub KeepsOpenSessions : Option OpenAt → State → Type 0
KeepsOpenSessions kept (running L) = IfSome kept (HasOpenSessions (history_of L))
KeepsOpenSessions kept (stopped L doubt) = Unit {0}
