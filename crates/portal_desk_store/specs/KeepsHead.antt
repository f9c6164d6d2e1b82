-- The head row that a desk keeps.
use Rattle.std.specs.Prelude.{◌≡◌, Option, IfSome}
use Rattle.portal_model.specs.declared.record.Head.{Head}
use Rattle.portal_model.specs.History.{head_of}
use Rattle.portal_ledger.specs.Ledger.{history_of}
use Rattle.portal_ledger.specs.States.{State, running, stopped}

-- the kept head row of a running desk is that of its ledger
abbrev pub KeepsHead : Option Head → State → Type 0
KeepsHead kept (running L) = IfSome kept (λ head. head ≡ head_of (history_of L))
KeepsHead kept (stopped L doubt) = Unit {0}
