use Rattle.portal_desk_store.proofs.Common.{◌≡◌, false, take, any_held, Ledger, history_of, running}
use Rattle.portal_desk_store.proofs.Common.{IsFaultFree, KeepsRest}
use Rattle.portal_tables.specs.TablesRepresent.{TablesRepresent}
use Rattle.portal_desk_store.proofs.desks.StoreDesk.is_any_code_held.Given as goal

abbrev pub invariant-loop-code : goal.invariant-loop-code
invariant-loop-code g l = record {
  rest : KeepsRest l.fn.self l.self;
  fault_free : IsFaultFree g.S.Store l.self.tables → IsFaultFree g.S.Store l.fn.self.tables;
  stops : l.self.tables.is_stopped ≡ l.fn.self.tables.is_stopped;
  none : IsFaultFree g.S.Store l.self.tables → (L : Ledger)
      → TablesRepresent g.S.Store l.fn.self.tables (running L)
      → TablesRepresent g.S.Store l.self.tables (running L)
      × (any_held (history_of L) (take l.code-index l.codes) ≡ false);
}
