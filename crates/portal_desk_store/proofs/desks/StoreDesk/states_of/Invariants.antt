use Rattle.portal_desk_store.proofs.Common.{◌≡◌, map, take, Ledger, history_of, running, IsFaultFree}
use Rattle.portal_desk_store.proofs.Common.{KeepsRest}
use Rattle.portal_tables.specs.TablesRepresent.{TablesRepresent}
use Rattle.portal_desk_store.proofs.BatchLemmas.{state_of}
use Rattle.portal_desk_store.proofs.desks.StoreDesk.states_of.Given as goal

abbrev pub invariant-loop-batch : goal.invariant-loop-batch
invariant-loop-batch g l = record {
  rest : KeepsRest l.fn.self l.self;
  fault_free : IsFaultFree g.S.Store l.self.tables → IsFaultFree g.S.Store l.fn.self.tables;
  stops : l.self.tables.is_stopped ≡ l.fn.self.tables.is_stopped;
  some : IsFaultFree g.S.Store l.self.tables → (L : Ledger)
      → TablesRepresent g.S.Store l.fn.self.tables (running L)
      → TablesRepresent g.S.Store l.self.tables (running L)
      × (l.states.items ≡ map (state_of (history_of L)) (take l.batch-index l.batches));
}
