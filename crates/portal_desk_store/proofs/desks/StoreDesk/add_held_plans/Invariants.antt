use Rattle.portal_desk_store.proofs.Common.{◌≡◌, ◌++◌, take, plans_of, held_among, Ledger, history_of}
use Rattle.portal_desk_store.proofs.Common.{running, IsFaultFree, KeepsRest}
use Rattle.portal_tables.specs.TablesRepresent.{TablesRepresent}
use Rattle.portal_desk_store.proofs.desks.StoreDesk.add_held_plans.Given as goal

abbrev pub invariant-loop-plan : goal.invariant-loop-plan
invariant-loop-plan g l = record {
  rest : KeepsRest l.fn.self l.self;
  fault_free : IsFaultFree g.S.Store l.self.tables → IsFaultFree g.S.Store l.fn.self.tables;
  stops : l.self.tables.is_stopped ≡ l.fn.self.tables.is_stopped;
  some : IsFaultFree g.S.Store l.self.tables → (L : Ledger)
      → TablesRepresent g.S.Store l.fn.self.tables (running L)
      → TablesRepresent g.S.Store l.self.tables (running L)
      × (l.held.items ≡ l.fn.held.items ++ held_among (plans_of (history_of L)) (take l.plan-index l.listed));
}
