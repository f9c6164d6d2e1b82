use Rattle.std.proofs.Common.{refl}
use Rattle.portal_tables.proofs.StateLemmas.{read_stopped, read_found, read_failed}
use Rattle.portal_tables.proofs.tables.Tables.read.Goals as goal

pub returns-then-self : goal.returns-then-self
returns-then-self g c = read_stopped g.S.Store c.args.self.now c.if-self.true

pub returns-in-Ok : goal.returns-in-Ok
returns-in-Ok g c = read_found g.S.Store c.args.self.now _ c.in-Ok.found c.if-self.false refl
    c.in-Ok.ensures.looks c.in-Ok.ensures.found

pub returns-in-Err : goal.returns-in-Err
returns-in-Err g c =
    read_failed g.S.Store c.args.self.now c.stop_on_fault.new.self c.ask.new.conn c.stop_on_fault.result
    c.if-self.false (λ db. g.met.S.Store.settled c.stop_on_fault.new.self.conn.store db)
    c.in-Err.ensures.looks c.stop_on_fault.ensures
