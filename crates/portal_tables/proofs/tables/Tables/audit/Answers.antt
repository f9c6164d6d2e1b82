use Rattle.portal_tables.proofs.AuditShown.{audit_shown}
use Rattle.portal_tables.proofs.Common.{refl}
use Rattle.portal_tables.proofs.StateLemmas.{honest_is, read_stopped, read_found, read_failed}
use Rattle.portal_tables.proofs.tables.Tables.audit.Goals as goal

pub returns-then-self-clause-reads : goal.returns-then-self-clause-reads
returns-then-self-clause-reads g c = read_stopped g.S.Store c.args.self.now c.if-self.true

pub returns-in-Ok-clause-reads : goal.returns-in-Ok-clause-reads
returns-in-Ok-clause-reads g c =
    read_found g.S.Store c.args.self.now _ c.in-Ok.found c.if-self.false refl c.in-Ok.ensures.looks
    (λ clean live L shown. (c.in-Ok.ensures.read clean live _ shown.1).1 (audit_shown L shown.0))

pub returns-in-Ok-clause-exact : goal.returns-in-Ok-clause-exact
returns-in-Ok-clause-exact g c clean live t held =
    c.in-Ok.ensures.read (honest_is g.S.Store _ clean) live t held

pub returns-in-Err-clause-reads : goal.returns-in-Err-clause-reads
returns-in-Err-clause-reads g c =
    read_failed g.S.Store c.args.self.now c.stop_on_fault.new.self c.audit.new.conn c.stop_on_fault.result
    c.if-self.false (λ db. g.met.S.Store.settled c.stop_on_fault.new.self.conn.store db)
    c.in-Err.ensures.looks c.stop_on_fault.ensures
