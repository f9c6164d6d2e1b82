use Rattle.portal_tables.proofs.Common.{arith, refl, subst, true, state, Survives, Answer, after_command_with}
use Rattle.portal_tables.proofs.Common.{CommitsRows, MayCommitRows}
use Rattle.portal_tables.specs.declared.tables.Tables.{Tables}
use Rattle.portal_tables.proofs.StateLemmas.{stays_keep, keeps, doubts, halts, honest_by, honest_is}
use Rattle.portal_tables.proofs.OthersLemmas.{others_stopped, others_halted, others_led, others_failed}
use Rattle.portal_tables.proofs.tables.Tables.commit.Goals as goal

pub returns-then-self-clause-commit : goal.returns-then-self-clause-commit
returns-then-self-clause-commit g c clean old at e may =
    stays_keep g.S.Store e c.args.self.now old at c.if-self.true

pub returns-then-not-is_autocommit-clause-fault_free : goal.returns-then-not-is_autocommit-clause-fault_free
returns-then-not-is_autocommit-clause-fault_free g c clean = honest_by g.S.Store c.args.self.now
    (record { conn = c.args.self.now.conn; is_stopped = true }) (omega arith) clean

pub returns-then-not-is_autocommit-clause-commit : goal.returns-then-not-is_autocommit-clause-commit
returns-then-not-is_autocommit-clause-commit g c clean old at e may =
    halts g.S.Store e c.args.self.now c.if-self.false old at

pub returns-in-Ok-clause-fault_free : goal.returns-in-Ok-clause-fault_free
returns-in-Ok-clause-fault_free g c clean =
    honest_by g.S.Store c.args.self.now
    (record { conn = c.commit_command.new.conn; is_stopped = c.args.self.now.is_stopped })
    (omega (arith, c.commit_command.ensures.crash.clean)) clean

pub returns-in-Ok-clause-commit : goal.returns-in-Ok-clause-commit
returns-in-Ok-clause-commit g c clean old at e may =
    let new : Tables g.row.S.Denot =
    record { conn = c.commit_command.new.conn; is_stopped = c.args.self.now.is_stopped } in
    let done = subst (λ (a : Answer). CommitsRows (after_command_with c.args.marked.now a)
    (state g.S.Store c.args.self.now.conn) (state g.S.Store new.conn))
    c.answer-answer.ensures (c.in-Ok.ensures.done (honest_is g.S.Store new clean)) in
    keeps g.S.Store c.args.marked.now e c.args.self.now new c.if-self.false refl
    (λ db. g.met.S.Store.settled new.conn.store db) done old at may

pub returns-in-Err-clause-fault_free : goal.returns-in-Err-clause-fault_free
returns-in-Err-clause-fault_free g c clean =
    honest_by g.S.Store c.args.self.now c.stop_on_fault.new.self (let one =
    c.commit_command.ensures.crash.clean in omega (arith, one, c.stop_on_fault.ensures.survives.clean)) clean

pub returns-in-Err-clause-commit : goal.returns-in-Err-clause-commit
returns-in-Err-clause-commit g c clean old at e may =
    let new = c.stop_on_fault.new.self in
    let crash = subst (λ (a : Answer). Survives (state g.S.Store c.args.self.now.conn)
    (state g.S.Store c.commit_command.new.conn) (MayCommitRows (after_command_with c.args.marked.now a)
    (state g.S.Store c.args.self.now.conn))) c.answer-answer.ensures c.commit_command.ensures.crash in
    doubts g.S.Store c.args.marked.now e c.args.self.now new c.commit_command.new.conn
    c.if-self.false clean c.in-Err.ensures.undone crash c.stop_on_fault.ensures.survives
    (λ db. g.met.S.Store.settled new.conn.store db)
    c.stop_on_fault.result c.stop_on_fault.ensures.gives_fault c.stop_on_fault.ensures.same old at may

pub returns-then-self-clause-others : goal.returns-then-self-clause-others
returns-then-self-clause-others g c clean L at =
    others_stopped g.S.Store L c.args.self.now c.args.self.now c.if-self.true at

pub returns-then-not-is_autocommit-clause-others : goal.returns-then-not-is_autocommit-clause-others
returns-then-not-is_autocommit-clause-others g c clean L at =
    others_halted g.S.Store L c.args.self.now (λ db. g.met.S.Store.settled c.args.self.now.conn.store db) at

pub returns-in-Ok-clause-others : goal.returns-in-Ok-clause-others
returns-in-Ok-clause-others g c clean L at =
    let new : Tables g.row.S.Denot =
    record { conn = c.commit_command.new.conn; is_stopped = c.args.self.now.is_stopped } in
    let done = subst (λ (a : Answer). CommitsRows (after_command_with c.args.marked.now a)
    (state g.S.Store c.args.self.now.conn) (state g.S.Store new.conn))
    c.answer-answer.ensures (c.in-Ok.ensures.done (honest_is g.S.Store new clean)) in
    others_led g.S.Store c.args.marked.now L c.args.self.now new
    (λ db. g.met.S.Store.settled new.conn.store db) done at

pub returns-in-Err-clause-others : goal.returns-in-Err-clause-others
returns-in-Err-clause-others g c clean L at =
    let new = c.stop_on_fault.new.self in
    let crash = subst (λ (a : Answer). Survives (state g.S.Store c.args.self.now.conn)
    (state g.S.Store c.commit_command.new.conn) (MayCommitRows (after_command_with c.args.marked.now a)
    (state g.S.Store c.args.self.now.conn))) c.answer-answer.ensures c.commit_command.ensures.crash in
    others_failed g.S.Store c.args.marked.now L c.args.self.now new
    c.commit_command.new.conn (λ db. g.met.S.Store.settled c.args.self.now.conn.store db)
    (λ db. g.met.S.Store.settled new.conn.store db) clean
    c.in-Err.ensures.undone crash c.stop_on_fault.ensures.survives c.stop_on_fault.result
    c.stop_on_fault.ensures.gives_fault c.stop_on_fault.ensures.same at
