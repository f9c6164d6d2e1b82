use Rattle.std.proofs.Common.{Err}
use Rattle.portal_ledger.specs.States.{running}
use Rattle.portal_server.proofs.ServingLemmas.{serves_survives}
use Rattle.portal_server.proofs.command.serve.Goals as goal

pub returns-in-Ok-clause-survives : goal.returns-in-Ok-clause-survives
returns-in-Ok-clause-survives g c = λ honest L represents.
    let desk = g.D.Desk in
    let it = c.announce_and_serve.ensures.serves honest (running L) represents in
    serves_survives desk.Files (desk.is_crash_state c.announce_and_serve.new.desk) desk.holds_ledger
    (desk.settings c.args.desk.now) L it.0 c.args.count it.2.0
    (λ files may. g.met.D.Desk.leaves c.announce_and_serve.new.desk it.0 it.1 files may)
    (λ files found shown. g.met.D.Desk.sound files found shown)

pub returns-in-Err-clause-survives : goal.returns-in-Err-clause-survives
returns-in-Err-clause-survives g c = λ honest L represents.
    let desk = g.D.Desk in
    let it = c.announce_and_serve.ensures.serves honest (running L) represents in
    serves_survives desk.Files (desk.is_crash_state c.announce_and_serve.new.desk) desk.holds_ledger
    (desk.settings c.args.desk.now) L it.0 c.args.count it.2.0
    (λ files may. g.met.D.Desk.leaves c.announce_and_serve.new.desk it.0 it.1 files may)
    (λ files found shown. g.met.D.Desk.sound files found shown)

pub returns-in-Err-clause-turns : goal.returns-in-Err-clause-turns
returns-in-Err-clause-turns g c = λ honest old represents.
    let it = c.in-Err.ensures.turns honest old represents in (
      it.0,
      it.1,
      (
        Err c.in-Err.error,
        c.report.ensures.status,
        (g.E.Write.contents c.announce_and_serve.new.errors, it.2, c.report.ensures.prints),
      ),
    )
