use Rattle.portal_ledger.specs.States.{running}
use Rattle.portal_server.proofs.ServingLemmas.{serves_survives}
use Rattle.portal_server.proofs.serving.serve_connections.Goals as goal

pub returns-clause-survives : goal.returns-clause-survives
returns-clause-survives g c = λ honest L represents.
    let desk = g.D.Desk in
    let it = c.accept_loop.ensures.serves honest (running L) represents in
    serves_survives desk.Files (desk.is_crash_state c.accept_loop.new.desk) desk.holds_ledger
    (desk.settings c.args.desk.now) L it.0 c.args.count it.2.0
    (λ files may. g.met.D.Desk.leaves c.accept_loop.new.desk it.0 it.1 files may)
    (λ files found shown. g.met.D.Desk.sound files found shown)
