use Rattle.portal_server.proofs.Common.{[], inr, refl, arith, Keeps-refl}
use Rattle.portal_server.specs.Command.{listening_line}
use Rattle.portal_server.proofs.ServingLemmas.{is_err, serves_none, untold_status, ends_at}
use Rattle.portal_server.proofs.command.announce_and_serve.Goals as goal

pub returns-in_err-announce_port-clause-prints : goal.returns-in_err-announce_port-clause-prints
returns-in_err-announce_port-clause-prints g c =
    rw (is_err c.from_residual.result c.in_err-announce_port.field-0.0 c.from_residual.ensures.1)
    ([], omega arith, Keeps-refl _, inr (refl, c.in_err-announce_port.ensures))

pub returns-in_err-announce_port-clause-serves : goal.returns-in_err-announce_port-clause-serves
returns-in_err-announce_port-clause-serves g c = λ honest old represents. (
  old,
  represents,
  (
    serves_none (g.D.Desk.settings c.args.desk.now) c.args.count old,
    rw (is_err c.from_residual.result c.in_err-announce_port.field-0.0 c.from_residual.ensures.1)
        (inr (untold_status c.in_err-announce_port.field-0.0 _ _ (listening_line c.args.port)
        c.in_err-announce_port.ensures)),
  ),
)

pub returns-clause-serves : goal.returns-clause-serves
returns-clause-serves g c = λ honest old represents.
    let it = c.serve_connections.ensures.serves honest old represents in
    (it.0, it.1, (it.2.0, ends_at it.0 c.serve_connections.result it.2.1))
