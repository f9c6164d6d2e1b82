use Rattle.std.proofs.Common.{refl}
use Rattle.portal_server.specs.Serving.{said_of}
use Rattle.portal_server.proofs.ServingLemmas.{serves_none}
use Rattle.portal_server.proofs.serving.serve_connection.Goals as goal

pub returns-in_err-moment-clause-serves : goal.returns-in_err-moment-clause-serves
returns-in_err-moment-clause-serves g c =
    λ honest old represents. (old, represents, serves_none (g.D.Desk.settings c.args.desk.now) 1 old)

pub returns-clause-serves : goal.returns-clause-serves
returns-clause-serves g c = λ honest old represents.
    let it = c.serve_peer.ensures.serves honest old represents in
    (it.0, it.1, (it.2.0, it.2.1, it.2.2, it.2.3.1))

pub returns-clause-meets : goal.returns-clause-meets
returns-clause-meets g c = λ honest old represents.
    let it = c.serve_peer.ensures.exchanges honest old represents in (
      it.0,
      it.1,
      (
        said_of it.2.0,
        it.2.2,
        (
          c.in_ok-moment.moment,
          c.in_ok-moment.seed,
          c.moment_and_seed.new.self,
          c.serve_peer.new.reader,
          c.serve_peer.new.writer,
          it.2.0,
          c.in_ok-moment.ensures.stamp,
          it.2.1,
          refl,
          c.close.ensures,
        ),
      ),
    )
