use Rattle.std.proofs.Common.{Ok, Err, Some, inl, refl}
use Rattle.std.proofs.KnownBytes.{Keeps-refl}
use Rattle.portal_server.specs.declared.error.ProgramError.TheVariants.{Cut}
use Rattle.portal_server.proofs.ServingLemmas.{exchange_serves}
use Rattle.portal_server.proofs.peers.serve_peer.Goals as goal

pub returns-in-Err-clause-says : goal.returns-in-Err-clause-says
returns-in-Err-clause-says g c = (Some Cut, (inl refl, c.report.ensures.prints))

pub returns-in-Ok-clause-serves : goal.returns-in-Ok-clause-serves
returns-in-Ok-clause-serves g c = λ honest old represents.
    let ends = c.exchange.ensures.serves honest old represents in (
      ends.0,
      ends.1,
      exchange_serves (g.D.Desk.settings c.args.desk.now) old ends.0 _ c.args.moment c.args.seed
          c.exchange.result ends.2,
    )

pub returns-in-Err-clause-serves : goal.returns-in-Err-clause-serves
returns-in-Err-clause-serves g c = λ honest old represents.
    let ends = c.exchange.ensures.serves honest old represents in (
      ends.0,
      ends.1,
      exchange_serves (g.D.Desk.settings c.args.desk.now) old ends.0 _ c.args.moment c.args.seed
          c.exchange.result ends.2,
    )

pub returns-in-Ok-clause-exchanges : goal.returns-in-Ok-clause-exchanges
returns-in-Ok-clause-exchanges g c = λ honest old represents.
    let ends = c.in-Ok.ensures.serves honest old represents in (ends.0, ends.1, (Ok _, ends.2, Keeps-refl _))

pub returns-in-Err-clause-exchanges : goal.returns-in-Err-clause-exchanges
returns-in-Err-clause-exchanges g c = λ honest old represents.
    let ends = c.in-Err.ensures.serves honest old represents in
    (ends.0, ends.1, (Err _, ends.2, (inl refl, c.report.ensures.prints)))
