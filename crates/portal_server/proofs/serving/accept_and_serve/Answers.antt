use Rattle.std.proofs.Common.{Some, inl, inr, refl}
use Rattle.portal_server.specs.declared.error.ProgramError.TheVariants.{Network}
use Rattle.portal_server.proofs.ServingLemmas.{is_err, serves_none}
use Rattle.portal_server.proofs.serving.accept_and_serve.Goals as goal

pub returns-in-None-clause-says : goal.returns-in-None-clause-says
returns-in-None-clause-says g c = (Some Network, (inr refl, c.report.ensures.prints))

pub returns-in-None-clause-serves : goal.returns-in-None-clause-serves
returns-in-None-clause-serves g c =
    λ honest old represents. (old, represents, serves_none (g.D.Desk.settings c.args.desk.now) 1 old)

pub returns-in-None-clause-turn : goal.returns-in-None-clause-turn
returns-in-None-clause-turn g c = λ honest old represents. (
  old,
  represents,
  (
    Some Network,
    (inr refl, c.report.ensures.prints),
    inl (refl, refl, refl, c.accept.new.self, c.in-None.ensures, c.pause_if_failed.ensures),
  ),
)

pub returns-in_ok-serve_connection-in-Some-clause-turn :
    goal.returns-in_ok-serve_connection-in-Some-clause-turn
returns-in_ok-serve_connection-in-Some-clause-turn g c = λ honest old represents.
    let met = c.in_ok-serve_connection-in-Some.ensures.meets honest old represents in (
      met.0,
      met.1,
      (met.2.0, met.2.1, inr (refl, c.in-Some.peer, c.accept.new.self, c.in-Some.ensures, met.2.2)),
    )

pub returns-in_err-serve_connection-in-Some-clause-turn :
    goal.returns-in_err-serve_connection-in-Some-clause-turn
returns-in_err-serve_connection-in-Some-clause-turn g c = λ honest old represents.
    let met = c.in_err-serve_connection-in-Some.ensures.meets honest old represents in (
      met.0,
      met.1,
      rw (is_err c.from_residual.result c.in_err-serve_connection-in-Some.field-0.0 c.from_residual.ensures.1)
          (met.2.0, met.2.1, (c.in-Some.peer, c.accept.new.self, c.in-Some.ensures, met.2.2)),
    )
