use Rattle.portal_server.proofs.Common.{ℕ, ◌+◌, List, [], ◌∷◌, None, inr, refl, sym, ◌∙◌, subst, arith}
use Rattle.portal_server.proofs.Common.{Keeps-refl, SettingsValue, State, Arrived, Run, ServesAtMost, host_of}
use Rattle.portal_server.proofs.Common.{IsTurn, Turns}
use Rattle.portal_server.proofs.ServingLemmas.{is_err, serves_none, serves_more, serves_fewer}
use Rattle.portal_server.proofs.TurnLemmas.{turns_more}
use Rattle.portal_server.proofs.serving.accept_loop.Goals as goal

pub loop-turn-init : goal.loop-turn-init
loop-turn-init g c = record {
  same_settings = refl;
  fault_free = λ honest. honest;
  says = ([], Keeps-refl _, refl);
  serves = λ honest old represents. (old, represents, serves_none (g.D.Desk.settings c.args.desk.now) 0 old);
  turns = λ honest old represents. (old, represents, [], Keeps-refl _, (refl, refl, refl, refl));
}

pub loop-turn-preserved : goal.loop-turn-preserved
loop-turn-preserved g c =
    let before = c.loop-turn.invariant in
    let turn = c.accept_and_serve.ensures in record {
      same_settings = turn.settings.same_settings ∙ before.same_settings;
      fault_free = λ honest. before.fault_free (turn.settings.fault_free honest);
      says = (
        turn.says.0 ∷ before.says.0,
        (g.E.Write.contents c.loop-turn.errors, before.says.1, turn.says.1),
        omega (arith, before.says.2),
      );
      serves = λ honest old represents.
          let mid = before.serves (turn.settings.fault_free honest) old represents in
          let next = turn.serves honest mid.0 mid.1 in (
            next.0,
            next.1,
            serves_more (g.D.Desk.settings c.args.desk.now) c.loop-turn._turn old mid.0 next.0 mid.2
                (subst (λ (s : SettingsValue). ServesAtMost 1
                (λ arrivals responses. Run s mid.0 arrivals responses next.0)) before.same_settings next.2),
          );
      turns = λ honest old represents.
          let mid = before.turns (turn.settings.fault_free honest) old represents in
          let next = c.in_ok-has_failed.ensures.turn honest mid.0 mid.1 in (
            next.0,
            next.1,
            next.2.0 ∷ mid.2,
            (g.E.Write.contents c.loop-turn.errors, mid.3, next.2.1),
            turns_more (host_of g.H.Host g.H.Reader.Read g.H.Writer.Write)
                (g.D.Desk.settings c.args.desk.now) c.loop-turn._turn c.args.host.now c.loop-turn.host
                c.accept_and_serve.new.host old mid.0 next.0
                mid.2 next.2.0 c.loop-turn.has_failed c.in_ok-has_failed.has_failed mid.4
                (subst (λ (s : SettingsValue). IsTurn (host_of g.H.Host g.H.Reader.Read g.H.Writer.Write)
                s c.loop-turn.has_failed c.loop-turn.host mid.0 next.2.0 c.accept_and_serve.new.host next.0
                c.in_ok-has_failed.has_failed) before.same_settings next.2.2),
          );
    }

pub returns-in_err-has_failed-clause-says : goal.returns-in_err-has_failed-clause-says
returns-in_err-has_failed-clause-says g c =
    let before = c.loop-turn.invariant in
    let turn = c.accept_and_serve.ensures in (
      turn.says.0 ∷ before.says.0,
      (g.E.Write.contents c.loop-turn.errors, before.says.1, turn.says.1),
      rw (is_err c.from_residual.result c.in_err-has_failed.field-0.0 c.from_residual.ensures.1)
          (omega (arith, before.says.2, c.loop-turn-test.true)),
    )

pub returns-in_err-has_failed-clause-serves : goal.returns-in_err-has_failed-clause-serves
returns-in_err-has_failed-clause-serves g c = λ honest old represents.
    let before = c.loop-turn.invariant in
    let turn = c.accept_and_serve.ensures in
    let settings = g.D.Desk.settings c.args.desk.now in
    let mid = before.serves (turn.settings.fault_free honest) old represents in
    let next = turn.serves honest mid.0 mid.1 in
    let more = serves_more settings c.loop-turn._turn old mid.0 next.0 mid.2
    (subst (λ (s : SettingsValue). ServesAtMost 1
    (λ arrivals responses. Run s mid.0 arrivals responses next.0)) before.same_settings next.2) in (
      next.0,
      next.1,
      (
        serves_fewer (λ (xs : List Arrived). λ (rs : List (List ℕ)). Run settings old xs rs next.0)
            (c.loop-turn._turn + 1) c.args.count
            (omega (arith, c.loop-turn-test.true)) more,
        rw (is_err c.from_residual.result c.in_err-has_failed.field-0.0 c.from_residual.ensures.1)
            (inr c.in_err-has_failed.ensures.err),
      ),
    )

pub returns-in_err-has_failed-clause-turns : goal.returns-in_err-has_failed-clause-turns
returns-in_err-has_failed-clause-turns g c = λ honest old represents.
    let before = c.loop-turn.invariant in
    let mid = before.turns (c.accept_and_serve.ensures.settings.fault_free honest) old represents in
    let next = c.in_err-has_failed.ensures.turn honest mid.0 mid.1 in
    let host = host_of g.H.Host g.H.Reader.Read g.H.Writer.Write in (
      next.0,
      next.1,
      (
        None ∷ mid.2,
        (g.E.Write.contents c.loop-turn.errors, mid.3, next.2.1),
        rw (is_err c.from_residual.result c.in_err-has_failed.field-0.0 c.from_residual.ensures.1) (
          c.loop-turn._turn,
          c.loop-turn.host,
          c.loop-turn.has_failed,
          mid.2,
          omega (arith, c.loop-turn-test.true),
          subst (λ (s : State). Turns host (g.D.Desk.settings c.args.desk.now) c.loop-turn._turn
              c.args.host.now old mid.2 c.loop-turn.host s c.loop-turn.has_failed)
              (sym next.2.0) mid.4,
          inr (next.2.2, refl),
        ),
      ),
    )
