use Rattle.portal_os.proofs.Common.{◌∙◌, sym, subst, ap, List, [], Ledger, ImageHoldsLedger}
use Rattle.std.proofs.Common.{refl, length, ◌++◌, ◌∷◌, ◌+◌, IfOk, IsTrue}
use Rattle.std.proofs.Math.Logic.{∥∥₁_map}
use Rattle.portal_ledger.specs.Ledger.{IsSound}
use Rattle.portal_http.specs.Executions.{IsKeptByExecution}
use Rattle.portal_os.specs.Lives.{AreSessions, HoldsAfter, Responses}
use Rattle.portal_os.proofs.LifeLemmas.{as_lived, count_more, image_sound, lived_more}
use Rattle.portal_os.proofs.lives.live.Goals as goal

pub loop-round-init : goal.loop-round-init
loop-round-init g c = record {
  log = c.requires.log;
  db = c.requires.db;
  count = ap length c.new-lived.ensures.items;
  lives = λ L at. (
    [],
    subst (λ (lived : List Responses). AreSessions [] lived []) (sym c.new-lived.ensures.items) tt,
    λ image may. ∥∥₁_map (at.left image may) (λ holds.
        let r : (found : Ledger) × IsKeptByExecution L [] found × IsSound found
        × ImageHoldsLedger image found = (L, refl, image_sound image L holds, holds) in r),
  );
}

pub returns-then-is_err : goal.returns-then-is_err
returns-then-is_err g c L at =
    let (sessions, are, each) = c.loop-round.invariant.lives L at in (
      sessions,
      as_lived c.args.rounds.now c.loop-round.round-index c.loop-round.lived.items c.reserve.new.self.items
          sessions c.reserve.ensures.items c.loop-round.invariant.count are,
      each,
    )

pub live_round-session-requires-clause-log : goal.live_round-session-requires-clause-log
live_round-session-requires-clause-log g c = c.loop-round.invariant.log

pub live_round-session-requires-clause-db : goal.live_round-session-requires-clause-db
live_round-session-requires-clause-db g c = c.loop-round.invariant.db

pub returns-in-Err : goal.returns-in-Err
returns-in-Err g c L at =
    let (before, are, each) = c.loop-round.invariant.lives L at in
    let (session, is, after) = c.live_round-session.ensures.lives L before each in
    let more = c.in-Ok.ensures.items
    ∙ ap (λ l. l ++ c.live_round-session.result.0 ∷ []) c.reserve.ensures.items in (
      before ++ session ∷ [],
      as_lived c.args.rounds.now (c.loop-round.round-index + 1) c.push.new.self.items c.push.new.self.items
          (before ++ session ∷ []) refl
          (count_more c.loop-round.round-index c.loop-round.lived.items c.push.new.self.items
          c.live_round-session.result.0 c.loop-round.invariant.count more)
          (lived_more c.args.rounds.now c.round-item.result c.loop-round.round-index c.loop-round.lived.items
          c.push.new.self.items c.live_round-session.result.0 before session c.loop-round-test.true
          c.round-item.is more are is),
      subst (HoldsAfter L (before ++ session ∷ [])) c.in-Err.is after,
    )

pub loop-round-preserved : goal.loop-round-preserved
loop-round-preserved g c =
    let more = c.in-Ok.ensures.items
    ∙ ap (λ l. l ++ c.live_round-session.result.0 ∷ []) c.reserve.ensures.items in
    let result = c.live_round-session.ensures in record {
      log = subst (λ left. IfOk left (λ files. IsTrue (g.D.Disk.is_usable files.log))) c.in-Ok-left.is
          result.log;
      db = subst (λ left. IfOk left (λ files. IsTrue (g.D.Disk.is_usable files.db))) c.in-Ok-left.is
          result.db;
      count = count_more c.loop-round.round-index c.loop-round.lived.items c.push.new.self.items
          c.live_round-session.result.0 c.loop-round.invariant.count more;
      lives = λ L at.
          let (before, are, each) = c.loop-round.invariant.lives L at in
          let (session, is, after) = result.lives L before each in (
            before ++ session ∷ [],
            lived_more c.args.rounds.now c.round-item.result c.loop-round.round-index c.loop-round.lived.items
                c.push.new.self.items c.live_round-session.result.0 before session c.loop-round-test.true
                c.round-item.is more are is,
            subst (HoldsAfter L (before ++ session ∷ [])) c.in-Ok-left.is after,
          );
    }

pub returns : goal.returns
returns g c L at =
    let (sessions, are, each) = c.loop-round.invariant.lives L at in (
      sessions,
      as_lived c.args.rounds.now c.loop-round.round-index c.loop-round.lived.items c.loop-round.lived.items
          sessions refl c.loop-round.invariant.count are,
      each,
    )
