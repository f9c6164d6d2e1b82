use Rattle.portal_tables_rows.proofs.Common.{◌≡◌, subst, arith, rules, state, HasCleanDisk, Survives}
use Rattle.portal_tables_rows.proofs.Common.{IsUndone, on_err, on_failed, IsReadFree, CommitsFrom}
use Rattle.portal_tables_rows.proofs.Common.{MayCommitFrom, after_migration}
use Rattle.portal_tables_rows.proofs.Frame.{led_done, led_crash, led_undone}
use Rattle.portal_tables_rows.proofs.migrations.commit_migration.Goals as goal

pub returns : goal.returns
returns g c =
    let n = c.args.from in
    let read = c.args.read.now in
    let f = after_migration c.args.from c.args.vouchers.now c.args.sessions.now in
    let last = c.migrate_inside.new.tx.conn.now in
    let end = c.commit.new.self.0 in
    let same : end ≡ c.conn-2-1.given.0 = search rules in
    record {
      done = λ clean.
          let late : HasCleanDisk (state g.S.Store end) = search rules in
          subst (λ h. CommitsFrom n (IsReadFree n read) f (state g.S.Store c.args.conn.now)
          (state g.S.Store h)) same
          (led_done g.S.Store n read f c.args.conn.now
          c.transaction-tx.result.conn.now last end c.transaction-tx.ensures.begun
          (λ still inside room. c.in_ok-migrate_inside.ensures.steps still inside room)
          (omega (arith, c.commit.ensures.survives.clean)) (c.in_ok-commit.ensures.ok late).1);
      undone = λ clean. tt;
      crash = subst (λ h. Survives (state g.S.Store c.args.conn.now) (state g.S.Store h)
          (MayCommitFrom n (IsReadFree n read) f (state g.S.Store c.args.conn.now))) same
          (led_crash g.S.Store n read f c.args.conn.now
          c.transaction-tx.result.conn.now last end c.transaction-tx.ensures.begun
          (λ still inside room. c.in_ok-migrate_inside.ensures.steps still inside room)
          c.migrate_inside.ensures.survives c.commit.ensures.survives);
    }

pub returns-in_err-commit : goal.returns-in_err-commit
returns-in_err-commit g c =
    let n = c.args.from in
    let read = c.args.read.now in
    let f = after_migration c.args.from c.args.vouchers.now c.args.sessions.now in
    let last = c.migrate_inside.new.tx.conn.now in
    let end = c.commit.new.self.0 in
    let same : end ≡ c.conn-2-1.given.0 = search rules in
    record {
      done =
          λ clean. on_failed c.from_residual-in_err-commit.result _ _ c.from_residual-in_err-commit.ensures.1;
      undone = λ clean.
          let late : HasCleanDisk (state g.S.Store end) = search rules in
          on_err c.from_residual-in_err-commit.result
          (λ room. subst (λ h. IsUndone (state g.S.Store c.args.conn.now) (state g.S.Store h)) same
          (led_undone g.S.Store n read f c.args.conn.now
          c.transaction-tx.result.conn.now last end c.transaction-tx.ensures.begun
          (λ still inside room. c.in_ok-migrate_inside.ensures.steps still inside room) _ (omega (
            arith,
            c.commit.ensures.survives.clean,
          )) room c.migrate_inside.ensures.kept (c.in_err-commit.ensures.err late) c.commit.ensures.ended));
      crash = subst (λ h. Survives (state g.S.Store c.args.conn.now) (state g.S.Store h)
          (MayCommitFrom n (IsReadFree n read) f (state g.S.Store c.args.conn.now))) same
          (led_crash g.S.Store n read f c.args.conn.now
          c.transaction-tx.result.conn.now last end c.transaction-tx.ensures.begun
          (λ still inside room. c.in_ok-migrate_inside.ensures.steps still inside room)
          c.migrate_inside.ensures.survives c.commit.ensures.survives);
    }
