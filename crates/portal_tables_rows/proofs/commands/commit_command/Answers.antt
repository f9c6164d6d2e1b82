use Rattle.portal_tables_rows.proofs.Common.{◌≡◌, subst, arith, rules, state, HasCleanDisk, Survives}
use Rattle.portal_tables_rows.proofs.Common.{CommitsRows, MayCommitRows}
use Rattle.portal_tables_sql.proofs.InsideLemmas.{on_failed}
use Rattle.portal_tables_rows.specs.Commands.{after_command_with}
use Rattle.portal_tables_rows.proofs.Compose.{done, crash}
use Rattle.portal_tables_rows.proofs.commands.commit_command.Goals as goal

pub returns : goal.returns
returns g c =
    let f = after_command_with c.args.marked.now c.args.answer.now in
    let last = c.apply_with_fingerprint.new.tx.conn.now in
    let end = c.commit.new.self.0 in
    let same : end ≡ c.conn-2-1.given.0 = search rules in
    record {
      done = λ clean.
          let late : HasCleanDisk (state g.S.Store end) = search rules in
          subst (λ h. CommitsRows f (state g.S.Store c.args.conn.now) (state g.S.Store h)) same
          (done g.S.Store f c.args.conn.now c.transaction-tx.result.conn.now last end
          c.transaction-tx.ensures.begun (λ still inside. c.in_ok-apply_with_fingerprint.ensures.steps still
          inside) (omega (arith, c.commit.ensures.survives.clean)) (c.in_ok-commit.ensures.ok late).1);
      undone = λ clean. tt;
      crash = subst (λ h. Survives (state g.S.Store c.args.conn.now) (state g.S.Store h)
          (MayCommitRows f (state g.S.Store c.args.conn.now))) same
          (crash g.S.Store f c.args.conn.now c.transaction-tx.result.conn.now last end
          c.transaction-tx.ensures.begun (λ still inside. c.in_ok-apply_with_fingerprint.ensures.steps still
          inside) c.apply_with_fingerprint.ensures.survives c.commit.ensures.survives);
    }

pub returns-in_err-commit : goal.returns-in_err-commit
returns-in_err-commit g c =
    let f = after_command_with c.args.marked.now c.args.answer.now in
    let last = c.apply_with_fingerprint.new.tx.conn.now in
    let end = c.commit.new.self.0 in
    let same : end ≡ c.conn-2-1.given.0 = search rules in
    record {
      done =
          λ clean. on_failed c.from_residual-in_err-commit.result _ _ c.from_residual-in_err-commit.ensures.1;
      undone = search rules;
      crash = subst (λ h. Survives (state g.S.Store c.args.conn.now) (state g.S.Store h)
          (MayCommitRows f (state g.S.Store c.args.conn.now))) same
          (crash g.S.Store f c.args.conn.now c.transaction-tx.result.conn.now last end
          c.transaction-tx.ensures.begun (λ still inside. c.in_ok-apply_with_fingerprint.ensures.steps still
          inside) c.apply_with_fingerprint.ensures.survives c.commit.ensures.survives);
    }
