use Rattle.portal_tables_rows.proofs.Common.{arith, ◌∙◌, ◌≡◌, true, sym, subst, state, HasCleanDisk, on_err}
use Rattle.portal_tables_rows.proofs.Common.{same_now, still_open, Anything, err_from_is_err_and, Database}
use Rattle.portal_tables_rows.proofs.Common.{are_names_free}
use Rattle.portal_tables_rows.proofs.HeldLemmas.{open_then}
use Rattle.portal_tables_rows.proofs.FromVersionLemmas.{upgrade_done, upgrade_crash, fails_crash}
use Rattle.portal_tables_rows.proofs.FromVersionLemmas.{undone_after}
use Rattle.portal_tables_rows.proofs.from_versions.migrate_schema.Goals as goal

pub returns-clause-done : goal.returns-clause-done
returns-clause-done g c clean live =
    let a = state g.S.Store c.args.conn.now in
    let b = state g.S.Store c.read_sessions_of.new.conn in
    let both = open_then g.S.Store (λ db t held. tt) c.in_ok-vouchers.ensures c.in_ok-sessions.ensures in
    let late : HasCleanDisk b = omega (arith, c.migrate_with_rows.ensures.crash.clean) in
    upgrade_done c.args.from a b (state g.S.Store c.migrate_with_rows.new.conn) both.looks
    c.in_ok-vouchers.vouchers.items c.as_slice.result.now c.in_ok-sessions.sessions.items
    c.as_slice-2.result.now c.as_slice.ensures.value c.as_slice-2.ensures.value both.read late live
    (c.in_ok-migrate_with_rows.ensures.done clean (still_open Anything a b both.looks late live tt))

pub returns-clause-crash : goal.returns-clause-crash
returns-clause-crash g c =
    let both = open_then g.S.Store (λ db t held. tt) c.in_ok-vouchers.ensures c.in_ok-sessions.ensures in
    upgrade_crash c.args.from (state g.S.Store c.args.conn.now) (state g.S.Store c.read_sessions_of.new.conn)
    (state g.S.Store c.migrate_with_rows.new.conn) both.looks
    c.in_ok-vouchers.vouchers.items c.as_slice.result.now c.in_ok-sessions.sessions.items
    c.as_slice-2.result.now c.as_slice.ensures.value c.as_slice-2.ensures.value both.read
    c.migrate_with_rows.ensures.crash

pub returns-in_err-migrate_with_rows-clause-crash : goal.returns-in_err-migrate_with_rows-clause-crash
returns-in_err-migrate_with_rows-clause-crash g c =
    let both = open_then g.S.Store (λ db t held. tt) c.in_ok-vouchers.ensures c.in_ok-sessions.ensures in
    upgrade_crash c.args.from (state g.S.Store c.args.conn.now) (state g.S.Store c.read_sessions_of.new.conn)
    (state g.S.Store c.migrate_with_rows.new.conn) both.looks
    c.in_ok-vouchers.vouchers.items c.as_slice.result.now c.in_ok-sessions.sessions.items
    c.as_slice-2.result.now c.as_slice.ensures.value c.as_slice-2.ensures.value both.read
    c.migrate_with_rows.ensures.crash

pub returns-in_err-vouchers-clause-crash : goal.returns-in_err-vouchers-clause-crash
returns-in_err-vouchers-clause-crash g c = fails_crash c.args.from _ _ c.in_err-vouchers.ensures.looks

pub returns-in_err-sessions-clause-crash : goal.returns-in_err-sessions-clause-crash
returns-in_err-sessions-clause-crash g c = fails_crash c.args.from _ _
    (open_then g.S.Store (λ db t held. tt) c.in_ok-vouchers.ensures c.in_err-sessions.ensures).looks

pub returns-in_err-vouchers-clause-undone : goal.returns-in_err-vouchers-clause-undone
returns-in_err-vouchers-clause-undone g c clean live outside settled =
    on_err _ (c.in_err-vouchers.ensures.looks.undone clean live tt outside settled)

pub returns-in_err-sessions-clause-undone : goal.returns-in_err-sessions-clause-undone
returns-in_err-sessions-clause-undone g c clean live outside settled = on_err _
    ((open_then g.S.Store (λ db t held. tt) c.in_ok-vouchers.ensures c.in_err-sessions.ensures).looks.undone
    clean live tt outside settled)

pub returns-in_err-migrate_with_rows-clause-undone : goal.returns-in_err-migrate_with_rows-clause-undone
returns-in_err-migrate_with_rows-clause-undone g c clean live outside settled =
    let a = state g.S.Store c.args.conn.now in
    let b = state g.S.Store c.read_sessions_of.new.conn in
    let late : HasCleanDisk b = omega (arith, c.migrate_with_rows.ensures.crash.clean) in
    let read = (open_then g.S.Store (λ db t held. tt) c.in_ok-vouchers.ensures c.in_ok-sessions.ensures).looks
    in
    let same = read.same late live tt in
    on_err _ (undone_after a b (state g.S.Store c.migrate_with_rows.new.conn) read late live
    (c.in_err-migrate_with_rows.ensures.undone clean same.0.is_open (same.0.mode ∙ outside)
    (same.0.now_is ∙ settled ∙ sym same.0.committed_is)))

pub returns-in_err-vouchers-clause-foreign : goal.returns-in_err-vouchers-clause-foreign
returns-in_err-vouchers-clause-foreign g c clean live room t was can =
    let told = err_from_is_err_and c.from_residual.result c.from_residual.ensures.1 in
    rw (told.1, told.2) (c.in_err-vouchers.ensures.foreign clean live t was can)

pub returns-in_err-sessions-clause-foreign : goal.returns-in_err-sessions-clause-foreign
returns-in_err-sessions-clause-foreign g c clean live room t was can =
    let told =
    err_from_is_err_and c.from_residual-in_err-sessions.result c.from_residual-in_err-sessions.ensures.1 in
    rw (told.1, told.2) ((open_then g.S.Store (λ db t held. tt) c.in_ok-vouchers.ensures
    c.in_err-sessions.ensures).foreign clean live t was can)

pub returns-in_err-migrate_with_rows-clause-foreign : goal.returns-in_err-migrate_with_rows-clause-foreign
returns-in_err-migrate_with_rows-clause-foreign g c clean live room t was can =
    let told = err_from_is_err_and c.from_residual-in_err-migrate_with_rows.result
    c.from_residual-in_err-migrate_with_rows.ensures.1 in
    let a = state g.S.Store c.args.conn.now in
    let b = state g.S.Store c.read_sessions_of.new.conn in
    let late : HasCleanDisk b = omega (arith, c.migrate_with_rows.ensures.crash.clean) in
    let read = (open_then g.S.Store (λ db t held. tt) c.in_ok-vouchers.ensures c.in_ok-sessions.ensures).looks
    in
    rw (told.1, told.2) (c.in_err-migrate_with_rows.ensures.foreign
    (subst (λ (db : Database). are_names_free db.schema ≡ true) (sym (same_now Anything a b read late live
    tt))
    room))
