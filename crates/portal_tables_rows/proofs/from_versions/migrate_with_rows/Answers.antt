use Rattle.portal_tables_rows.proofs.Common.{arith, subst, sym, ◌∙◌, state, HasCleanDisk}
use Rattle.portal_tables_rows.proofs.Common.{Has, List}
use Rattle.portal_tables_rows.proofs.Common.{AreNamesFree, after_migration, version_number}
use Rattle.portal_tables_rows.proofs.Common.{layout_of, copied_tables}
use Rattle.portal_tables_rows.proofs.Common.{[], on_err}
use Rattle.portal_tables_rows.proofs.Common.{Anything, Database, same_now}
use Rattle.portal_tables_rows.specs.Copying.{AreRead}
use Rattle.portal_tables_rows.proofs.FreeLemmas.{free_is}
use Rattle.portal_tables_rows.proofs.FromVersionLemmas.{read_crash, read_done, undone_after}
use Rattle.portal_tables_rows.proofs.RestoreLemmas.{has_copied}
use Rattle.portal_tables_sql.specs.declared.copied_tables.CopiedTable.{CopiedTable}
use Rattle.portal_tables_rows.proofs.from_versions.migrate_with_rows.Goals as goal

pub returns-clause-done : goal.returns-clause-done
returns-clause-done g c clean live =
    let a = state g.S.Store c.args.conn.now in
    let b = state g.S.Store c.read_tables.new.conn in
    let free = subst AreNamesFree c.schema.ensures.value
    (free_is c.schema.result.now (sym c.can_add_tables.ensures ∙ c.if-not-can_add_tables.false)) in
    read_done c.args.from c.as_slice.result.now (after_migration c.args.from c.args.vouchers.now
    c.args.sessions.now)
    a b (state g.S.Store c.commit_migration.new.conn) c.in_ok-read.ensures.looks free
    (λ late on t h. subst (λ read. AreRead read (copied_tables c.args.from) t) (sym c.as_slice.ensures.value)
    (subst (λ tables. AreRead c.in_ok-read.read.items tables t) c.copied_tables.ensures
    (c.in_ok-read.ensures.read late on (layout_of (version_number c.args.from)) (version_number c.args.from)
    [] t
    h (λ x has. has_copied c.args.from x (subst (λ (xs : List CopiedTable). Has xs x) c.copied_tables.ensures
    has)))))
    (omega (arith, c.commit_migration.ensures.crash.clean)) live
    (c.in_ok-commit_migration.ensures.done clean)

pub returns-clause-crash : goal.returns-clause-crash
returns-clause-crash g c =
    let a = state g.S.Store c.args.conn.now in
    let b = state g.S.Store c.read_tables.new.conn in
    let free = subst AreNamesFree c.schema.ensures.value
    (free_is c.schema.result.now (sym c.can_add_tables.ensures ∙ c.if-not-can_add_tables.false)) in
    read_crash c.args.from c.as_slice.result.now (after_migration c.args.from c.args.vouchers.now
    c.args.sessions.now)
    a b (state g.S.Store c.commit_migration.new.conn) c.in_ok-read.ensures.looks free
    (λ late on t h. subst (λ read. AreRead read (copied_tables c.args.from) t) (sym c.as_slice.ensures.value)
    (subst (λ tables. AreRead c.in_ok-read.read.items tables t) c.copied_tables.ensures
    (c.in_ok-read.ensures.read late on (layout_of (version_number c.args.from)) (version_number c.args.from)
    [] t
    h (λ x has. has_copied c.args.from x (subst (λ (xs : List CopiedTable). Has xs x) c.copied_tables.ensures
    has)))))
    c.commit_migration.ensures.crash

pub returns-in_err-commit_migration-clause-undone : goal.returns-in_err-commit_migration-clause-undone
returns-in_err-commit_migration-clause-undone g c clean live outside settled =
    let a = state g.S.Store c.args.conn.now in
    let b = state g.S.Store c.read_tables.new.conn in
    let late : HasCleanDisk b = omega (arith, c.commit_migration.ensures.crash.clean) in
    let read = c.in_ok-read.ensures.looks in
    let free = subst AreNamesFree c.schema.ensures.value
    (free_is c.schema.result.now (sym c.can_add_tables.ensures ∙ c.if-not-can_add_tables.false)) in
    let still = subst (λ (db : Database). AreNamesFree db.schema)
    (sym (same_now Anything a b read late live tt)) free in
    on_err _ (undone_after a b (state g.S.Store c.commit_migration.new.conn) read late live
    (c.in_err-commit_migration.ensures.undone clean still))

pub returns-in_err-commit_migration-clause-crash : goal.returns-in_err-commit_migration-clause-crash
returns-in_err-commit_migration-clause-crash g c =
    let a = state g.S.Store c.args.conn.now in
    let b = state g.S.Store c.read_tables.new.conn in
    let free = subst AreNamesFree c.schema.ensures.value
    (free_is c.schema.result.now (sym c.can_add_tables.ensures ∙ c.if-not-can_add_tables.false)) in
    read_crash c.args.from c.as_slice.result.now (after_migration c.args.from c.args.vouchers.now
    c.args.sessions.now)
    a b (state g.S.Store c.commit_migration.new.conn) c.in_ok-read.ensures.looks free
    (λ late on t h. subst (λ read. AreRead read (copied_tables c.args.from) t) (sym c.as_slice.ensures.value)
    (subst (λ tables. AreRead c.in_ok-read.read.items tables t) c.copied_tables.ensures
    (c.in_ok-read.ensures.read late on (layout_of (version_number c.args.from)) (version_number c.args.from)
    [] t
    h (λ x has. has_copied c.args.from x (subst (λ (xs : List CopiedTable). Has xs x) c.copied_tables.ensures
    has)))))
    c.commit_migration.ensures.crash
