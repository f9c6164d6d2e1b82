use Rattle.portal_tables.proofs.Common.{Some, ap, ◌∙◌, state, First, Second, Third, Fourth}
use Rattle.portal_tables.proofs.Common.{Fifth, Sixth}
use Rattle.portal_tables.proofs.AttachLemmas.{completed_done, migrated_why, resumed_crash, resumed_done}
use Rattle.portal_tables.proofs.AttachLemmas.{resumed_why}
use Rattle.portal_tables.proofs.attach_steps.migrate_existing.Goals as goal

pub complete_indexes-requires : goal.complete_indexes-requires
complete_indexes-requires g c = c.in_ok-read_schema_version.ensures.mode c.requires

pub returns-in_err-check_and_migrate-in-Some-eq1-clause-crash :
    goal.returns-in_err-check_and_migrate-in-Some-eq1-clause-crash
returns-in_err-check_and_migrate-in-Some-eq1-clause-crash g c =
    resumed_crash First (state g.S.Store c.args.conn.now) (state g.S.Store c.read_schema_version.new.conn)
    (state g.S.Store c.check_and_migrate.new.conn) c.in_ok-read_schema_version.ensures.gives_version
    (c.in-Some-eq1.is ∙ ap Some c.in-Some-eq1.field-0-test) c.check_and_migrate.ensures.crash
    c.read_schema_version.ensures.survives

pub returns-in_ok-check_and_migrate-in-Some-eq1-clause-crash :
    goal.returns-in_ok-check_and_migrate-in-Some-eq1-clause-crash
returns-in_ok-check_and_migrate-in-Some-eq1-clause-crash g c =
    resumed_crash First (state g.S.Store c.args.conn.now) (state g.S.Store c.read_schema_version.new.conn)
    (state g.S.Store c.check_and_migrate.new.conn) c.in_ok-read_schema_version.ensures.gives_version
    (c.in-Some-eq1.is ∙ ap Some c.in-Some-eq1.field-0-test) c.check_and_migrate.ensures.crash
    c.read_schema_version.ensures.survives

pub returns-in_ok-check_and_migrate-in-Some-eq1-clause-why :
    goal.returns-in_ok-check_and_migrate-in-Some-eq1-clause-why
returns-in_ok-check_and_migrate-in-Some-eq1-clause-why g c clean =
    migrated_why First (state g.S.Store c.args.conn.now) (state g.S.Store c.read_schema_version.new.conn)
    (state g.S.Store c.check_and_migrate.new.conn) c.in_ok-read_schema_version.ensures.gives_version
    (c.in-Some-eq1.is ∙ ap Some c.in-Some-eq1.field-0-test) c.check_and_migrate.ensures.crash clean
    c.in_ok-check_and_migrate-in-Some-eq1.ensures.spares

pub returns-in_ok-check_and_migrate-in-Some-eq1-clause-done :
    goal.returns-in_ok-check_and_migrate-in-Some-eq1-clause-done
returns-in_ok-check_and_migrate-in-Some-eq1-clause-done g c clean settled =
    resumed_done First (state g.S.Store c.args.conn.now) (state g.S.Store c.read_schema_version.new.conn)
    (state g.S.Store c.check_and_migrate.new.conn) c.in_ok-read_schema_version.ensures.gives_version
    (c.in-Some-eq1.is ∙ ap Some c.in-Some-eq1.field-0-test) c.check_and_migrate.ensures.crash clean
    (c.in_ok-check_and_migrate-in-Some-eq1.ensures.done clean)

pub returns-in_err-check_and_migrate-in-Some-eq2-clause-crash :
    goal.returns-in_err-check_and_migrate-in-Some-eq2-clause-crash
returns-in_err-check_and_migrate-in-Some-eq2-clause-crash g c =
    resumed_crash Second (state g.S.Store c.args.conn.now) (state g.S.Store c.read_schema_version.new.conn)
    (state g.S.Store c.check_and_migrate-in-Some-eq2.new.conn)
    c.in_ok-read_schema_version.ensures.gives_version (c.in-Some-eq2.is ∙ ap Some c.in-Some-eq2.field-0-test)
    c.check_and_migrate-in-Some-eq2.ensures.crash c.read_schema_version.ensures.survives

pub returns-in_ok-check_and_migrate-in-Some-eq2-clause-crash :
    goal.returns-in_ok-check_and_migrate-in-Some-eq2-clause-crash
returns-in_ok-check_and_migrate-in-Some-eq2-clause-crash g c =
    resumed_crash Second (state g.S.Store c.args.conn.now) (state g.S.Store c.read_schema_version.new.conn)
    (state g.S.Store c.check_and_migrate-in-Some-eq2.new.conn)
    c.in_ok-read_schema_version.ensures.gives_version (c.in-Some-eq2.is ∙ ap Some c.in-Some-eq2.field-0-test)
    c.check_and_migrate-in-Some-eq2.ensures.crash c.read_schema_version.ensures.survives

pub returns-in_ok-check_and_migrate-in-Some-eq2-clause-why :
    goal.returns-in_ok-check_and_migrate-in-Some-eq2-clause-why
returns-in_ok-check_and_migrate-in-Some-eq2-clause-why g c clean =
    migrated_why Second (state g.S.Store c.args.conn.now) (state g.S.Store c.read_schema_version.new.conn)
    (state g.S.Store c.check_and_migrate-in-Some-eq2.new.conn)
    c.in_ok-read_schema_version.ensures.gives_version (c.in-Some-eq2.is ∙ ap Some c.in-Some-eq2.field-0-test)
    c.check_and_migrate-in-Some-eq2.ensures.crash clean c.in_ok-check_and_migrate-in-Some-eq2.ensures.spares

pub returns-in_ok-check_and_migrate-in-Some-eq2-clause-done :
    goal.returns-in_ok-check_and_migrate-in-Some-eq2-clause-done
returns-in_ok-check_and_migrate-in-Some-eq2-clause-done g c clean settled =
    resumed_done Second (state g.S.Store c.args.conn.now) (state g.S.Store c.read_schema_version.new.conn)
    (state g.S.Store c.check_and_migrate-in-Some-eq2.new.conn)
    c.in_ok-read_schema_version.ensures.gives_version (c.in-Some-eq2.is ∙ ap Some c.in-Some-eq2.field-0-test)
    c.check_and_migrate-in-Some-eq2.ensures.crash clean
    (c.in_ok-check_and_migrate-in-Some-eq2.ensures.done clean)

pub returns-in_err-check_and_migrate-in-Some-eq3-clause-crash :
    goal.returns-in_err-check_and_migrate-in-Some-eq3-clause-crash
returns-in_err-check_and_migrate-in-Some-eq3-clause-crash g c =
    resumed_crash Third (state g.S.Store c.args.conn.now) (state g.S.Store c.read_schema_version.new.conn)
    (state g.S.Store c.check_and_migrate-in-Some-eq3.new.conn)
    c.in_ok-read_schema_version.ensures.gives_version (c.in-Some-eq3.is ∙ ap Some c.in-Some-eq3.field-0-test)
    c.check_and_migrate-in-Some-eq3.ensures.crash c.read_schema_version.ensures.survives

pub returns-in_ok-check_and_migrate-in-Some-eq3-clause-crash :
    goal.returns-in_ok-check_and_migrate-in-Some-eq3-clause-crash
returns-in_ok-check_and_migrate-in-Some-eq3-clause-crash g c =
    resumed_crash Third (state g.S.Store c.args.conn.now) (state g.S.Store c.read_schema_version.new.conn)
    (state g.S.Store c.check_and_migrate-in-Some-eq3.new.conn)
    c.in_ok-read_schema_version.ensures.gives_version (c.in-Some-eq3.is ∙ ap Some c.in-Some-eq3.field-0-test)
    c.check_and_migrate-in-Some-eq3.ensures.crash c.read_schema_version.ensures.survives

pub returns-in_ok-check_and_migrate-in-Some-eq3-clause-why :
    goal.returns-in_ok-check_and_migrate-in-Some-eq3-clause-why
returns-in_ok-check_and_migrate-in-Some-eq3-clause-why g c clean =
    migrated_why Third (state g.S.Store c.args.conn.now) (state g.S.Store c.read_schema_version.new.conn)
    (state g.S.Store c.check_and_migrate-in-Some-eq3.new.conn)
    c.in_ok-read_schema_version.ensures.gives_version (c.in-Some-eq3.is ∙ ap Some c.in-Some-eq3.field-0-test)
    c.check_and_migrate-in-Some-eq3.ensures.crash clean c.in_ok-check_and_migrate-in-Some-eq3.ensures.spares

pub returns-in_ok-check_and_migrate-in-Some-eq3-clause-done :
    goal.returns-in_ok-check_and_migrate-in-Some-eq3-clause-done
returns-in_ok-check_and_migrate-in-Some-eq3-clause-done g c clean settled =
    resumed_done Third (state g.S.Store c.args.conn.now) (state g.S.Store c.read_schema_version.new.conn)
    (state g.S.Store c.check_and_migrate-in-Some-eq3.new.conn)
    c.in_ok-read_schema_version.ensures.gives_version (c.in-Some-eq3.is ∙ ap Some c.in-Some-eq3.field-0-test)
    c.check_and_migrate-in-Some-eq3.ensures.crash clean
    (c.in_ok-check_and_migrate-in-Some-eq3.ensures.done clean)

pub returns-in_err-check_and_migrate-in-Some-eq4-clause-crash :
    goal.returns-in_err-check_and_migrate-in-Some-eq4-clause-crash
returns-in_err-check_and_migrate-in-Some-eq4-clause-crash g c =
    resumed_crash Fourth (state g.S.Store c.args.conn.now) (state g.S.Store c.read_schema_version.new.conn)
    (state g.S.Store c.check_and_migrate-in-Some-eq4.new.conn)
    c.in_ok-read_schema_version.ensures.gives_version (c.in-Some-eq4.is ∙ ap Some c.in-Some-eq4.field-0-test)
    c.check_and_migrate-in-Some-eq4.ensures.crash c.read_schema_version.ensures.survives

pub returns-in_ok-check_and_migrate-in-Some-eq4-clause-crash :
    goal.returns-in_ok-check_and_migrate-in-Some-eq4-clause-crash
returns-in_ok-check_and_migrate-in-Some-eq4-clause-crash g c =
    resumed_crash Fourth (state g.S.Store c.args.conn.now) (state g.S.Store c.read_schema_version.new.conn)
    (state g.S.Store c.check_and_migrate-in-Some-eq4.new.conn)
    c.in_ok-read_schema_version.ensures.gives_version (c.in-Some-eq4.is ∙ ap Some c.in-Some-eq4.field-0-test)
    c.check_and_migrate-in-Some-eq4.ensures.crash c.read_schema_version.ensures.survives

pub returns-in_ok-check_and_migrate-in-Some-eq4-clause-why :
    goal.returns-in_ok-check_and_migrate-in-Some-eq4-clause-why
returns-in_ok-check_and_migrate-in-Some-eq4-clause-why g c clean =
    migrated_why Fourth (state g.S.Store c.args.conn.now) (state g.S.Store c.read_schema_version.new.conn)
    (state g.S.Store c.check_and_migrate-in-Some-eq4.new.conn)
    c.in_ok-read_schema_version.ensures.gives_version (c.in-Some-eq4.is ∙ ap Some c.in-Some-eq4.field-0-test)
    c.check_and_migrate-in-Some-eq4.ensures.crash clean c.in_ok-check_and_migrate-in-Some-eq4.ensures.spares

pub returns-in_ok-check_and_migrate-in-Some-eq4-clause-done :
    goal.returns-in_ok-check_and_migrate-in-Some-eq4-clause-done
returns-in_ok-check_and_migrate-in-Some-eq4-clause-done g c clean settled =
    resumed_done Fourth (state g.S.Store c.args.conn.now) (state g.S.Store c.read_schema_version.new.conn)
    (state g.S.Store c.check_and_migrate-in-Some-eq4.new.conn)
    c.in_ok-read_schema_version.ensures.gives_version (c.in-Some-eq4.is ∙ ap Some c.in-Some-eq4.field-0-test)
    c.check_and_migrate-in-Some-eq4.ensures.crash clean
    (c.in_ok-check_and_migrate-in-Some-eq4.ensures.done clean)

pub returns-in_err-check_and_migrate-in-Some-eq5-clause-crash :
    goal.returns-in_err-check_and_migrate-in-Some-eq5-clause-crash
returns-in_err-check_and_migrate-in-Some-eq5-clause-crash g c =
    resumed_crash Fifth (state g.S.Store c.args.conn.now) (state g.S.Store c.read_schema_version.new.conn)
    (state g.S.Store c.check_and_migrate-in-Some-eq5.new.conn)
    c.in_ok-read_schema_version.ensures.gives_version (c.in-Some-eq5.is ∙ ap Some c.in-Some-eq5.field-0-test)
    c.check_and_migrate-in-Some-eq5.ensures.crash c.read_schema_version.ensures.survives

pub returns-in_ok-check_and_migrate-in-Some-eq5-clause-crash :
    goal.returns-in_ok-check_and_migrate-in-Some-eq5-clause-crash
returns-in_ok-check_and_migrate-in-Some-eq5-clause-crash g c =
    resumed_crash Fifth (state g.S.Store c.args.conn.now) (state g.S.Store c.read_schema_version.new.conn)
    (state g.S.Store c.check_and_migrate-in-Some-eq5.new.conn)
    c.in_ok-read_schema_version.ensures.gives_version (c.in-Some-eq5.is ∙ ap Some c.in-Some-eq5.field-0-test)
    c.check_and_migrate-in-Some-eq5.ensures.crash c.read_schema_version.ensures.survives

pub returns-in_ok-check_and_migrate-in-Some-eq5-clause-why :
    goal.returns-in_ok-check_and_migrate-in-Some-eq5-clause-why
returns-in_ok-check_and_migrate-in-Some-eq5-clause-why g c clean =
    migrated_why Fifth (state g.S.Store c.args.conn.now) (state g.S.Store c.read_schema_version.new.conn)
    (state g.S.Store c.check_and_migrate-in-Some-eq5.new.conn)
    c.in_ok-read_schema_version.ensures.gives_version (c.in-Some-eq5.is ∙ ap Some c.in-Some-eq5.field-0-test)
    c.check_and_migrate-in-Some-eq5.ensures.crash clean c.in_ok-check_and_migrate-in-Some-eq5.ensures.spares

pub returns-in_ok-check_and_migrate-in-Some-eq5-clause-done :
    goal.returns-in_ok-check_and_migrate-in-Some-eq5-clause-done
returns-in_ok-check_and_migrate-in-Some-eq5-clause-done g c clean settled =
    resumed_done Fifth (state g.S.Store c.args.conn.now) (state g.S.Store c.read_schema_version.new.conn)
    (state g.S.Store c.check_and_migrate-in-Some-eq5.new.conn)
    c.in_ok-read_schema_version.ensures.gives_version (c.in-Some-eq5.is ∙ ap Some c.in-Some-eq5.field-0-test)
    c.check_and_migrate-in-Some-eq5.ensures.crash clean
    (c.in_ok-check_and_migrate-in-Some-eq5.ensures.done clean)

pub returns-in_err-complete_indexes-in-Some-eq6-clause-crash :
    goal.returns-in_err-complete_indexes-in-Some-eq6-clause-crash
returns-in_err-complete_indexes-in-Some-eq6-clause-crash g c =
    resumed_crash Sixth (state g.S.Store c.args.conn.now) (state g.S.Store c.read_schema_version.new.conn)
    (state g.S.Store c.complete_indexes.new.conn) c.in_ok-read_schema_version.ensures.gives_version
    (c.in-Some-eq6.is ∙ ap Some c.in-Some-eq6.field-0-test) c.complete_indexes.ensures.crash
    c.read_schema_version.ensures.survives

pub returns-in_ok-complete_indexes-in-Some-eq6-clause-crash :
    goal.returns-in_ok-complete_indexes-in-Some-eq6-clause-crash
returns-in_ok-complete_indexes-in-Some-eq6-clause-crash g c =
    resumed_crash Sixth (state g.S.Store c.args.conn.now) (state g.S.Store c.read_schema_version.new.conn)
    (state g.S.Store c.complete_indexes.new.conn) c.in_ok-read_schema_version.ensures.gives_version
    (c.in-Some-eq6.is ∙ ap Some c.in-Some-eq6.field-0-test) c.complete_indexes.ensures.crash
    c.read_schema_version.ensures.survives

pub returns-in_ok-complete_indexes-in-Some-eq6-clause-why :
    goal.returns-in_ok-complete_indexes-in-Some-eq6-clause-why
returns-in_ok-complete_indexes-in-Some-eq6-clause-why g c clean =
    resumed_why Sixth (state g.S.Store c.args.conn.now) (state g.S.Store c.read_schema_version.new.conn)
    (state g.S.Store c.complete_indexes.new.conn) c.in_ok-read_schema_version.ensures.gives_version
    (c.in-Some-eq6.is ∙ ap Some c.in-Some-eq6.field-0-test) c.complete_indexes.ensures.crash clean
    c.in_ok-complete_indexes-in-Some-eq6.ensures.spares

pub returns-in_ok-complete_indexes-in-Some-eq6-clause-done :
    goal.returns-in_ok-complete_indexes-in-Some-eq6-clause-done
returns-in_ok-complete_indexes-in-Some-eq6-clause-done g c clean settled =
    completed_done (state g.S.Store c.args.conn.now) (state g.S.Store c.read_schema_version.new.conn)
    (state g.S.Store c.complete_indexes.new.conn) c.in_ok-read_schema_version.ensures.gives_version
    (c.in-Some-eq6.is ∙ ap Some c.in-Some-eq6.field-0-test) c.complete_indexes.ensures.crash clean settled
    (c.in_ok-complete_indexes-in-Some-eq6.ensures.done clean)
