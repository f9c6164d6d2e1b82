use Rattle.portal_tables.proofs.Common.{arith, state, HasCleanDisk, survives_then, as_before, again_at}
use Rattle.portal_tables.proofs.Common.{MayMigrate, version_number, HoldsLedgerIn}
use Rattle.portal_tables.proofs.MigratingLemmas.{upgraded_at, left_in_either}
use Rattle.portal_tables.proofs.migration.migrate_database.Goals as goal

pub returns-in-Ok-clause-represents : goal.returns-in-Ok-clause-represents
returns-in-Ok-clause-represents g c clean h at =
    upgraded_at c.args.from h (state g.S.Store c.args.conn.now) (state g.S.Store c.migrate_schema.new.conn) at
    (λ db. g.met.S.Store.settled c.migrate_schema.new.conn.store db) (c.in-Ok.ensures.done clean at.is_open)

pub returns-in-Ok-clause-left : goal.returns-in-Ok-clause-left
returns-in-Ok-clause-left g c clean h at = left_in_either c.args.from h (state g.S.Store c.args.conn.now)
    (state g.S.Store c.migrate_schema.new.conn) at clean c.migrate_schema.ensures.crash

pub returns-in-Err-clause-memory : goal.returns-in-Err-clause-memory
returns-in-Err-clause-memory g c clean live outside settled is =
    let mid : HasCleanDisk (state g.S.Store c.migrate_schema.new.conn) =
    omega (arith, c.open_fault_of.ensures.survives.clean) in
    as_before (state g.S.Store c.args.conn.now) (state g.S.Store c.migrate_schema.new.conn)
    (state g.S.Store c.open_fault_of.new.conn) (c.in-Err.ensures.undone mid live outside settled)
    (c.open_fault_of.ensures.same clean is)

pub returns-in-Err-clause-crash : goal.returns-in-Err-clause-crash
returns-in-Err-clause-crash g c =
    let a = state g.S.Store c.args.conn.now in
    survives_then a (state g.S.Store c.migrate_schema.new.conn) (state g.S.Store c.open_fault_of.new.conn) _
    _ (MayMigrate c.args.from a) (λ _ db may. may) (λ _ db none. absurd none) c.migrate_schema.ensures.crash
    c.open_fault_of.ensures.survives

pub returns-in-Err-clause-stays : goal.returns-in-Err-clause-stays
returns-in-Err-clause-stays g c clean h at is =
    let mid : HasCleanDisk (state g.S.Store c.migrate_schema.new.conn) =
    omega (arith, c.open_fault_of.ensures.survives.clean) in
    again_at (HoldsLedgerIn (version_number c.args.from) h) (state g.S.Store c.args.conn.now)
    (state g.S.Store c.migrate_schema.new.conn) (state g.S.Store c.open_fault_of.new.conn)
    (λ db. g.met.S.Store.settled c.open_fault_of.new.conn.store db) at
    (c.in-Err.ensures.undone mid at.is_open at.autocommit at.settled) (c.open_fault_of.ensures.same clean is)

pub returns-in-Err-clause-left : goal.returns-in-Err-clause-left
returns-in-Err-clause-left g c clean h at =
    let a = state g.S.Store c.args.conn.now in
    left_in_either c.args.from h a (state g.S.Store c.open_fault_of.new.conn) at clean
    (survives_then a (state g.S.Store c.migrate_schema.new.conn) (state g.S.Store c.open_fault_of.new.conn) _
    _ (MayMigrate c.args.from a) (λ _ db may. may) (λ _ db none. absurd none) c.migrate_schema.ensures.crash
    c.open_fault_of.ensures.survives)
