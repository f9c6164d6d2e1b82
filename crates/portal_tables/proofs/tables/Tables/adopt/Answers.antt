use Rattle.portal_tables.proofs.Common.{◌≡◌, ◌≤◌, ℕ, Some, false, sym, subst, refl, state, Refused, IsKnown}
use Rattle.portal_tables.proofs.Common.{AttachesOthers, this_schema_version, running}
use Rattle.portal_tables.specs.declared.tables.Tables.{Tables}
use Rattle.portal_tables.specs.TablesRepresent.{IsFaultFree, ConnIsFaultFree, TablesRepresent}
use Rattle.portal_tables.proofs.AttachedLemmas.{adopted, exact_known, exact_why, others_left, others_stay}
use Rattle.portal_tables.proofs.AttachedLemmas.{refused, spares, kept_by, conn_honest, conn_clean}
use Rattle.portal_tables.proofs.AttachedLemmas.{tables_honest, tables_clean}
use Rattle.portal_tables.proofs.tables.Tables.adopt.Goals as goal

pub returns-in-Ok-clause-fault_free : goal.returns-in-Ok-clause-fault_free
returns-in-Ok-clause-fault_free g c =
    let tables : Tables g.row.S.Denot = record { conn = c.create_or_migrate.new.conn; is_stopped = false } in
    subst (λ (t : Tables g.row.S.Denot). IsFaultFree g.S.Store t → ConnIsFaultFree g.S.Store c.args.conn)
    (sym c.new.ensures) (tables_honest g.S.Store c.args.conn tables c.create_or_migrate.ensures.crash.clean)

pub returns-in-Ok-clause-attaches : goal.returns-in-Ok-clause-attaches
returns-in-Ok-clause-attaches g c h at =
    let tables : Tables g.row.S.Denot = record { conn = c.create_or_migrate.new.conn; is_stopped = false } in
    subst (λ (t : Tables g.row.S.Denot). IsFaultFree g.S.Store t → TablesRepresent g.S.Store t (running h))
    (sym c.new.ensures)
    (λ honest. adopted g.S.Store h c.args.conn tables refl (λ db. g.met.S.Store.settled tables.conn.store db)
    at (λ live. c.in-Ok.ensures.ready (tables_clean g.S.Store tables honest) live))

pub returns-in-Ok-clause-others : goal.returns-in-Ok-clause-others
returns-in-Ok-clause-others g c h at =
    let old = c.args.conn in
    let tables : Tables g.row.S.Denot = record { conn = c.create_or_migrate.new.conn; is_stopped = false } in
    subst (λ (t : Tables g.row.S.Denot). IsFaultFree g.S.Store t → AttachesOthers g.S.Store old t)
    (sym c.new.ensures)
    (λ honest. let clean = tables_clean g.S.Store tables honest in (
      others_stay g.S.Store h old tables.conn at (λ live. c.in-Ok.ensures.ready clean live),
      others_left g.S.Store h old tables.conn (λ db. g.met.S.Store.settled old.store db) at clean
          c.create_or_migrate.ensures.crash,
    ))

pub returns-in-Err-clause-others : goal.returns-in-Err-clause-others
returns-in-Err-clause-others g c h at honest =
    let old = c.args.conn in
    let new = c.create_or_migrate.new.conn in
    others_left g.S.Store h old new (λ db. g.met.S.Store.settled old.store db) at
    (conn_clean g.S.Store new honest) c.create_or_migrate.ensures.crash

pub returns-in-Ok-clause-why : goal.returns-in-Ok-clause-why
returns-in-Ok-clause-why g c =
    let tables : Tables g.row.S.Denot = record { conn = c.create_or_migrate.new.conn; is_stopped = false } in
    subst (λ (t : Tables g.row.S.Denot). IsFaultFree g.S.Store t → IsKnown (state g.S.Store c.args.conn).now)
    (sym c.new.ensures) (λ honest. c.in-Ok.ensures.why (tables_clean g.S.Store tables honest))

pub returns-in-Ok-clause-exact : goal.returns-in-Ok-clause-exact
returns-in-Ok-clause-exact g c no_view ours told tells =
    let tables : Tables g.row.S.Denot = record { conn = c.create_or_migrate.new.conn; is_stopped = false } in
    subst (λ (t : Tables g.row.S.Denot). IsFaultFree g.S.Store t → (schema_version : ℕ) × (1 ≤ schema_version)
    × (schema_version ≤ this_schema_version) × (told ≡ Some schema_version)) (sym c.new.ensures)
    (λ honest. exact_known (state g.S.Store c.args.conn).now no_view ours told tells
    (c.in-Ok.ensures.why (tables_clean g.S.Store tables honest)))

pub returns-in-Err-clause-fault_free : goal.returns-in-Err-clause-fault_free
returns-in-Err-clause-fault_free g c =
    conn_honest g.S.Store c.args.conn c.create_or_migrate.new.conn c.create_or_migrate.ensures.crash.clean

pub returns-in-Err-clause-attaches : goal.returns-in-Err-clause-attaches
returns-in-Err-clause-attaches g c h at =
    let r : Refused g.row.S.Denot =
    record { fault = c.in-Err.fault; connection = c.create_or_migrate.new.conn } in
    refused g.S.Store h c.args.conn r at (λ db. g.met.S.Store.settled r.connection.store db)
    c.in-Err.ensures.why c.in-Err.ensures.kept c.create_or_migrate.ensures.crash

pub returns-in-Err-clause-why : goal.returns-in-Err-clause-why
returns-in-Err-clause-why g c honest =
    c.in-Err.ensures.why (conn_clean g.S.Store c.create_or_migrate.new.conn honest)

pub returns-in-Err-clause-kept : goal.returns-in-Err-clause-kept
returns-in-Err-clause-kept g c honest live other =
    let new = c.create_or_migrate.new.conn in
    kept_by g.S.Store c.args.conn new (λ db. g.met.S.Store.settled new.store db)
    (c.in-Err.ensures.kept (conn_clean g.S.Store new honest) live other)

pub returns-in-Err-clause-exact : goal.returns-in-Err-clause-exact
returns-in-Err-clause-exact g c no_view ours told tells honest =
    exact_why (state g.S.Store c.args.conn).now no_view ours told tells c.in-Err.fault
    (c.in-Err.ensures.why (conn_clean g.S.Store c.create_or_migrate.new.conn honest))

pub returns-in-Err-clause-spares : goal.returns-in-Err-clause-spares
returns-in-Err-clause-spares g c unknown = spares (state g.S.Store c.args.conn)
    (state g.S.Store c.create_or_migrate.new.conn) unknown c.create_or_migrate.ensures.crash
