use Rattle.portal_tables.proofs.Common.{IsTrue, sym, subst, ◌∙◌, arith, rules, state, HasCleanDisk}
use Rattle.portal_tables.proofs.Common.{survives_weaker, survives_then, as_before, new_store}
use Rattle.portal_tables.proofs.Common.{CrashStateHoldsRows, CrashStateHasOthers, HasNoActionOnOurs}
use Rattle.portal_tables_rows.specs.Creation.{AreNamesFree}
use Rattle.portal_tables_rows.proofs.FreeLemmas.{free_is}
use Rattle.portal_tables.proofs.AttachLemmas.{free_spares}
use Rattle.portal_tables.proofs.attach_steps.create_tables.Goals as goal

pub returns-in-Ok-clause-made : goal.returns-in-Ok-clause-made
returns-in-Ok-clause-made g c clean =
    let roomy : IsTrue c.can_add_tables.result = search rules in
    let free = subst AreNamesFree c.schema.ensures.value
    (free_is c.schema.result.now (sym c.can_add_tables.ensures ∙ roomy)) in
    (let did = c.in-Ok.ensures.done clean in (did.made free, did.others free, did.committed))

pub returns-in-Ok-clause-spares : goal.returns-in-Ok-clause-spares
returns-in-Ok-clause-spares g c =
    let roomy : IsTrue c.can_add_tables.result = search rules in
    subst HasNoActionOnOurs c.schema.ensures.value
    (free_spares c.schema.result.now (sym c.can_add_tables.ensures ∙ roomy))

pub returns-in-Ok-clause-crash : goal.returns-in-Ok-clause-crash
returns-in-Ok-clause-crash g c =
    let roomy : IsTrue c.can_add_tables.result = search rules in
    let is_free = sym c.can_add_tables.ensures ∙ roomy in
    let free = subst AreNamesFree c.schema.ensures.value (free_is c.schema.result.now is_free) in
    let spared = subst HasNoActionOnOurs c.schema.ensures.value (free_spares c.schema.result.now is_free) in
    survives_weaker _ _ _ _ (λ _ db may. (spared, (may free).0, (may free).1)) c.create_schema.ensures.crash

pub returns-in-Err-clause-memory : goal.returns-in-Err-clause-memory
returns-in-Err-clause-memory g c clean is =
    let roomy : IsTrue c.can_add_tables.result = search rules in
    let free = subst AreNamesFree c.schema.ensures.value
    (free_is c.schema.result.now (sym c.can_add_tables.ensures ∙ roomy)) in
    let mid : HasCleanDisk (state g.S.Store c.create_schema.new.conn) =
    omega (arith, c.open_fault_of.ensures.survives.clean) in
    as_before (state g.S.Store c.args.conn.now) (state g.S.Store c.create_schema.new.conn)
    (state g.S.Store c.open_fault_of.new.conn) (c.in-Err.ensures.undone mid free)
    (c.open_fault_of.ensures.same clean is)

pub returns-in-Err-clause-crash : goal.returns-in-Err-clause-crash
returns-in-Err-clause-crash g c =
    let old = (state g.S.Store c.args.conn.now).now in
    let roomy : IsTrue c.can_add_tables.result = search rules in
    let is_free = sym c.can_add_tables.ensures ∙ roomy in
    let free = subst AreNamesFree c.schema.ensures.value (free_is c.schema.result.now is_free) in
    let spared = subst HasNoActionOnOurs c.schema.ensures.value (free_spares c.schema.result.now is_free) in
    survives_then (state g.S.Store c.args.conn.now) (state g.S.Store c.create_schema.new.conn)
    (state g.S.Store c.open_fault_of.new.conn) _ _
    (λ trees. HasNoActionOnOurs old.schema × CrashStateHoldsRows trees new_store
    × CrashStateHasOthers old trees)
    (λ _ db may. (spared, (may free).0, (may free).1)) (λ _ db none. absurd none)
    c.create_schema.ensures.crash c.open_fault_of.ensures.survives
