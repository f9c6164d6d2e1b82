use Rattle.portal_tables.proofs.Common.{◌≡◌, false, IsTrue, sym, subst, ◌∙◌, rules, survives_weaker}
use Rattle.portal_tables.proofs.Common.{HasNoActionOnOurs, Schema, is_entangled}
use Rattle.portal_tables.proofs.attach_steps.check_and_migrate.Goals as goal

pub returns-clause-spares : goal.returns-clause-spares
returns-clause-spares g c =
    let spares : IsTrue c.has_no_action_on_ours.result = search rules in
    let free : c.is_entangled.result ≡ false = search rules in (
      subst HasNoActionOnOurs c.schema.ensures.value (sym c.has_no_action_on_ours.ensures ∙ spares),
      subst (λ (s : Schema). is_entangled s ≡ false) c.schema-else-not-has_no_action_on_ours.ensures.value
          (sym c.is_entangled.ensures ∙ free),
    )

pub returns-clause-crash : goal.returns-clause-crash
returns-clause-crash g c =
    let spares : IsTrue c.has_no_action_on_ours.result = search rules in
    let free : c.is_entangled.result ≡ false = search rules in
    let spared =
    subst HasNoActionOnOurs c.schema.ensures.value (sym c.has_no_action_on_ours.ensures ∙ spares) in
    let untangled = subst (λ (s : Schema). is_entangled s ≡ false)
    c.schema-else-not-has_no_action_on_ours.ensures.value (sym c.is_entangled.ensures ∙ free) in
    survives_weaker _ _ _ _ (λ _ db may. (spared, untangled, may)) c.migrate_database.ensures.crash

pub returns-in_err-migrate_database-clause-crash : goal.returns-in_err-migrate_database-clause-crash
returns-in_err-migrate_database-clause-crash g c =
    let spares : IsTrue c.has_no_action_on_ours.result = search rules in
    let free : c.is_entangled.result ≡ false = search rules in
    let spared =
    subst HasNoActionOnOurs c.schema.ensures.value (sym c.has_no_action_on_ours.ensures ∙ spares) in
    let untangled = subst (λ (s : Schema). is_entangled s ≡ false)
    c.schema-else-not-has_no_action_on_ours.ensures.value (sym c.is_entangled.ensures ∙ free) in
    survives_weaker _ _ _ _ (λ _ db may. (spared, untangled, may)) c.migrate_database.ensures.crash
