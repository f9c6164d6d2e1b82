use Rattle.portal_tables.proofs.Common.{◌≡◌, false, inl, inr, sym, subst, ◌∙◌, rules, survives_weaker}
use Rattle.portal_tables.proofs.Common.{IsNoNameTaken, IsAnyNameTaken, HasNoTableOnOurs}
use Rattle.portal_tables.proofs.AttachLemmas.{none_found}
use Rattle.portal_tables.proofs.attach_steps.create_or_migrate.Goals as goal

pub returns-in_ok-migrate_existing-clause-why : goal.returns-in_ok-migrate_existing-clause-why
returns-in_ok-migrate_existing-clause-why g c clean =
    let named = subst IsAnyNameTaken c.schema-2.ensures.value
    (sym c.is_any_name_taken.ensures ∙ c.if-is_any_name_taken.true) in
    let told = c.in_ok-migrate_existing.ensures.why clean in
    let missing : c.is_some.result ≡ false = search rules in
    let alone = subst HasNoTableOnOurs c.schema.ensures.value
    (none_found c.schema.result.now _ _ c.find_table_on_ours.ensures (sym c.is_some.ensures ∙ missing)) in
    (told.0, alone, inr (named, told.1))

pub returns-in_ok-migrate_existing-clause-crash : goal.returns-in_ok-migrate_existing-clause-crash
returns-in_ok-migrate_existing-clause-crash g c =
    let named = subst IsAnyNameTaken c.schema-2.ensures.value
    (sym c.is_any_name_taken.ensures ∙ c.if-is_any_name_taken.true) in
    let missing : c.is_some.result ≡ false = search rules in
    let alone = subst HasNoTableOnOurs c.schema.ensures.value
    (none_found c.schema.result.now _ _ c.find_table_on_ours.ensures (sym c.is_some.ensures ∙ missing)) in
    survives_weaker _ _ _ _ (λ _ db carried. (carried.0, alone, inr (named, carried.1)))
    c.migrate_existing.ensures.crash

pub returns-in_ok-create_tables-clause-why : goal.returns-in_ok-create_tables-clause-why
returns-in_ok-create_tables-clause-why g c clean =
    let bare = subst IsNoNameTaken c.schema-2.ensures.value
    (sym c.is_any_name_taken.ensures ∙ c.if-is_any_name_taken.false) in
    let missing : c.is_some.result ≡ false = search rules in
    let alone = subst HasNoTableOnOurs c.schema.ensures.value
    (none_found c.schema.result.now _ _ c.find_table_on_ours.ensures (sym c.is_some.ensures ∙ missing)) in
    (c.in_ok-create_tables.ensures.spares, alone, inl bare)

pub returns-in_ok-create_tables-clause-ready : goal.returns-in_ok-create_tables-clause-ready
returns-in_ok-create_tables-clause-ready g c clean live =
    let bare = subst IsNoNameTaken c.schema-2.ensures.value
    (sym c.is_any_name_taken.ensures ∙ c.if-is_any_name_taken.false) in
    let made = c.in_ok-create_tables.ensures.made clean in
    record {
      holds = inl (bare, made.0, made.1);
      is_open = made.2.is_open;
      ended = made.2.ended;
      same = made.2.same;
    }

pub returns-in_ok-create_tables-clause-crash : goal.returns-in_ok-create_tables-clause-crash
returns-in_ok-create_tables-clause-crash g c =
    let bare = subst IsNoNameTaken c.schema-2.ensures.value
    (sym c.is_any_name_taken.ensures ∙ c.if-is_any_name_taken.false) in
    let missing : c.is_some.result ≡ false = search rules in
    let alone = subst HasNoTableOnOurs c.schema.ensures.value
    (none_found c.schema.result.now _ _ c.find_table_on_ours.ensures (sym c.is_some.ensures ∙ missing)) in
    survives_weaker _ _ _ _ (λ _ db made. (made.0, alone, inl (bare, made.1, made.2)))
    c.create_tables.ensures.crash

pub returns-in_err-create_tables-clause-crash : goal.returns-in_err-create_tables-clause-crash
returns-in_err-create_tables-clause-crash g c =
    let bare = subst IsNoNameTaken c.schema-2.ensures.value
    (sym c.is_any_name_taken.ensures ∙ c.if-is_any_name_taken.false) in
    let missing : c.is_some.result ≡ false = search rules in
    let alone = subst HasNoTableOnOurs c.schema.ensures.value
    (none_found c.schema.result.now _ _ c.find_table_on_ours.ensures (sym c.is_some.ensures ∙ missing)) in
    survives_weaker _ _ _ _ (λ _ db made. (made.0, alone, inl (bare, made.1, made.2)))
    c.create_tables.ensures.crash
