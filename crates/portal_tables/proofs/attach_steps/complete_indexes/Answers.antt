use Rattle.portal_tables.proofs.Common.{inl, inr, true, false, IsTrue, sym, subst, ◌∙◌, rules, state}
use Rattle.portal_tables.proofs.Common.{Schema, survives_weaker, TablePlaces, TablesExist}
use Rattle.portal_tables.proofs.Common.{◌≡◌, this_schema_version, others_none, HasNoActionOnOurs, refl}
use Rattle.portal_tables.proofs.Common.{[], is_entangled, is_indexed}
use Rattle.portal_tables_sql.specs.Indexes.{our_indexes}
use Rattle.portal_tables_sql.specs.Tables.{Together}
use Rattle.portal_tables.proofs.AttachLemmas.{whole_spares}
use Rattle.portal_tables.proofs.attach_steps.complete_indexes.Goals as goal

pub returns-then-is_indexed-clause-done : goal.returns-then-is_indexed-clause-done
returns-then-is_indexed-clause-done g c clean live settled =
    let old = state g.S.Store c.args.conn.now in
    let law = subst (λ (s : Schema). (places : TablePlaces)
    → TablesExist Together this_schema_version [] s places
    → TablesExist Together this_schema_version our_indexes s places)
    c.schema-2.ensures.value (c.is_indexed.ensures.index c.if-is_indexed.true) in
    record {
      holds = inl (λ t h. record {
        places = h.places;
        tables_exist = law h.places h.tables_exist;
        store = h.store;
        sound = h.sound;
      });
      others = λ t h. others_none old.now;
      is_open = live;
      ended = c.requires;
      same = sym settled;
    }

pub returns-then-is_indexed-clause-spares : goal.returns-then-is_indexed-clause-spares
returns-then-is_indexed-clause-spares g c =
    let whole : IsTrue c.is_usable_schema.result = search rules in (
      subst HasNoActionOnOurs c.schema.ensures.value
          (whole_spares c.schema.result.now (sym c.is_usable_schema.ensures ∙ whole)),
      inl (
        refl,
        subst (λ (s : Schema). is_indexed s ≡ true) c.schema-2.ensures.value
            (sym c.is_indexed.ensures.test ∙ c.if-is_indexed.true),
      ),
    )

pub returns-clause-done : goal.returns-clause-done
returns-clause-done g c clean live settled =
    let did = c.in_ok-migrate_database.ensures.done clean live in
    record {
      holds = inr did.holds;
      others = did.others;
      is_open = did.is_open;
      ended = did.ended;
      same = did.committed;
    }

pub returns-clause-spares : goal.returns-clause-spares
returns-clause-spares g c =
    let whole : IsTrue c.is_usable_schema.result = search rules in (
      subst HasNoActionOnOurs c.schema.ensures.value
          (whole_spares c.schema.result.now (sym c.is_usable_schema.ensures ∙ whole)),
      inr (subst (λ (s : Schema). is_entangled s ≡ false) c.schema-3.ensures.value
          (sym c.is_entangled.ensures ∙ c.if-is_entangled.false)),
    )

pub returns-clause-crash : goal.returns-clause-crash
returns-clause-crash g c =
    let whole : IsTrue c.is_usable_schema.result = search rules in
    let spared = subst HasNoActionOnOurs c.schema.ensures.value
    (whole_spares c.schema.result.now (sym c.is_usable_schema.ensures ∙ whole)) in
    let untangled = subst (λ (s : Schema). is_entangled s ≡ false) c.schema-3.ensures.value
    (sym c.is_entangled.ensures ∙ c.if-is_entangled.false) in
    survives_weaker _ _ _ _ (λ _ db may. (spared, untangled, may)) c.migrate_database.ensures.crash

pub returns-in_err-migrate_database-clause-crash : goal.returns-in_err-migrate_database-clause-crash
returns-in_err-migrate_database-clause-crash g c =
    let whole : IsTrue c.is_usable_schema.result = search rules in
    let spared = subst HasNoActionOnOurs c.schema.ensures.value
    (whole_spares c.schema.result.now (sym c.is_usable_schema.ensures ∙ whole)) in
    let untangled = subst (λ (s : Schema). is_entangled s ≡ false) c.schema-3.ensures.value
    (sym c.is_entangled.ensures ∙ c.if-is_entangled.false) in
    survives_weaker _ _ _ _ (λ _ db may. (spared, untangled, may)) c.migrate_database.ensures.crash
