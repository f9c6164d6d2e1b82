-- How the steps of attaching the tables follow one another.
use Rattle.portal_tables.proofs.Common.{◌≡◌, ◌⊎◌, ◌≤◌, ◌∙◌, ℕ, IsTrue, lit≤, true, false, inl, inr, IfSome}
use Rattle.portal_tables.proofs.Common.{IfNone, List, Option, Some, None, sym, subst, arith, Schema, Database}
use Rattle.portal_tables.proofs.Common.{State, HasCleanDisk, IsUnchanged, Survives, survives_then, both}
use Rattle.portal_tables.proofs.Common.{Contents, Holds, HoldsIn, this_schema_version, KeepsOthers}
use Rattle.portal_tables.proofs.Common.{CrashStateHasOthers, are_names_free, QueryAnswers, IsOneRow}
use Rattle.portal_tables.proofs.Common.{GivesSchemaVersion, is_usable_schema, HasMigrated, version_number}
use Rattle.portal_tables.proofs.Common.{migrated_rows, OldSchema, First, Second, Third, Fourth, IsCarried}
use Rattle.portal_tables.proofs.Common.{Fifth, Sixth, []}
use Rattle.portal_tables.proofs.Common.{IsCompleted, CrashStateCarries, MayBeMigrated, HasNoActionOnOurs}
use Rattle.portal_tables.proofs.Common.{GivesKnownVersion, HasNoTableOnOurs, MayBeCarried, hangs_on_ours}
use Rattle.portal_tables.proofs.Common.{is_entangled, true≢false}
use Rattle.std.specs.Prelude.{find, is_some, option_map}
use Rattle.sqlite.specs.Table.{Table}
use Rattle.sqlite.specs.Order.{Row}

-- what was made of the rows that the head answered
pub tells_by : (db : Database) (rows : List Row) (o : Option ℕ) → QueryAnswers db rows
    → IfSome o (IsOneRow rows) → IfNone o ((schema_version : ℕ) → ¬ IsOneRow rows schema_version)
    → GivesSchemaVersion db o
tells_by db rows (Some n) answers one none = (rows, answers, one)
tells_by db rows None answers one none = inr (rows, answers, none)

-- ---- foreign keys

-- tables that exist, and on which no foreign key acts
pub whole_spares : (schema : Schema) → is_usable_schema schema ≡ true → HasNoActionOnOurs schema
whole_spares schema whole = (both _ _ whole).1

-- a schema to which the tables can be added
pub free_spares : (schema : Schema) → are_names_free schema ≡ true → HasNoActionOnOurs schema
free_spares schema free = (both _ _ free).1

-- no table was found that refers to one of the product's
pub none_found : {A : Type 0} (schema : Schema) (f : A → Table) (o : Option A)
    → option_map f o ≡ find hangs_on_ours schema.tables → is_some o ≡ false → HasNoTableOnOurs schema
none_found schema f None is none = sym is
none_found schema f (Some one) is none = absurd (true≢false none)

-- reading the head changed nothing
pub spared_before : (old mid : State) → IsUnchanged old mid → HasNoActionOnOurs mid.now.schema
    → HasNoActionOnOurs old.now.schema
spared_before old mid same spared =
    subst (λ (db : Database). HasNoActionOnOurs db.schema) same.0.now_is spared

untangled_before : (old mid : State) → IsUnchanged old mid → is_entangled mid.now.schema ≡ false
    → is_entangled old.now.schema ≡ false
untangled_before old mid same free =
    subst (λ (db : Database). is_entangled db.schema ≡ false) same.0.now_is free

pub carried_before : (old mid : State) (schema_version : ℕ) → IsUnchanged old mid
    → MayBeCarried mid.now.schema schema_version → MayBeCarried old.now.schema schema_version
carried_before old mid schema_version same may =
    subst (λ (db : Database). MayBeCarried db.schema schema_version) same.0.now_is may

-- ---- reading the head, and then the migration

upgrades_crash : (from : OldSchema) (old mid new : State)
    → (HasCleanDisk mid → GivesSchemaVersion old.now (Some (version_number from)) × IsUnchanged old mid)
    → Survives old mid (λ _. ⊥) → Survives mid new (MayBeMigrated from mid)
    → Survives old new (λ trees. HasNoActionOnOurs old.now.schema × CrashStateCarries old.now trees)
upgrades_crash from old mid new look one two =
    survives_then old mid new _ _
    (λ trees. HasNoActionOnOurs old.now.schema × CrashStateCarries old.now trees) (λ _ db none. absurd none)
    (λ clean db may. let it = look (omega (arith, two.clean)) in (
      spared_before old mid it.1 may.0,
      (
        from,
        it.0,
        untangled_before old mid it.1 may.1,
        λ t h.
            let left = may.2 it.1.0.is_open t
            (subst (λ db. HoldsIn (version_number from) [] db t) (sym it.1.0.now_is) h) in
            (left.0, subst (λ (was : Database). CrashStateHasOthers was db) it.1.0.now_is left.1),
      ),
    )) one two

-- reading the head, and what follows
brings : (from : OldSchema) (old mid new : State) → GivesSchemaVersion old.now (Some (version_number from))
    → IsUnchanged old mid → HasMigrated from mid new → IsCarried old new
brings from old mid new tells same did = record {
  carries = inr (
    from,
    tells,
    λ t h.
        let here = subst (λ db. HoldsIn (version_number from) [] db t) (sym same.0.now_is) h in (
          did.holds t here,
          subst (λ (was : Database). KeepsOthers was new.now) same.0.now_is (did.others t here),
        ),
  );
  is_open = did.is_open;
  ended = did.ended;
  same = did.committed;
}

completes : (old mid new : State) → GivesSchemaVersion old.now (Some this_schema_version)
    → IsUnchanged old mid → IsCompleted mid new → IsCarried old new
completes old mid new tells same did = go did.holds
  where
    here : (t : Contents) → HoldsIn this_schema_version [] old.now t
        → HoldsIn this_schema_version [] mid.now t
    here t h = subst (λ db. HoldsIn this_schema_version [] db t) (sym same.0.now_is) h

    others : (t : Contents) → HoldsIn this_schema_version [] old.now t → KeepsOthers old.now new.now
    others t h = subst (λ (was : Database). KeepsOthers was new.now) same.0.now_is (did.others t (here t h))

    go : ((t : Contents) → HoldsIn this_schema_version [] mid.now t → Holds new.now t) ⊎ ((t : Contents)
        → HoldsIn this_schema_version [] mid.now t → Holds new.now (migrated_rows Sixth t))
        → IsCarried old new
    go (inl kept) = record {
      carries = inl (tells, λ t h. (kept t (here t h), others t h));
      is_open = did.is_open;
      ended = did.ended;
      same = did.same;
    }
    go (inr up) = record {
      carries = inr (Sixth, tells, λ t h. (up t (here t h), others t h));
      is_open = did.is_open;
      ended = did.ended;
      same = did.same;
    }

known : (from : OldSchema) → (1 ≤ version_number from) × (version_number from ≤ this_schema_version)
known First = (lit≤ tt, lit≤ tt)
known Second = (lit≤ tt, lit≤ tt)
known Third = (lit≤ tt, lit≤ tt)
known Fourth = (lit≤ tt, lit≤ tt)
known Fifth = (lit≤ tt, lit≤ tt)
known Sixth = (lit≤ tt, lit≤ tt)

-- the schema version that was read
module _ (from : OldSchema) (old mid new : State) {o : Option ℕ}
    (look : HasCleanDisk mid → GivesSchemaVersion old.now o × IsUnchanged old mid)
    (told : o ≡ Some (version_number from)) (later : Survives mid new (MayBeMigrated from mid)) where
  seen : HasCleanDisk mid → GivesSchemaVersion old.now (Some (version_number from)) × IsUnchanged old mid
  seen clean = let it = look clean in (subst (GivesSchemaVersion old.now) told it.0, it.1)

  pub resumed_crash : Survives old mid (λ _. ⊥)
      → Survives old new (λ trees. HasNoActionOnOurs old.now.schema × CrashStateCarries old.now trees)
  resumed_crash first = upgrades_crash from old mid new seen first later

  pub resumed_why : HasCleanDisk new
      → HasNoActionOnOurs mid.now.schema × MayBeCarried mid.now.schema (version_number from)
      → HasNoActionOnOurs old.now.schema × GivesKnownVersion old.now
  resumed_why clean spared = let it = seen (omega (arith, clean, later.clean)) in (
    spared_before old mid it.1 spared.0,
    (
      version_number from,
      (known from).0,
      (known from).1,
      it.0,
      carried_before old mid (version_number from) it.1 spared.1,
    ),
  )

  pub migrated_why : HasCleanDisk new
      → HasNoActionOnOurs mid.now.schema × (is_entangled mid.now.schema ≡ false)
      → HasNoActionOnOurs old.now.schema × GivesKnownVersion old.now
  migrated_why clean spared = resumed_why clean (spared.0, inr spared.1)

  pub resumed_done : HasCleanDisk new → (IsTrue mid.is_open → HasMigrated from mid new) → IsCarried old new
  resumed_done clean did = let it = seen (omega (arith, clean, later.clean)) in
      brings from old mid new it.0 it.1 (did it.1.0.is_open)

pub completed_done : (old mid new : State) {o : Option ℕ}
    → (HasCleanDisk mid → GivesSchemaVersion old.now o × IsUnchanged old mid) → o ≡ Some this_schema_version
    → Survives mid new (MayBeMigrated Sixth mid) → HasCleanDisk new
    → old.now ≡ old.committed
    → (IsTrue mid.is_open → mid.now ≡ mid.committed → IsCompleted mid new) → IsCarried old new
completed_done old mid new look told later clean settled did =
    let it = seen Sixth old mid new look told later (omega (arith, clean, later.clean)) in
    completes old mid new it.0 it.1 (did it.1.0.is_open (it.1.0.now_is ∙ settled ∙ sym it.1.0.committed_is))
