-- The result of attaching the tables to a database that holds a ledger.
use Rattle.portal_tables.proofs.Common.{◌≡◌, ◌≢◌, ◌⊎◌, inl, inr, ◌<◌, ◌≤◌, ℕ, false, cond, nat_eq}
use Rattle.portal_tables.proofs.Common.{true≢false, IsTrue, [], Option, Some, None, refl, sym, ap, subst, ◌∙◌}
use Rattle.portal_tables.proofs.Common.{arith, lit≤, Held, state, Trees, Schema, Database, IsDatabase, State}
use Rattle.portal_tables.proofs.Common.{HasCleanDisk, Survives, survives_weaker, Ledger, all_rows_of, running}
use Rattle.portal_tables.proofs.Common.{IsAsBefore, CrashStateHolds, at_open, new_store, Holds}
use Rattle.portal_tables.proofs.Common.{CrashStateHoldsRows, this_schema_version, KeepsOthers}
use Rattle.portal_tables.proofs.Common.{CrashStateHasOthers, others_none, version_number, OldSchema, First}
use Rattle.portal_tables.proofs.Common.{Fifth, Sixth}
use Rattle.portal_tables.proofs.Common.{Second, Third, Fourth, GivesSchemaVersion, Refused, KeepsOrMigrates}
use Rattle.portal_tables.proofs.Common.{Stays, IsMigrated, FailsToAttach, HeadIsNoView, IsExactCause, IsKnown}
use Rattle.portal_tables.proofs.Common.{AreTablesReady, IsCauseIn, CrashStateCarries, MayAttach}
use Rattle.portal_tables.proofs.Common.{GivesKnownVersion, HoldsLedgerIn, HoldsLedger, all_contents_of}
use Rattle.portal_tables.proofs.Common.{IsNoNameTaken, IsAnyNameTaken, HoldsOlder, StoreHolds}
use Rattle.sqlite.specs.View.{doubt as doubt_of}
use Rattle.sqlite_trees.specs.declared.store.Store.{Ghosts}
use Rattle.portal_tables_rows.proofs.IndexedLemmas.{less_indexed}
use Rattle.portal_tables_rows.proofs.HeadVersion.{tells, head_named}
use Rattle.portal_tables_rows.proofs.GivesOnce.{tells_once}
use Rattle.portal_tables.specs.declared.errors.OpenFault.{OpenFault}
use Rattle.portal_tables.specs.declared.errors.OpenFault.TheVariants.{NotOurs, Newer, Memory, Store}
use Rattle.portal_tables.specs.declared.tables.Tables.{Tables}
use Rattle.portal_tables.specs.Attaching.{IsUnchangedConn}
use Rattle.portal_tables.specs.TablesRepresent.{ConnRepresents, CrashStatesOfConnHold, ConnIsFaultFree, Files}
use Rattle.portal_tables.specs.TablesRepresent.{FilesHold, IsFaultFree, CrashStatesHaveOthers, OthersStay}
use Rattle.portal_tables.specs.TablesRepresent.{TablesRepresent}
use Rattle.portal_tables.proofs.StateLemmas.{IsSettled, left_store}
use Rattle.portal_tables.proofs.MigratingLemmas.{upgraded_shows}
use Rattle.portal_tables_sql.specs.declared.our_tables.OurTable.TheVariants as our
use Rattle.portal_tables_sql.proofs.TableLemmas.{always}

-- ---- the tables of a database that holds a ledger

never_both : {X : Type 0} (schema : Schema) → IsAnyNameTaken schema → IsNoNameTaken schema → X
never_both schema one none = absurd (true≢false (sym one ∙ none))

named : (schema_version : ℕ) (L : Ledger) (db : Database) → HoldsLedgerIn schema_version L db
    → IsAnyNameTaken db.schema
named schema_version L db shown = let place = (shown.holds.places our.Head) in
    head_named db.schema place.at place.tree (shown.holds.tables_exist.tables our.Head (always _, tt)).exists

-- the head gives the schema version
tells_it : (schema_version : ℕ) (L : Ledger) (db : Database) → HoldsLedgerIn schema_version L db
    → 1 ≤ schema_version → (o : Option ℕ) → GivesSchemaVersion db o → o ≡ Some schema_version
tells_it schema_version L db shown low = let place = (shown.holds.places our.Head) in
    tells db place.at place.tree _ (shown.holds.tables_exist.tables our.Head (always _, tt)).exists
    (shown.holds.store our.Head (always _, tt)) low

low_enough : (from : OldSchema) → 1 ≤ version_number from
low_enough First = lit≤ tt
low_enough Second = lit≤ tt
low_enough Third = lit≤ tt
low_enough Fourth = lit≤ tt
low_enough Fifth = lit≤ tt
low_enough Sixth = lit≤ tt

high_enough : (from : OldSchema) → version_number from ≤ this_schema_version
high_enough First = lit≤ tt
high_enough Second = lit≤ tt
high_enough Third = lit≤ tt
high_enough Fourth = lit≤ tt
high_enough Fifth = lit≤ tt
high_enough Sixth = lit≤ tt

tells_old : (from : OldSchema) (L : Ledger) (db : Database) → HoldsLedgerIn (version_number from) L db
    → (o : Option ℕ) → GivesSchemaVersion db o → o ≡ Some (version_number from)
tells_old from L db shown = tells_it (version_number from) L db shown (low_enough from)

-- a schema version is known by its number
abbrev by_number : ℕ → OldSchema
by_number n = cond (nat_eq n 1) First (cond (nat_eq n 2) Second
    (cond (nat_eq n 3) Third (cond (nat_eq n 4) Fourth (cond (nat_eq n 5) Fifth Sixth))))

numbered_back : (from : OldSchema) → by_number (version_number from) ≡ from
numbered_back First = refl
numbered_back Second = refl
numbered_back Third = refl
numbered_back Fourth = refl
numbered_back Fifth = refl
numbered_back Sixth = refl

same_number : {a b : ℕ} → ◌≡◌ {A = Option ℕ} (Some a) (Some b) → a ≡ b
same_number e = cc

same_layout : (a b : OldSchema)
    → ◌≡◌ {A = Option ℕ} (Some (version_number a)) (Some (version_number b)) → a ≡ b
same_layout a b e = sym (numbered_back a) ∙ ap by_number (same_number e) ∙ numbered_back b

-- a database of this schema version, as one that may lack an index
as_older : (L : Ledger) (db : Database) → HoldsLedger L db → HoldsOlder L db
as_older L db shown = (
  Sixth,
  record {
    sound = shown.0;
    unmarked = λ few. absurd (omega (arith, few));
    short = λ few. absurd (omega (arith, few));
    no_counts = λ few. absurd (omega (arith, few));
    no_totals = λ few. absurd (omega (arith, few));
    no_requests = λ few. absurd (omega (arith, few));
    holds = less_indexed db (all_contents_of this_schema_version (all_rows_of L)) shown.1;
  },
)

-- a new database holds the empty ledger
new_shown : (L : Ledger) (db : Database) → L ≡ [] → Holds db new_store → HoldsLedger L db
new_shown L db none holds = subst (λ x. HoldsLedger x db) (sym none) (tt, holds)

-- ---- the tables that were made ready

stays_shown : (from : OldSchema) (L : Ledger) (old new : Database) → Stays old new
    → HoldsLedgerIn (version_number from) L old → HoldsLedger L new × KeepsOthers old new
stays_shown from L old new kept shown =
    let is : Sixth ≡ from =
    same_layout Sixth from (tells_old from L old shown (Some this_schema_version) kept.0) in
    let here : HoldsLedgerIn this_schema_version L old =
    subst (λ (f : OldSchema). HoldsLedgerIn (version_number f) L old) (sym is) shown in
    let led = kept.1 _ here.holds in
    ((here.sound, led.0), led.1)

brought_shown : (from : OldSchema) (L : Ledger) (old new : Database) → IsMigrated old new
    → HoldsLedgerIn (version_number from) L old → HoldsLedger L new × KeepsOthers old new
brought_shown from L old new kept shown =
    let is : kept.0 ≡ from =
    same_layout kept.0 from (tells_old from L old shown (Some (version_number kept.0)) kept.1) in
    let here : HoldsLedgerIn (version_number kept.0) L old =
    subst (λ (f : OldSchema). HoldsLedgerIn (version_number f) L old) (sym is) shown in
    let led = kept.2 _ here.holds in
    (upgraded_shows kept.0 L new here.sound here.unmarked led.0, led.1)

carried_shown : (L : Ledger) (old new : Database) → KeepsOrMigrates old new → HoldsOlder L old
    → HoldsLedger L new × KeepsOthers old new
carried_shown L old new (inl kept) shown = stays_shown shown.0 L old new kept shown.1
carried_shown L old new (inr kept) shown = brought_shown shown.0 L old new kept shown.1

ready_shown : (L : Ledger) (old new : State) → StoreHolds L old.now → AreTablesReady old new
    → HoldsLedger L new.now × KeepsOthers old.now new.now
ready_shown L old new shows ready = go shows ready.holds
  where
    go : StoreHolds L old.now
        → (IsNoNameTaken old.now.schema × Holds new.now new_store × KeepsOthers old.now new.now)
        ⊎ (IsAnyNameTaken old.now.schema × KeepsOrMigrates old.now new.now)
        → HoldsLedger L new.now × KeepsOthers old.now new.now
    go (inl shown) (inl made) = let it = as_older L old.now shown in
        never_both old.now.schema (named (version_number it.0) L old.now it.1) made.0
    go (inl shown) (inr kept) = carried_shown L old.now new.now kept.1 (as_older L old.now shown)
    go (inr (inl shown)) (inl made) =
        never_both old.now.schema (named (version_number shown.0) L old.now shown.1) made.0
    go (inr (inl shown)) (inr kept) = carried_shown L old.now new.now kept.1 shown
    go (inr (inr is)) (inl made) = (new_shown L new.now is.0 made.1, made.2)
    go (inr (inr is)) (inr kept) = never_both old.now.schema kept.0 is.1

-- the crash states
left_carried : (L : Ledger) (old : Database) (trees : Trees) → CrashStateCarries old trees → HoldsOlder L old
    → CrashStateHolds (HoldsLedger L) trees × CrashStateHasOthers old trees
left_carried L old trees kept shown =
    let is : kept.0 ≡ shown.0 =
    same_layout kept.0 shown.0 (tells_old shown.0 L old shown.1 (Some (version_number kept.0)) kept.1) in
    let here : HoldsLedgerIn (version_number kept.0) L old =
    subst (λ (f : OldSchema). HoldsLedgerIn (version_number f) L old) (sym is) shown.1 in
    let led = kept.3 _ here.holds in
    let it = led.0 in (
      (
        it.0,
        it.1,
        upgraded_shows kept.0 L (record { schema = it.0; trees = trees }) here.sound here.unmarked it.2,
      ),
      led.1,
    )

new_left : (L : Ledger) (trees : Trees) → L ≡ [] → CrashStateHoldsRows trees new_store
    → CrashStateHolds (HoldsLedger L) trees
new_left L trees none left =
    (left.0, left.1, new_shown L (record { schema = left.0; trees = trees }) none left.2)

left_shown : (L : Ledger) (old : Database) (trees : Trees) → StoreHolds L old → MayAttach old trees
    → CrashStateHolds (HoldsLedger L) trees × CrashStateHasOthers old trees
left_shown L old trees shows may = go shows may.2
  where
    go : StoreHolds L old
        → (IsNoNameTaken old.schema × CrashStateHoldsRows trees new_store × CrashStateHasOthers old trees)
        ⊎ (IsAnyNameTaken old.schema × CrashStateCarries old trees)
        → CrashStateHolds (HoldsLedger L) trees × CrashStateHasOthers old trees
    go (inl shown) (inl made) = let it = as_older L old shown in
        never_both old.schema (named (version_number it.0) L old it.1) made.0
    go (inl shown) (inr kept) = left_carried L old trees kept.1 (as_older L old shown)
    go (inr (inl shown)) (inl made) =
        never_both old.schema (named (version_number shown.0) L old shown.1) made.0
    go (inr (inl shown)) (inr kept) = left_carried L old trees kept.1 shown
    go (inr (inr is)) (inl made) = (new_left L trees is.0 made.1, made.2)
    go (inr (inr is)) (inr kept) = never_both old.schema kept.0 is.1

-- a database that holds a ledger has the product's tables, and is not newer
none_is_not_some : (n : ℕ) → ◌≡◌ {A = Option ℕ} None (Some n) → ⊥
none_is_not_some n e = cc

not_foreign : (L : Ledger) (old : Database) → HoldsOlder L old → IsCauseIn NotOurs old → ⊥
not_foreign L old shown why =
    none_is_not_some (version_number shown.0) (tells_old shown.0 L old shown.1 None why.1)

never_foreign : (L : Ledger) (old : Database) → StoreHolds L old → IsCauseIn NotOurs old → ⊥
never_foreign L old (inl shown) why = not_foreign L old (as_older L old shown) why
never_foreign L old (inr (inl shown)) why = not_foreign L old shown why
never_foreign L old (inr (inr is)) why = never_both old.schema why.0 is.1

not_past : (n m : ℕ) → this_schema_version < n → m ≤ this_schema_version → Some n ≡ Some m → ⊥
not_past n m past low e = let same : n ≡ m = cc in omega (arith, past, low, same)

not_newer : (L : Ledger) (old : Database) → HoldsOlder L old → IsCauseIn Newer old → ⊥
not_newer L old shown why = not_past why.1.0 (version_number shown.0) why.1.1 (high_enough shown.0)
    (tells_old shown.0 L old shown.1 (Some why.1.0) why.1.2)

never_newer : (L : Ledger) (old : Database) → StoreHolds L old → IsCauseIn Newer old → ⊥
never_newer L old (inl shown) why = not_newer L old (as_older L old shown) why
never_newer L old (inr (inl shown)) why = not_newer L old shown why
never_newer L old (inr (inr is)) why = never_both old.schema why.0 is.1

-- ---- whatever table has the head's name

module _ (db : Database) (no_view : HeadIsNoView db.schema) (ours : IsAnyNameTaken db.schema)
    (told : Option ℕ) (tells_this : GivesSchemaVersion db told) where
  pub exact_known : IsKnown db → (schema_version : ℕ) × (1 ≤ schema_version)
      × (schema_version ≤ this_schema_version) × (told ≡ Some schema_version)
  exact_known known = go known.2
    where
      go : IsNoNameTaken db.schema ⊎ (IsAnyNameTaken db.schema × GivesKnownVersion db) → (schema_version : ℕ)
          × (1 ≤ schema_version) × (schema_version ≤ this_schema_version) × (told ≡ Some schema_version)
      go (inl bare) = never_both db.schema ours bare
      go (inr (named, it)) = (it.0, it.1, it.2, tells_once db no_view told (Some it.0) tells_this it.3)

  pub exact_why : (fault : OpenFault) → IsCauseIn fault db → IsExactCause told fault
  exact_why NotOurs why = tells_once db no_view told None tells_this why.1
  exact_why Newer why = (why.1.0, why.1.1, tells_once db no_view told (Some why.1.0) tells_this why.1.2)
  exact_why Memory why = tt
  exact_why Store why = tt

-- ---- a store that is not known

known_by : (db : Database) (trees : Trees) → MayAttach db trees → IsKnown db
known_by db trees may = (may.0, may.1, go may.2)
  where
    go : (IsNoNameTaken db.schema × CrashStateHoldsRows trees new_store × CrashStateHasOthers db trees)
        ⊎ (IsAnyNameTaken db.schema × CrashStateCarries db trees)
        → IsNoNameTaken db.schema ⊎ (IsAnyNameTaken db.schema × GivesKnownVersion db)
    go (inl made) = inl made.0
    go (inr kept) = let it = kept.1 in
        inr (kept.0, (version_number it.0, low_enough it.0, high_enough it.0, it.1, inr it.2))

-- no crash state is added
pub spares : (old new : State) → ¬ IsKnown old.now → Survives old new (MayAttach old.now)
    → Survives old new (λ _. ⊥)
spares old new unknown crash =
    survives_weaker old new (MayAttach old.now) (λ _. ⊥) (λ _ db may. unknown (known_by old.now db may)) crash

module _ {S : Type 0} (g : Ghosts S) where
  -- ---- the tables were attached

  pub adopted : (L : Ledger) (old : Held S) (tables : Tables S)
      → tables.is_stopped ≡ false → IsSettled g tables.conn → ConnRepresents g old L
      → (IsTrue (state g old).is_open → AreTablesReady (state g old) (state g tables.conn))
      → TablesRepresent g tables (running L)
  unfolding ConnRepresents TablesRepresent
  adopted L old tables works law at made =
      let ready = made at.is_open in
      let shown = (ready_shown L (state g old) (state g tables.conn) at.shown ready).0 in (
        works,
        at_open (HoldsLedger L) (state g tables.conn) law ready.is_open ready.ended
            (sym ready.same) shown.1.sound shown,
      )

  -- ---- it was not

  again : (L : Ledger) (old new : Held S) → IsSettled g new → ConnRepresents g old L
      → IsAsBefore (state g old) (state g new) → ConnRepresents g new L
  unfolding ConnRepresents
  again L old new law at before =
      let now : (state g new).now ≡ (state g old).now = before.now ∙ sym at.settled in
      at_open (StoreHolds L) (state g new) law before.is_open before.ended (before.now ∙ sym before.committed)
      (subst IsDatabase (sym now) at.sound) (subst (StoreHolds L) (sym now) at.shown)

  leaves : (L : Ledger) (old new : Held S) → ConnRepresents g old L → HasCleanDisk (state g new)
      → Survives (state g old) (state g new) (MayAttach (state g old).now) → CrashStatesOfConnHold g new L
  unfolding Files ConnRepresents CrashStatesOfConnHold FilesHold
  leaves L old new at clean survives files may = elim (survives.crash clean files may) [
    | inl was ↦ at.left files was
    | inr adopts ↦ left_store L files (left_shown L (state g old).now files at.shown adopts).0
  ]

  shows_at : (L : Ledger) (old : Held S) → ConnRepresents g old L
      → StoreHolds L (state g old).now × IsTrue (state g old).is_open
  unfolding ConnRepresents
  shows_at L old at = (at.shown, at.is_open)

  memory_not_store : ◌≡◌ {A = OpenFault} Memory Store → ⊥
  memory_not_store e = cc

  refused_by : (L : Ledger) (old new : Held S) (fault : OpenFault) → ConnRepresents g old L
      → HasCleanDisk (state g new) → IsSettled g new → IsCauseIn fault (state g old).now
      → (IsTrue (state g old).is_open → fault ≢ Store → IsAsBefore (state g old) (state g new))
      → Survives (state g old) (state g new) (MayAttach (state g old).now)
      → FailsToAttach g L (record { fault = fault; connection = new })
  refused_by L old new NotOurs at clean law why kept survives =
      absurd (never_foreign L (state g old).now (shows_at L old at).0 why)
  refused_by L old new Newer at clean law why kept survives =
      absurd (never_newer L (state g old).now (shows_at L old at).0 why)
  refused_by L old new Memory at clean law why kept survives =
      inl (refl, again L old new law at (kept (shows_at L old at).1 memory_not_store))
  refused_by L old new Store at clean law why kept survives = inr (refl, leaves L old new at clean survives)

  pub conn_clean : (conn : Held S) → ConnIsFaultFree g conn → HasCleanDisk (state g conn)
  unfolding ConnIsFaultFree
  conn_clean conn clean = clean

  pub tables_clean : (tables : Tables S) → IsFaultFree g tables → HasCleanDisk (state g tables.conn)
  unfolding IsFaultFree
  tables_clean tables clean = clean

  pub refused : (L : Ledger) (old : Held S) (r : Refused S) → ConnRepresents g old L
      → IsSettled g r.connection → (HasCleanDisk (state g r.connection) → IsCauseIn r.fault (state g old).now)
      → (HasCleanDisk (state g r.connection) → IsTrue (state g old).is_open → r.fault ≢ Store
      → IsAsBefore (state g old) (state g r.connection) × ((state g old).now ≡ (state g old).committed))
      → Survives (state g old) (state g r.connection) (MayAttach (state g old).now)
      → ConnIsFaultFree g r.connection → FailsToAttach g L r
  refused L old r at law why kept survives honest =
      let clean = conn_clean r.connection honest in
      refused_by L old r.connection r.fault at clean law (why clean)
      (λ live other. (kept clean live other).0) survives

  pub kept_by : (old new : Held S) → IsSettled g new
      → IsAsBefore (state g old) (state g new) × ((state g old).now ≡ (state g old).committed)
      → IsUnchangedConn (state g old) (state g new)
  kept_by old new law it = record {
    is_open = it.0.is_open;
    ended = it.0.ended;
    now = it.0.now ∙ sym it.1;
    committed = it.0.committed;
    left = λ trees may.
        law trees it.0.is_open may ∙ ap (λ (db : Database). db.trees) (it.0.committed ∙ sym it.1);
  }

  -- ---- the tables of others

  pub others_stay : (L : Ledger) (old new : Held S) → ConnRepresents g old L
      → (IsTrue (state g old).is_open → AreTablesReady (state g old) (state g new)) → OthersStay g old new
  unfolding ConnRepresents OthersStay
  others_stay L old new at made = (ready_shown L (state g old) (state g new) at.shown (made at.is_open)).1

  pub others_left : (L : Ledger) (old new : Held S) → IsSettled g old → ConnRepresents g old L
      → HasCleanDisk (state g new) → Survives (state g old) (state g new) (MayAttach (state g old).now)
      → CrashStatesHaveOthers g old new
  unfolding Files ConnRepresents CrashStatesHaveOthers
  others_left L old new law at clean survives files may = elim (survives.crash clean files may) [
    | inl was ↦ (at_open (KeepsOthers (state g old).now) (state g old) law at.is_open at.autocommit at.settled
        at.sound (others_none (state g old).now)).left files was
    | inr adopts ↦ (left_shown L (state g old).now files at.shown adopts).1
  ]

  -- ---- the disk

  pub conn_honest : (old : Held S) (new : Held S)
      → doubt_of (state g old).is_clean ≤ doubt_of (state g new).is_clean
      → ConnIsFaultFree g new → ConnIsFaultFree g old
  unfolding ConnIsFaultFree
  conn_honest old new less clean = omega (arith, less, clean)

  pub tables_honest : (old : Held S) (tables : Tables S)
      → doubt_of (state g old).is_clean ≤ doubt_of (state g tables.conn).is_clean
      → IsFaultFree g tables → ConnIsFaultFree g old
  unfolding ConnIsFaultFree IsFaultFree
  tables_honest old tables less clean = omega (arith, less, clean)
