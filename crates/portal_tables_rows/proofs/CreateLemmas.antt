-- The tables made in one transaction, and what they hold.
use Rattle.portal_tables_rows.proofs.Common.{◌≡◌, inl, inr, true≢false, true, false, IsTrue, ℕ, List}
use Rattle.portal_tables_rows.proofs.Common.{[], length, refl, sym, subst, ◌∙◌, arith, Ghosts}
use Rattle.portal_tables_rows.proofs.Common.{Row, Table, Held, state, Database, HasCleanDisk, Survives, Shows}
use Rattle.portal_tables_rows.proofs.Common.{KeepsCommit, FailsToCommit, Error, next_tree, survives_then}
use Rattle.portal_tables_rows.proofs.Common.{survives_begin, place_has, all_has, Stores}
use Rattle.portal_tables_rows.proofs.Common.{TableExists, IsUnacted, IsUnactedBy, IsUndone, HasMade}
use Rattle.portal_tables_rows.proofs.Common.{still_stands, now_stands}
use Rattle.portal_tables_rows.proofs.Common.{TablePlace, IsTableAt, Holds}
use Rattle.portal_tables_rows.proofs.Common.{CrashStateHoldsRows, KeepsOthers}
use Rattle.portal_tables_rows.proofs.Common.{CrashStateHasOthers, AreNamesFree, new_store}
use Rattle.portal_tables_rows.proofs.Common.{Builds, IsCreated, MayBuild}
use Rattle.sqlite_schema.specs.Names.{same_name}
use Rattle.sqlite_catalog.specs.Listing.{IsSound}
use Rattle.portal_tables_sql.proofs.TableLemmas.{IsIdle}
use Rattle.portal_tables_sql.proofs.Named.{still_unacted, unacted_by}

pub still_by : (db after : Database) (made : Table) (name : List ℕ) → IsIdle made → HasMade db made after
    → IsUnactedBy db.schema name → IsUnactedBy after.schema name
still_by db after made name idle h unacted = subst (λ s. IsUnactedBy s name) (sym h.is)
    (still_unacted db.schema made name (λ ref has. all_has _ made.references ref idle has) unacted)

-- one of the product's tables that was created, and has no row yet
pub record IsReady (db : Database) (table : ℕ → Table) (place : TablePlace) : Type 0 where
  pub exists : TableExists db.schema place.at (table place.tree)
  pub unacted : IsUnactedBy db.schema (table place.tree).name
  pub empty : db.trees place.tree ≡ []

abbrev pub new_place : Database → TablePlace
new_place db = record { at = length db.schema.tables; tree = next_tree db.schema }

pub made_ready : (db after : Database) (table : ℕ → Table)
    → record (table 0) { tree = next_tree db.schema } ≡ table (next_tree db.schema)
    → same_name (table 0).name (table 0).name ≡ true
    → HasMade db (table 0) after → IsUnactedBy after.schema (table (next_tree db.schema)).name
    → IsReady after table (new_place db)
made_ready db after table same itself h unacted = record {
  exists = subst (TableExists after.schema (length db.schema.tables)) same (subst (λ s.
      TableExists s (length db.schema.tables) (record (table 0) { tree = next_tree db.schema })) (sym h.is)
      (now_stands db.schema after.trees (table 0) h.free itself
      (subst (λ s. IsSound s after.trees) h.is h.sound)));
  unacted = unacted;
  empty = h.empty;
}

pub still_ready : (db after : Database) (made : Table) (table : ℕ → Table) (place : TablePlace)
    → (table place.tree).tree ≡ place.tree → IsIdle made → HasMade db made after → IsReady db table place
    → IsReady after table place
still_ready db after made table place tree idle h r = record {
  exists = subst (λ s. TableExists s place.at (table place.tree)) (sym h.is)
      (still_stands db.schema place.at (table place.tree) made r.exists);
  unacted = still_by db after made (table place.tree).name idle h r.unacted;
  empty = subst (λ n. after.trees n ≡ db.trees n) tree (all_has _ db.schema.tables (table place.tree) h.others
      (place_has db.schema.tables place.at (table place.tree) r.exists.there)) ∙ r.empty;
}

pub ready_at : (db : Database) (table : ℕ → Table) (place : TablePlace) → (table place.tree).tree ≡ place.tree
    → IsReady db table place → IsTableAt db.schema table place
ready_at db table place tree r = record {
  exists = r.exists;
  unacted =
      subst (IsUnacted db.schema) tree (unacted_by db.schema place.at (table place.tree) r.exists r.unacted);
}

pub stores_none : {P : Type 0} (cut : Row → Row) (stored : P → Row) (rows : List Row) → rows ≡ []
    → Stores cut stored rows []
stores_none cut stored rows none = subst (λ r. Stores cut stored r []) (sym none)
    (record { are = record { rise = tt; keyed = tt }; is = refl })

-- ---- the transaction

module _ {S : Type 0} (g : Ghosts S) (old begun last end : Held S)
    (begins : begun ≡ record old { in_transaction = true })
    (builds : HasCleanDisk (state g last) → IsTrue begun.in_transaction
    → AreNamesFree (state g begun).now.schema → Builds (state g begun) (state g last)) where
  built : HasCleanDisk (state g last) → AreNamesFree (state g old).now.schema
      → Builds (state g (record old { in_transaction = true })) (state g last)
  built clean free = rw begins at (builds clean (rw begins refl) (rw begins free))

  pub built_done : HasCleanDisk (state g last)
      → Shows (state g last) (state g end) (state g last).now (state g last).now false
      → IsCreated (state g old) (state g end)
  built_done clean shown = record {
    made = λ free. subst (λ db. Holds db new_store) (sym shown.now_is) (built clean free).holds;
    others = λ free. subst (KeepsOthers (state g old).now) (sym shown.now_is) (built clean free).others;
    committed =
        record { is_open = shown.is_open; ended = shown.mode; same = shown.committed_is ∙ sym shown.now_is };
  }

  pub built_crash : Survives (state g begun) (state g last) (λ _. ⊥)
      → Survives (state g last) (state g end) (λ db. db ≡ (state g last).now.trees)
      → Survives (state g old) (state g end) (MayBuild (state g old))
  built_crash inside ending =
      survives_then (state g old) (state g last) (state g end) _ _ (MayBuild (state g old))
      (λ _ db none. absurd none)
      (λ clean db is free.
      let made = built (omega (arith, ending.clean)) free in
      let sound = made.holds.sound in
      let schema = (state g last).now.schema in
      subst (λ trees. CrashStateHoldsRows trees new_store × CrashStateHasOthers (state g old).now trees)
      (sym is) ((schema, sound, made.holds), (schema, sound, made.others)))
      (survives_begin g old (state g last) _ (rw begins at inside)) ending

  -- where the commit fails, nothing is made
  pub built_undone : (e : Error) → HasCleanDisk (state g last) → AreNamesFree (state g old).now.schema
      → (HasCleanDisk (state g last) → KeepsCommit (state g begun) (state g last))
      → FailsToCommit (state g last) (state g end) e → (state g end).in_transaction ≡ false
      → IsUndone (state g old) (state g end)
  built_undone e clean free kept (inl fails) ended =
      let keeps : KeepsCommit (state g (record old { in_transaction = true })) (state g last) =
      rw begins at (kept clean) in
      record {
        now = λ live. (fails.3.undone live).0 ∙ keeps.committed (fails.3.was_open live);
        committed = λ live. (fails.3.undone live).1 ∙ keeps.committed (fails.3.was_open live);
        ended = ended;
      }
  built_undone e clean free kept (inr late) ended = absurd (true≢false (sym (built clean free).mode ∙ late.1))
