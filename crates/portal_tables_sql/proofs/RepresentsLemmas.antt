-- How standing at a value passes over a call, a commit and a reopening.
use Rattle.portal_tables_sql.proofs.Common.{◌≡◌, inl, inr, false, IsTrue, sym, subst, ◌∙◌, catalog_tree}
use Rattle.portal_tables_sql.proofs.Common.{Trees, Schema, IsSound, Database, IsDatabase, survives_then}
use Rattle.portal_tables_sql.proofs.Common.{IsUndone, State, HasCleanDisk, IsUnchanged, Survives}
use Rattle.sqlite_catalog.proofs.ReadLemmas.{lists_once}
use Rattle.portal_tables_sql.specs.Represents.{CrashStateHolds, Represents}

module _ (Shows : Database → Type 0) where
  -- under any schema that the trees list
  pub shows_under : (trees : Trees) (schema : Schema) → IsSound schema trees → CrashStateHolds Shows trees
      → Shows (record { schema = schema; trees = trees })
  shows_under trees schema sound left = subst (λ s. Shows (record { schema = s; trees = trees }))
      (lists_once (trees catalog_tree) left.0 schema left.1.lists sound.lists) left.2

  -- a call that changes nothing
  pub still_at : (old new : State) → Represents Shows old → HasCleanDisk new → IsUnchanged old new
      → Survives old new (λ _. ⊥) → Represents Shows new
  still_at old new at clean same survives = record {
    is_open = same.0.is_open;
    autocommit = same.0.mode ∙ at.autocommit;
    settled = same.0.now_is ∙ at.settled ∙ sym same.0.committed_is;
    sound = subst IsDatabase (sym same.0.now_is) at.sound;
    shown = subst Shows (sym same.0.now_is) at.shown;
    left = λ trees may. elim (survives.crash clean trees may) [
      | inl was ↦ at.left trees was
      | inr none ↦ absurd none
    ];
  }

  -- an open connection outside a transaction: its only crash state is its last commit, by the law `settled`
  -- of `Store`
  pub at_open : (s : State) → ((db : Trees) → IsTrue s.is_open → s.may_leave db → db ≡ s.committed.trees)
      → IsTrue s.is_open → s.in_transaction ≡ false → s.now ≡ s.committed → IsDatabase s.now → Shows s.now
      → Represents Shows s
  at_open s law is_open autocommit same sound shown = record {
    is_open = is_open;
    autocommit = autocommit;
    settled = same;
    sound = sound;
    shown = shown;
    left = λ trees may. subst (CrashStateHolds Shows) (sym (law trees is_open may))
        (subst (λ (db : Database). CrashStateHolds Shows db.trees) same (s.now.schema, sound, shown));
  }

  -- a call that undid what it did, and then one after which the connection is known to work
  pub again_at : (old mid new : State)
      → ((db : Trees) → IsTrue new.is_open → new.may_leave db → db ≡ new.committed.trees)
      → Represents Shows old → IsUndone old mid → IsUnchanged mid new → Represents Shows new
  again_at old mid new law at undone same =
      let now : new.now ≡ old.now = same.0.now_is ∙ undone.now same.0.was_open ∙ sym at.settled in
      let both : new.now ≡ new.committed = same.0.now_is ∙ undone.now same.0.was_open
      ∙ sym (same.0.committed_is ∙ undone.committed same.0.was_open) in
      at_open new law same.0.is_open (same.0.mode ∙ undone.ended) both (subst IsDatabase (sym now) at.sound)
      (subst Shows (sym now) at.shown)

  -- the state after two calls that commit nothing
  pub left_still : (old mid new : State) → Represents Shows old → HasCleanDisk new → Survives old mid (λ _. ⊥)
      → Survives mid new (λ _. ⊥) → (trees : Trees) → new.may_leave trees → CrashStateHolds Shows trees
  left_still old mid new at clean one two trees may =
      elim ((survives_then old mid new (λ _. ⊥) (λ _. ⊥) (λ _. ⊥) (λ _ db none. none) (λ _ db none. none) one
      two).crash clean trees may) [ inl was ↦ at.left trees was | inr none ↦ absurd none ]
