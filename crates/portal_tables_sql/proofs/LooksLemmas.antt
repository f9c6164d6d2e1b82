-- How calls that only read follow one another.
use Rattle.portal_tables_sql.proofs.Common.{◌≡◌, false, IsTrue, Result, Ok, Err, OnOk, sym, subst, ◌∙◌, arith}
use Rattle.portal_tables_sql.proofs.Common.{Schema, Database, State, HasCleanDisk, IsUnchanged, Survives}
use Rattle.portal_tables_sql.proofs.Common.{survives_then, survives_weaker, unchanged, KeepsNow}
use Rattle.portal_tables_sql.proofs.Frame.{survives_none}
use Rattle.portal_tables_sql.specs.Looks.{ReadsOnly, Fails, Looks}

-- the state after a query
pub looks_by : (Has : Schema → Type 0) {X E : Type 0} (r : Result X E) (old new : State)
    → (HasCleanDisk new → Has old.now.schema → OnOk r (IsUnchanged old new))
    → (HasCleanDisk new → Has old.now.schema → IsTrue new.is_open → old.now ≡ old.committed
    → KeepsNow old new) → (old.in_transaction ≡ false → new.in_transaction ≡ false)
    → Survives old new (λ _. ¬ Has old.now.schema) → Looks Has r old new
looks_by Has (Ok x) old new same kept mode crash = record {
  same = λ clean was has. same clean has;
  crash = survives_weaker old new _ _ (λ _ db none was. none) crash;
}
looks_by Has (Err e) old new same kept mode crash = record {
  undone = λ clean was has outside settled. record {
    now = λ live. (kept clean has live settled).0 ∙ settled;
    committed = λ live. (kept clean has live settled).1;
    ended = mode outside;
  };
  crash = survives_weaker old new _ _ (λ _ db none was. none) crash;
}

module _ (P Q : Schema → Type 0) (f : (schema : Schema) → Q schema → P schema) where
  pub reads_weaker : (a b : State) → ReadsOnly P a b → ReadsOnly Q a b
  reads_weaker a b r = record {
    same = λ clean was has. r.same clean was (f _ has);
    crash = survives_weaker a b _ _ (λ _ db none was has. none was (f _ has)) r.crash;
  }

  pub fails_weaker : (a b : State) → Fails P a b → Fails Q a b
  fails_weaker a b r = record {
    undone = λ clean was has outside settled. r.undone clean was (f _ has) outside settled;
    crash = survives_weaker a b _ _ (λ _ db none was has. none was (f _ has)) r.crash;
  }

  pub looks_weaker : {X E : Type 0} (r : Result X E) (a b : State) → Looks P r a b → Looks Q r a b
  looks_weaker (Ok x) a b h = reads_weaker a b h
  looks_weaker (Err e) a b h = fails_weaker a b h

module _ (Has : Schema → Type 0) where
  has_after : (a b : State) → IsUnchanged a b → Has a.now.schema → Has b.now.schema
  has_after a b same has = subst (λ (db : Database). Has db.schema) (sym same.0.now_is) has

  unchanged_then : (a b c : State) → IsUnchanged a b → IsUnchanged b c → IsUnchanged a c
  unchanged_then a b c p q = (
    record {
      was_open = p.0.was_open;
      is_open = q.0.is_open;
      now_is = q.0.now_is ∙ p.0.now_is;
      committed_is = q.0.committed_is ∙ p.0.committed_is;
      mode = q.0.mode ∙ p.0.mode;
    },
    record { changes = q.1.changes ∙ p.1.changes; last_rowid = q.1.last_rowid ∙ p.1.last_rowid },
    q.2 ∙ p.2,
  )

  crash_then : (a b c : State) → ReadsOnly Has a b → Survives b c (λ _. IsTrue b.is_open → ¬ Has b.now.schema)
      → Survives a c (λ _. IsTrue a.is_open → ¬ Has a.now.schema)
  crash_then a b c r s =
      survives_then a b c _ _ (λ _. IsTrue a.is_open → ¬ Has a.now.schema) (λ _ db none. none)
      (λ clean db none was has. let one = r.same (omega (arith, s.clean)) was has in none one.0.is_open
      (has_after a b one has)) r.crash s

  -- nothing was asked
  pub reads_none : (s : State) → ReadsOnly Has s s
  reads_none s = record { same = λ clean was has. unchanged s was; crash = survives_none s _ }

  -- one reading after another
  pub reads_then : (a b c : State) → ReadsOnly Has a b → ReadsOnly Has b c → ReadsOnly Has a c
  reads_then a b c p q = record {
    same = λ clean was has. let one = p.same (omega (arith, q.crash.clean)) was has in
        unchanged_then a b c one (q.same clean one.0.is_open (has_after a b one has));
    crash = crash_then a b c p q.crash;
  }

  pub fails_then : (a b c : State) → ReadsOnly Has a b → Fails Has b c → Fails Has a c
  fails_then a b c p q = record {
    undone = λ clean was has outside settled.
        let one = p.same (omega (arith, q.crash.clean)) was has in
        let two = q.undone clean one.0.is_open (has_after a b one has) (one.0.mode ∙ outside)
        (one.0.now_is ∙ settled ∙ sym one.0.committed_is) in
        record {
          now = λ live. two.now live ∙ one.0.committed_is;
          committed = λ live. two.committed live ∙ one.0.committed_is;
          ended = two.ended;
        };
    crash = crash_then a b c p q.crash;
  }

  pub looks_then : {X E : Type 0} (r : Result X E) (a b c : State) → ReadsOnly Has a b
      → Looks Has r b c → Looks Has r a c
  looks_then (Ok x) a b c p q = reads_then a b c p q
  looks_then (Err e) a b c p q = fails_then a b c p q

  -- a row that was read and that this product does not write
  pub reads_fails : (a b : State) → ReadsOnly Has a b → Fails Has a b
  reads_fails a b r = record {
    undone = λ clean was has outside settled.
        let one = r.same clean was has in
        record {
          now = λ live. one.0.now_is ∙ settled;
          committed = λ live. one.0.committed_is;
          ended = one.0.mode ∙ outside;
        };
    crash = r.crash;
  }

  -- whatever is made of what was read
  pub looks_read : {X E : Type 0} (r : Result X E) (a b : State) → ReadsOnly Has a b → Looks Has r a b
  looks_read (Ok x) a b h = h
  looks_read (Err e) a b h = reads_fails a b h

  -- the database as it was read
  pub same_now : (a b : State) → ReadsOnly Has a b → HasCleanDisk b → IsTrue a.is_open
      → Has a.now.schema → b.now ≡ a.now
  same_now a b r clean was has = (r.same clean was has).0.now_is

  pub still_open : (a b : State) → ReadsOnly Has a b → HasCleanDisk b → IsTrue a.is_open
      → Has a.now.schema → IsTrue b.is_open
  still_open a b r clean was has = (r.same clean was has).0.is_open
