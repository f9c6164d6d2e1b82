-- The state of a connection after a query that only reads, and which texts only read.
use Rattle.portal_tables_sql.proofs.Common.{◌≡◌, inl, inr, false, ℕ, List, [], Result, Option, Some, None, Ok}
use Rattle.portal_tables_sql.proofs.Common.{Err, IfOk, IfErr, OnOk, IsTrue, refl, sym, subst, ◌∙◌, Error}
use Rattle.portal_tables_sql.proofs.Common.{Select, Schema, State, HasCleanDisk, IsUnchanged, Survives}
use Rattle.portal_tables_sql.proofs.Common.{survives_weaker, KeepsNow, Compiled, CompileError, command_of}
use Rattle.std.specs.Prelude.{IsSome}
use Rattle.sqlite.specs.Order.{Row}
use Rattle.sqlite.specs.Query.{Query}
use Rattle.sqlite.specs.Listing.{understood}
use Rattle.sqlite.specs.State.{CommitsShowing, FailsToQuery, IsNotRun, Shown}
use Rattle.sqlite.proofs.Callers.{IsPlain}
use Rattle.portal_tables_sql.specs.Asks.{Asks, IsDirect, IsSimple}
use Rattle.portal_tables_sql.specs.Looks.{Looks}
use Rattle.portal_tables_sql.proofs.LooksLemmas.{looks_by}
use Rattle.portal_tables_sql.proofs.Texts.{Means}

module _ (sql : List ℕ) (params : Row) (old new : State) where
  no_some : {X : Type 0} (o : Option X) → o ≡ None → IsSome o → ⊥
  no_some None is some = cc
  no_some (Some x) is some = cc

  pub commits_nothing : Survives old new (CommitsShowing sql params old)
      → Survives old new (λ _. ¬ Asks sql old.now.schema)
  unfolding CommitsShowing
  commits_nothing = survives_weaker old new _ _ (λ _ db h asks. no_some h.0.returning (asks h.0 h.1.is) h.2)

  shown_same : Asks sql old.now.schema → (rows : List Row)
      → Shown sql params old new rows → IsUnchanged old new
  unfolding Shown
  shown_same asks rows h = (rw (asks h.0 h.1.is) at h.2).3

  same_kept : IsUnchanged old new → KeepsNow old new
  same_kept same = (same.0.now_is, same.0.committed_is)

  fails_kept : Asks sql old.now.schema → (e : Error) → FailsToQuery sql params old new e → IsTrue new.is_open
      → old.now ≡ old.committed → KeepsNow old new
  unfolding FailsToQuery IsNotRun
  fails_kept asks e (inl (inl h)) live settled = same_kept h.1
  fails_kept asks e (inl (inr h)) live settled = ((h.3.undone live).0 ∙ sym settled, (h.3.undone live).1)
  fails_kept asks e (inr h) live settled = same_kept ((rw (asks h.0 h.1.is) at h.2).3)

  module _ {X : Type 0} (items : X → List Row) where
    ask_same : Asks sql old.now.schema → (r : Result X Error)
        → IfOk r (λ x. Shown sql params old new (items x)) → OnOk r (IsUnchanged old new)
    ask_same asks (Ok x) h = shown_same asks (items x) h
    ask_same asks (Err e) h = tt

    ask_kept : Asks sql old.now.schema → (r : Result X Error)
        → IfOk r (λ x. Shown sql params old new (items x)) → IfErr r (FailsToQuery sql params old new)
        → IsTrue new.is_open → old.now ≡ old.committed → KeepsNow old new
    ask_kept asks (Ok x) h fails live settled = same_kept (shown_same asks (items x) h)
    ask_kept asks (Err e) h fails live settled = fails_kept asks e fails live settled

    pub asks_looks : (r : Result X Error)
        → (HasCleanDisk new → IfOk r (λ x. Shown sql params old new (items x)))
        → (HasCleanDisk new → IfErr r (FailsToQuery sql params old new))
        → (old.in_transaction ≡ false → new.in_transaction ≡ false)
        → Survives old new (CommitsShowing sql params old) → Looks (Asks sql) r old new
    asks_looks r shown fails mode crash =
        looks_by (Asks sql) r old new (λ clean asks. ask_same asks r (shown clean))
        (λ clean asks live settled. ask_kept asks r (shown clean) (fails clean) live settled)
        mode (commits_nothing crash)

-- ---- which texts ask

pub simple_asks : (sql : List ℕ) (schema : Schema) → IsSimple (understood schema sql) → Asks sql schema
simple_asks sql schema simple c is = (subst IsSimple is simple).0

pub plain_asks : (sql : List ℕ) (schema : Schema) → IsPlain (understood schema sql) → Asks sql schema
plain_asks sql schema plain c is = (subst IsPlain is plain).0

-- a query that is known
pub means_simple : (schema : Schema) (sql : List ℕ) (body : Query) (names : List (List ℕ))
    → {n : ℕ} → Means schema sql n (Select (record { lets = []; body = body }) names)
    → IsSimple (understood schema sql)
means_simple schema sql body names m = go (understood schema sql) m.is m.plain
  where
    go : (r : Result Compiled CompileError) → command_of r ≡ Select (record { lets = []; body = body }) names
        → IsPlain r → IsSimple r
    go (Ok c) is plain = (plain.0, subst IsDirect (sym is) refl)
    go (Err e) is plain = plain
