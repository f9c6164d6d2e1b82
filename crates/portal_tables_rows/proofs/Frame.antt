-- One transaction from the tables of a schema version to those of this one.
use Rattle.portal_tables_rows.proofs.Common.{◌≡◌, inl, inr, List, [], true≢false, true, false, IsTrue, refl}
use Rattle.portal_tables_rows.proofs.Common.{sym, subst, ◌∙◌, arith, Ghosts, Held, state}
use Rattle.portal_tables_rows.proofs.Common.{HasCleanDisk, Survives, Shows, KeepsCommit, FailsToCommit, Error}
use Rattle.portal_tables_rows.proofs.Common.{survives_then, survives_begin, IsUndone, Contents, Holds}
use Rattle.portal_tables_rows.proofs.Common.{HoldsIn, CrashStateHoldsRows, KeepsOthers, CrashStateHasOthers}
use Rattle.portal_tables_rows.proofs.Common.{AreNamesFree, CommitsFrom, IsReadFree, MayCommitFrom, OldSchema}
use Rattle.portal_tables_rows.proofs.Common.{Rebuilds, version_number}
use Rattle.portal_tables_rows.specs.declared.copies.WholeTable.{WholeTable}

module _ {S : Type 0} (g : Ghosts S) (from : OldSchema) (read : List WholeTable) (f : Contents → Contents)
    (old begun last end : Held S) (begins : begun ≡ record old { in_transaction = true })
    (steps : HasCleanDisk (state g last) → IsTrue begun.in_transaction →
    AreNamesFree (state g begun).now.schema
    → Rebuilds from read f (state g begun) (state g last)) where
  stepped : HasCleanDisk (state g last) → AreNamesFree (state g old).now.schema
      → Rebuilds from read f (state g (record old { in_transaction = true })) (state g last)
  stepped clean room = rw begins at (steps clean (rw begins refl) (rw begins room))

  held : HasCleanDisk (state g last) → (t : Contents)
      → HoldsIn (version_number from) [] (state g old).now t → IsReadFree from read (state g old) t
      → Holds (state g last).now (f t)
  held clean t was ready = (stepped clean ready.0).holds t was ready.1

  held_others : HasCleanDisk (state g last) → (t : Contents)
      → HoldsIn (version_number from) [] (state g old).now t → IsReadFree from read (state g old) t
      → KeepsOthers (state g old).now (state g last).now
  held_others clean t was ready = (stepped clean ready.0).others t was ready.1

  -- the transaction is committed
  pub led_done : HasCleanDisk (state g last)
      → Shows (state g last) (state g end) (state g last).now (state g last).now false
      → CommitsFrom from (IsReadFree from read) f (state g old) (state g end)
  led_done clean shown = record {
    holds = λ t was ready. rw shown.now_is (held clean t was ready);
    others =
        λ t was ready. subst (KeepsOthers (state g old).now) (sym shown.now_is)
        (held_others clean t was ready);
    committed = shown.committed_is ∙ sym shown.now_is;
    ended = shown.mode;
    is_open = shown.is_open;
  }

  -- the crash states
  pub led_crash : Survives (state g begun) (state g last) (λ _. ⊥)
      → Survives (state g last) (state g end) (λ db. db ≡ (state g last).now.trees)
      → Survives (state g old) (state g end) (MayCommitFrom from (IsReadFree from read) f (state g old))
  led_crash inside ending =
      survives_then (state g old) (state g last) (state g end) _ _
      (MayCommitFrom from (IsReadFree from read) f (state g old)) (λ _ db none. absurd none)
      (λ clean db is t was ready.
      let late : HasCleanDisk (state g last) = omega (arith, ending.clean) in
      let it = held late t was ready in
      let schema = (state g last).now.schema in
      subst (λ trees. CrashStateHoldsRows trees (f t) × CrashStateHasOthers (state g old).now trees) (sym is)
      ((schema, it.sound, it), (schema, it.sound, held_others late t was ready)))
      (survives_begin g old (state g last) _ (rw begins at inside)) ending

  -- where the commit fails, nothing is changed
  pub led_undone : (e : Error) → HasCleanDisk (state g last) → AreNamesFree (state g old).now.schema
      → (HasCleanDisk (state g last) → KeepsCommit (state g begun) (state g last))
      → FailsToCommit (state g last) (state g end) e → (state g end).in_transaction ≡ false
      → IsUndone (state g old) (state g end)
  led_undone e clean room kept (inl fails) ended =
      let keeps : KeepsCommit (state g (record old { in_transaction = true })) (state g last) =
      rw begins at (kept clean) in
      record {
        now = λ live. (fails.3.undone live).0 ∙ keeps.committed (fails.3.was_open live);
        committed = λ live. (fails.3.undone live).1 ∙ keeps.committed (fails.3.was_open live);
        ended = ended;
      }
  led_undone e clean room kept (inr late) ended = absurd (true≢false (sym (stepped clean room).mode ∙ late.1))
