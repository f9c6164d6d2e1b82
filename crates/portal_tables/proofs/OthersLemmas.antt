-- A commit keeps the other tables.
use Rattle.portal_tables.proofs.Common.{◌≡◌, inl, inr, true, true≢false, sym, ◌∙◌, arith, Held, state}
use Rattle.portal_tables.proofs.Common.{HasCleanDisk, IsUnchanged, Survives, survives_then, MarkedChanges}
use Rattle.portal_tables.proofs.Common.{Ledger, all_rows_of, running, IsUndone, Represents, at_open, again_at}
use Rattle.portal_tables.proofs.Common.{after_command, this_schema_version, KeepsOthers, CommitsRows}
use Rattle.portal_tables.proofs.Common.{MayCommitRows, others_none, StoreFault, all_contents_of}
use Rattle.sqlite_trees.specs.declared.store.Store.{Ghosts}
use Rattle.portal_tables.specs.declared.errors.StoreFault.TheVariants.{Memory}
use Rattle.portal_tables.specs.declared.tables.Tables.{Tables}
use Rattle.portal_tables.specs.TablesRepresent.{Files, IsFaultFree, OthersKept, CrashStatesHaveOthers}
use Rattle.portal_tables.specs.TablesRepresent.{OthersStay, TablesRepresent}
use Rattle.portal_tables.proofs.StateLemmas.{IsSettled, IsTold, honest_is}

module _ {S : Type 0} (g : Ghosts S) where
  -- tables that work keep the other tables as they are
  others_at : (L : Ledger) (old : Tables S) → IsSettled g old.conn → TablesRepresent g old (running L)
      → Represents (KeepsOthers (state g old.conn).now) (state g old.conn)
  unfolding TablesRepresent
  others_at L old law at =
      let s = state g old.conn in
      at_open (KeepsOthers s.now) s law at.1.is_open at.1.autocommit at.1.settled
      at.1.sound (others_none s.now)

  others_by : (old new : Tables S)
      → Represents (KeepsOthers (state g old.conn).now) (state g new.conn) → OthersKept g old new
  unfolding Files OthersStay CrashStatesHaveOthers
  others_by old new at = (λ works. at.shown, at.left)

  pub others_stopped : (L : Ledger) (old new : Tables S) → old.is_stopped ≡ true
      → TablesRepresent g old (running L) → OthersKept g old new
  unfolding TablesRepresent
  others_stopped L old new stopped at = absurd (true≢false (sym stopped ∙ at.0))

  -- tables that stop before they write anything
  pub others_halted : (L : Ledger) (old : Tables S) → IsSettled g old.conn → TablesRepresent g old (running L)
      → OthersKept g old (record old { is_stopped = true })
  unfolding Files OthersStay CrashStatesHaveOthers
  others_halted L old law at = (λ works. absurd (true≢false works), (others_at L old law at).left)

  pub others_led : (m : MarkedChanges) (L : Ledger) (old new : Tables S) → IsSettled g new.conn
      → CommitsRows (after_command m) (state g old.conn) (state g new.conn)
      → TablesRepresent g old (running L) → OthersKept g old new
  unfolding TablesRepresent
  others_led m L old new law leads at =
      let t = all_contents_of this_schema_version (all_rows_of L) in
      others_by old new (at_open (KeepsOthers (state g old.conn).now) (state g new.conn) law leads.is_open
      leads.ended (sym leads.committed) (leads.holds t at.1.shown.1).sound (leads.others t at.1.shown.1))

  module _ (m : MarkedChanges) (L : Ledger) (old new : Tables S) (mid : Held S)
      (before : IsSettled g old.conn) (law : IsSettled g new.conn) (clean : HasCleanDisk (state g new.conn))
      (undone : IsUndone (state g old.conn) (state g mid)) (crash : Survives (state g old.conn)
      (state g mid) (MayCommitRows (after_command m) (state g old.conn)))
      (later : Survives (state g mid) (state g new.conn) (λ _. ⊥)) where
    failed_by : (fault : StoreFault) → IsTold fault old.is_stopped new.is_stopped
        → (fault ≡ Memory → IsUnchanged (state g mid) (state g new.conn))
        → TablesRepresent g old (running L) → OthersKept g old new
    unfolding Files TablesRepresent OthersStay CrashStatesHaveOthers
    failed_by fault (inl told) same at =
        others_by old new (again_at (KeepsOthers (state g old.conn).now) (state g old.conn) (state g mid)
        (state g new.conn) law (others_at L old before at) undone (same told.0))
    failed_by fault (inr told) same at =
        let P = MayCommitRows (after_command m) (state g old.conn) in
        let all = survives_then (state g old.conn) (state g mid) (state g new.conn) P (λ _. ⊥) P
        (λ _ db made. made) (λ _ db none. absurd none) crash later in (
          λ works. absurd (true≢false (sym told.1 ∙ works)),
          λ files may. elim (all.crash clean files may) [
            | inl was ↦ (others_at L old before at).left files was
            | inr made ↦ (made (all_contents_of this_schema_version (all_rows_of L)) at.1.shown.1).1
          ],
        )

  pub others_failed : (m : MarkedChanges) (L : Ledger) (old new : Tables S) (mid : Held S)
      → IsSettled g old.conn → IsSettled g new.conn → IsFaultFree g new
      → (HasCleanDisk (state g mid) → IsUndone (state g old.conn) (state g mid))
      → Survives (state g old.conn) (state g mid) (MayCommitRows (after_command m) (state g old.conn))
      → Survives (state g mid) (state g new.conn) (λ _. ⊥) → (fault : StoreFault)
      → IsTold fault old.is_stopped new.is_stopped
      → (HasCleanDisk (state g new.conn) → fault ≡ Memory → IsUnchanged (state g mid) (state g new.conn))
      → TablesRepresent g old (running L) → OthersKept g old new
  others_failed m L old new mid before law honest undone crash later fault told same at =
      let clean = honest_is g new honest in
      failed_by m L old new mid before law clean (undone (omega (arith, clean, later.clean))) crash later
      fault told (same clean) at
