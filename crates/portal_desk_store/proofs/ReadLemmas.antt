-- From the results of the tables to the results of a desk over them.
use Rattle.portal_desk_store.proofs.Common.{◌≡◌, inl, inr, Bool, true, false, refl, sym, ◌↔◌, IsTrue, Ghosts}
use Rattle.portal_desk_store.proofs.Common.{Refusal, IsLegal, Accepted, Ledger, history_of, State, running}
use Rattle.portal_desk_store.proofs.Common.{stopped, FailsToKeep, is_stopped_state, CannotKeep, StoreFault}
use Rattle.portal_desk_store.proofs.Common.{Memory, Tables, IsStopped}
use Rattle.portal_model.specs.declared.refusal.Refusal.TheVariants as refusal
use Rattle.portal_ledger.proofs.Ledgers.{the_sound_is_legal}
use Rattle.portal_tables.specs.declared.errors.StoreFault.TheVariants.{Stopped}
use Rattle.portal_tables.proofs.StateLemmas.{sound_at}
use Rattle.portal_tables.specs.TablesRepresent.{TablesRepresent}

-- a command was not committed
pub cannot_keep : {S : Type 0} (g : Ghosts S) (after : Tables S) (a : Accepted) (fault : StoreFault)
    (r : Refusal) (old : State)
    → ((x : State) × TablesRepresent g after x × FailsToKeep Memory Stopped old a fault x)
    → (fault ≡ Memory → r ≡ refusal.NoMemory) → (fault ≡ Stopped → r ≡ refusal.Stopped)
    → (new : State) × TablesRepresent g after new × CannotKeep old a r new
cannot_keep g after a fault r (running L) got memory over =
    (got.0, got.1, elim got.2 [ inl is ↦ inl (memory is.0, is.1) | inr is ↦ inr (over is.0, is.1) ])
cannot_keep g after a fault r (stopped L doubt) got memory over = (got.0, got.1, (over got.2.0, got.2.1))

-- the flag of the tables
pub flag : (result is_stopped : Bool) → IsTrue result ↔ (is_stopped ≡ true) → result ≡ is_stopped
flag true is_stopped same = sym (same.0 refl)
flag false true same = same.1 refl
flag false false same = refl

-- whether it has stopped
pub over : {S : Type 0} (g : Ghosts S) (tables : Tables S) (result : Bool) (s : State)
    → TablesRepresent g tables s
    → IsTrue result ↔ IsStopped g tables → result ≡ is_stopped_state s
unfolding TablesRepresent
over g tables true (running L) at same = absurd (cc (same.0 refl, at.0))
over g tables false (running L) at same = refl
over g tables true (stopped L doubt) at same = refl
over g tables false (stopped L doubt) at same = absurd (cc (same.1 at.0))

-- the history of tables that work is legal
pub legal_at : {S : Type 0} (g : Ghosts S) (L : Ledger) (tables : Tables S)
    → TablesRepresent g tables (running L) → IsLegal (history_of L)
legal_at g L tables at = the_sound_is_legal L (sound_at g L tables at)
