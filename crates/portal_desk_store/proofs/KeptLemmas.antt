-- The open sessions that a desk keeps are those of its ledger, whether a command is committed or not.
use Rattle.portal_desk_store.proofs.Common.{◌≡◌, inl, inr, ℕ, ◌∷◌, Option, Some, None, sym, subst, IfSome, Ok}
use Rattle.portal_desk_store.proofs.Common.{Err, Result, Ghosts, Returns, open_at_last}
use Rattle.portal_desk_store.proofs.Common.{Command, Changes, Refusal, changes_of, entry, History, Follows}
use Rattle.portal_desk_store.proofs.Common.{IsLegal, MarkedChanges, Accepted, history_of, State, running}
use Rattle.portal_desk_store.proofs.Common.{stopped, Fits, Keeps, CannotKeep, HasOpenSessions, OpenAt, Tables}
use Rattle.portal_desk_store.proofs.Common.{List, refl, false}
use Rattle.portal_desk.specs.Calls.{is_stopped_state}
use Rattle.portal_ledger.specs.Calls.{ReadsThat}
use Rattle.portal_model.specs.Captive.{captive_of}
use Rattle.portal_model.specs.declared.captive.Captive.{Captive}
use Rattle.portal_tables.specs.TablesRepresent.{TablesRepresent}
use Rattle.portal_desk_store.specs.KeepsOpenSessions.{KeepsOpenSessions}
use Rattle.portal_desk_store.proofs.ListLemmas.{has_at_last}
use Rattle.portal_desk_store.proofs.ReadLemmas.{legal_at}

-- none are kept
pub keeps_none : (kept : Option OpenAt) → kept ≡ None → (s : State) → KeepsOpenSessions kept s
keeps_none kept none (running L) =
    subst (λ (o : Option OpenAt). IfSome o (HasOpenSessions (history_of L))) (sym none) tt
keeps_none kept none (stopped L doubt) = tt

-- they are read from the tables
pub has_read : {S : Type 0} (g : Ghosts S) (tables : Tables S) (result : Result OpenAt Refusal)
    (old new : State) → TablesRepresent g tables old
    → Returns result (λ list H. list ≡ open_at_last H) old new
    → Returns result (λ list H. HasOpenSessions H list) old new
has_read g tables (Ok list) (running L) new at read =
    (has_at_last (history_of L) (legal_at g L tables at) list read.0, read.1)
has_read g tables (Ok list) (stopped L doubt) new at read = absurd read
has_read g tables (Err r) old new at failed = failed

-- the list follows an accepted command with these changes
abbrev pub FollowsOn : Option OpenAt → Option OpenAt → Changes → Type 0
FollowsOn kept now changes = (H : History) → IsLegal H → (command : Command) (t : ℕ) → Follows H t command
    → changes_of H command t ≡ Some changes
    → IfSome kept (HasOpenSessions H) → IfSome now (HasOpenSessions (entry t command ∷ H))

-- it is committed
pub keeps_on : {S : Type 0} (g : Ghosts S) (before after : Tables S) (kept now : Option OpenAt)
    (marked : MarkedChanges) (a : Accepted)
    → FollowsOn kept now marked.changes → (old : State) → TablesRepresent g before old
    → KeepsOpenSessions kept old → Fits old marked a
    → ((x : State) × TablesRepresent g after x × Keeps old a x)
    → (x : State) × (TablesRepresent g after x × KeepsOpenSessions now x) × Keeps old a x
keeps_on g before after kept now marked a follows (running L) at is fits got =
    let led : KeepsOpenSessions now (running (a ∷ L)) =
    follows (history_of L) (legal_at g L before at) a.command a.at fits.0.follows fits.1 is in
    (got.0, (got.1, subst (λ (s : State). KeepsOpenSessions now s) (sym got.2) led), got.2)
keeps_on g before after kept now marked a follows (stopped L doubt) at is fits got = absurd got.2

-- a command is not committed, or it is in doubt
pub keeps_all : {S : Type 0} (g : Ghosts S) (after : Tables S) (kept : Option OpenAt) (a : Accepted)
    (r : Refusal) (old : State) → KeepsOpenSessions kept old
    → ((x : State) × TablesRepresent g after x × CannotKeep old a r x)
    → (x : State) × (TablesRepresent g after x × KeepsOpenSessions kept x) × CannotKeep old a r x
keeps_all g after kept a r (running L) is got =
    let still : KeepsOpenSessions kept got.0 = elim got.2 [
      | inl memory ↦ subst (λ (s : State). KeepsOpenSessions kept s) (sym memory.1) is
      | inr over ↦ subst (λ (s : State). KeepsOpenSessions kept s) (sym over.1) tt
    ] in
    (got.0, (got.1, still), got.2)
keeps_all g after kept a r (stopped L doubt) is got =
    (got.0, (got.1, subst (λ (s : State). KeepsOpenSessions kept s) (sym got.2.1) tt), got.2)

-- the captive state of a device, if a kept session gives it
pub captive_kept : {S : Type 0} (g : Ghosts S) (tables : Tables S) (kept : Option OpenAt) (list : OpenAt)
    (found : Option Captive) (device : List ℕ) (moment : ℕ) → kept ≡ Some list
    → ((H : History) → IsLegal H → HasOpenSessions H list
    → IfSome found (λ captive. captive ≡ captive_of H device moment))
    → (s : State) → TablesRepresent g tables s → KeepsOpenSessions kept s → is_stopped_state s ≡ false
    → ReadsThat s (λ H. IfSome found (λ captive. captive ≡ captive_of H device moment)) s
captive_kept g tables kept list found device moment is gives (running L) at listed works = (
  gives (history_of L) (legal_at g L tables at)
      (subst (λ (o : Option OpenAt). IfSome o (HasOpenSessions (history_of L))) is listed),
  refl,
)
captive_kept g tables kept list found device moment is gives (stopped L doubt) at listed works = absurd (cc)
