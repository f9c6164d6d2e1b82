-- From the promises of the calls on the rows to the state that the tables represent.
use Rattle.portal_tables.proofs.Common.{◌≡◌, ◌⊎◌, inl, inr, ℕ, true, false, IsTrue, Bool, List, [], ◌∷◌, ◌++◌}
use Rattle.portal_tables.proofs.Common.{map, Option, Some, None, option_map, refl, sym, ap, subst, ◌∙◌, ◌≤◌}
use Rattle.portal_tables.proofs.Common.{arith, append-nil, true≢false, option_and_then, Ok, Err, map-append}
use Rattle.portal_tables.proofs.Common.{Held, state, Trees, Database, State, HasCleanDisk, IsUnchanged}
use Rattle.portal_tables.proofs.Common.{Survives, survives_then, survives_weaker, Changes, entry, changes_of}
use Rattle.portal_tables.proofs.Common.{answer_of, Rows, rows_of, MarkedChanges, KeptRequest, Fingerprint}
use Rattle.portal_tables.proofs.Common.{Accepted, Ledger, IsSound, history_of, answer_in, kept_with}
use Rattle.portal_tables.proofs.Common.{request_kept, requests_of, all_rows_of, RequestRow, row_of_request}
use Rattle.portal_tables.proofs.Common.{running, stopped, MayBeFound, the_sound_is_legal, kept_under}
use Rattle.portal_tables.proofs.Common.{IsUndone, ReadsOnly, Fails, Represents, CrashStateHolds, still_at}
use Rattle.portal_tables.proofs.Common.{at_open, again_at, left_still, StoreFault, Holds, HasTables}
use Rattle.portal_tables.proofs.Common.{this_schema_version, CommitsRows, MayCommitRows, after_changes}
use Rattle.portal_tables.proofs.Common.{after_command, with_kept_request, HoldsLedger, OfLedger, contents_of}
use Rattle.portal_tables.proofs.Common.{all_contents_of, StoreHolds}
use Rattle.std.specs.Option.{option_to_list}
use Rattle.sqlite_trees.specs.declared.store.Store.{Ghosts}
use Rattle.sqlite.specs.View.{doubt as doubt_of}
use Rattle.portal_ledger.specs.States.{State as DeskState}
use Rattle.portal_ledger.specs.Calls.{ReadsOf, FailsToRead, Fits, Keeps, FailsToKeep}
use Rattle.portal_tables.specs.declared.errors.StoreFault.TheVariants.{Memory, Stopped}
use Rattle.portal_tables.specs.declared.tables.Tables.{Tables}
use Rattle.portal_tables.specs.TablesRepresent.{ConnRepresents, ConnIsFaultFree, CrashStatesOfConnHold}
use Rattle.portal_tables.specs.TablesRepresent.{IsCrashStateOfConn, Files, IsFaultFree, TablesRepresent}
use Rattle.portal_tables.specs.TablesRepresent.{CrashStatesHold, AddsNoCrashState, IsCrashState, FilesHold}
use Rattle.portal_tables.specs.TablesRepresent.{ReadsTables, GivesFault}
use Rattle.portal_tables.proofs.Leading.{leads_on}
use Rattle.portal_tables.proofs.ShownLemmas.{has_all_tables}

-- the law of the store, at this connection
abbrev pub IsSettled : {S : Type 0} → Ghosts S → Held S → Type 0
IsSettled g conn = (db : Trees) → IsTrue (state g conn).is_open → (state g conn).may_leave db
    → db ≡ (state g conn).committed.trees

-- the `StoreFault` of an error
abbrev pub IsTold : StoreFault → Bool → Bool → Type 0
IsTold fault old new = ((fault ≡ Memory) × (new ≡ old)) ⊎ ((fault ≡ Stopped) × (new ≡ true))

-- a database whose tables hold a ledger holds it
pub left_store : (h : Ledger) (trees : Trees) → CrashStateHolds (HoldsLedger h) trees
    → CrashStateHolds (StoreHolds h) trees
left_store h trees left = (left.0, left.1, inl left.2)

pub store_at : (h : Ledger) (s : State) → Represents (HoldsLedger h) s → Represents (StoreHolds h) s
store_at h s at = record {
  is_open = at.is_open;
  autocommit = at.autocommit;
  settled = at.settled;
  sound = at.sound;
  shown = inl at.shown;
  left = λ trees may. left_store h trees (at.left trees may);
}

-- ---- the tables of a ledger after a command and its request

marked_rows : (requests : List KeptRequest) (k : KeptRequest)
    → map row_of_request (requests ++ k ∷ []) ≡ map row_of_request requests ++ row_of_request k ∷ []
marked_rows requests k = map-append row_of_request requests (k ∷ [])

-- the rows with the request of the fingerprint
marked : (schema_version : ℕ) (L : Ledger) (a : Accepted) (changes : Changes) (rows : Rows)
    (mark : Option Fingerprint) → mark ≡ a.mark → changes_of (history_of L) a.command a.at ≡ Some changes
    → with_kept_request mark (answer_of changes) (contents_of (map row_of_request (requests_of L))
    schema_version rows) ≡ contents_of (map row_of_request (requests_of (a ∷ L))) schema_version rows
marked schema_version L a changes rows None same is =
    let none : request_kept (history_of L) a ≡ None =
    ap (option_and_then (λ (mark : Fingerprint). option_map (kept_with mark) (answer_in (history_of L) a)))
    (sym same) in
    ap (λ (ks : List KeptRequest). contents_of (map row_of_request ks) schema_version rows)
    (sym (append-nil (requests_of L))
    ∙ ap (λ (o : Option KeptRequest). requests_of L ++ option_to_list o) (sym none))
marked schema_version L a changes rows (Some mark) same is =
    let own : request_kept (history_of L) a ≡ Some (kept_with mark (answer_of changes)) =
    kept_under (history_of L) a mark changes (sym same) is in
    ap (λ (ks : List RequestRow). contents_of ks schema_version rows)
    (sym (marked_rows (requests_of L) (kept_with mark (answer_of changes)))
    ∙ ap (λ (o : Option KeptRequest). map row_of_request (requests_of L ++ option_to_list o)) (sym own))

-- tables that hold a ledger's rows after the changes of a command hold the ledger with the command
grows : (L : Ledger) (m : MarkedChanges) (a : Accepted) (db : Database) → IsSound L → Fits (running L) m a
    → Holds db (after_command m (all_contents_of this_schema_version (all_rows_of L)))
    → HoldsLedger (a ∷ L) db
grows L m a db sound may holds =
    let H = history_of L in
    let ks = map row_of_request (requests_of L) in
    let led : after_changes m.changes (contents_of ks this_schema_version (rows_of H))
    ≡ contents_of ks this_schema_version (rows_of (entry a.at a.command ∷ H)) =
    leads_on ks this_schema_version H (the_sound_is_legal L sound) a.command a.at
    may.0.follows m.changes may.1 in
    let led_all : after_command m (all_contents_of this_schema_version (all_rows_of L))
    ≡ all_contents_of this_schema_version (all_rows_of (a ∷ L)) =
    ap (with_kept_request m.mark (answer_of m.changes)) led
    ∙ marked this_schema_version L a m.changes (rows_of (entry a.at a.command ∷ H)) m.mark may.2 may.1 in
    ((may.0, sound), subst (Holds db) led_all holds)

-- ---- crash states

leaves_before : (a b : State) (files : Trees) → HasCleanDisk b → Survives a b (λ _. ⊥)
    → b.may_leave files → a.may_leave files
leaves_before a b files clean survives may =
    elim (survives.crash clean files may) [ inl was ↦ was | inr none ↦ absurd none ]

left_before : (a b c : State) (files : Trees) → HasCleanDisk c → Survives a b (λ _. ⊥) → Survives b c (λ _. ⊥)
    → c.may_leave files → a.may_leave files
left_before a b c files clean one two may =
    leaves_before a b files (omega (arith, clean, two.clean)) one (leaves_before b c files clean two may)

module _ {S : Type 0} (g : Ghosts S) where
  pub honest_is : (tables : Tables S) → IsFaultFree g tables → HasCleanDisk (state g tables.conn)
  unfolding IsFaultFree
  honest_is tables clean = clean

  pub honest_by : (old new : Tables S)
      → doubt_of (state g old.conn).is_clean ≤ doubt_of (state g new.conn).is_clean
      → IsFaultFree g new → IsFaultFree g old
  unfolding IsFaultFree
  honest_by old new less clean = omega (arith, less, clean)

  stopped_is : (tables : Tables S) (s : DeskState) → TablesRepresent g tables s → tables.is_stopped ≡ true
      → (h : Ledger) × (doubt : Option Accepted) × (s ≡ stopped h doubt)
  unfolding TablesRepresent
  stopped_is tables (running h) at on = absurd (let off = at.0 in cc)
  stopped_is tables (stopped h doubt) at on = (h, doubt, refl)

  running_is : (tables : Tables S) (s : DeskState) → TablesRepresent g tables s → tables.is_stopped ≡ false
      → (h : Ledger) × (s ≡ running h)
  unfolding TablesRepresent
  running_is tables (running h) at on = (h, refl)
  running_is tables (stopped h doubt) at on = absurd (let off = at.0 in cc)

  -- the result of a call on tables that have stopped
  pub stays_read : (tables : Tables S) (s : DeskState) → TablesRepresent g tables s → tables.is_stopped ≡ true
      → (new : DeskState) × TablesRepresent g tables new × AddsNoCrashState g tables tables
      × FailsToRead Memory Stopped s Stopped new
  unfolding Files IsCrashState
  stays_read tables s at on = let it = stopped_is tables s at on in (
    s,
    at,
    λ files may. may,
    subst (λ (x : DeskState). FailsToRead Memory Stopped x Stopped x) (sym it.2) (refl, refl),
  )

  pub stays_keep : (a : Accepted) (tables : Tables S) (s : DeskState)
      → TablesRepresent g tables s → tables.is_stopped ≡ true
      → (new : DeskState) × TablesRepresent g tables new × FailsToKeep Memory Stopped s a Stopped new
  stays_keep a tables s at on = let it = stopped_is tables s at on in
      (s, at, subst (λ (x : DeskState). FailsToKeep Memory Stopped x a Stopped x) (sym it.2) (refl, refl))

  -- ---- a call that read

  reads_at : (h : Ledger) (old new : Tables S) → TablesRepresent g old (running h)
      → HasCleanDisk (state g new.conn) → new.is_stopped ≡ old.is_stopped
      → ReadsOnly HasTables (state g old.conn) (state g new.conn)
      → TablesRepresent g new (running h) × HoldsLedger h (state g old.conn).now
      × IsTrue (state g old.conn).is_open × AddsNoCrashState g old new
  unfolding Files TablesRepresent IsCrashState
  reads_at h old new at clean on read =
      let has = has_all_tables h (state g old.conn).now at.1.shown in (
        (
          on ∙ at.0,
          still_at (HoldsLedger h) (state g old.conn) (state g new.conn)
              at.1 clean (read.same clean at.1.is_open has)
              (survives_weaker _ _ _ _ (λ _ db none. none at.1.is_open has) read.crash),
        ),
        at.1.shown,
        at.1.is_open,
        λ files may. leaves_before (state g old.conn) (state g new.conn) files clean
            (survives_weaker _ _ _ _ (λ _ db none. none at.1.is_open has) read.crash) may,
      )

  pub reads_of : (old new : Tables S) → old.is_stopped ≡ false → new.is_stopped ≡ old.is_stopped
      → IsFaultFree g new → ReadsOnly HasTables (state g old.conn) (state g new.conn) → (Is : Ledger → Type 0)
      → OfLedger (state g old.conn) (state g new.conn) Is → (s : DeskState) → TablesRepresent g old s
      → (x : DeskState) × TablesRepresent g new x × AddsNoCrashState g old new × ReadsOf s Is x
  reads_of old new on same honest read Is found s at =
      let it = running_is old s at on in
      let got =
      reads_at it.0 old new (subst (TablesRepresent g old) it.1 at) (honest_is new honest) same read in
      subst (λ (y : DeskState).
      (x : DeskState) × TablesRepresent g new x × AddsNoCrashState g old new × ReadsOf y Is x)
      (sym it.1) (running it.0, got.0, got.3, (found (honest_is new honest) got.2 it.0 got.1, refl))

  -- ---- a call that did not

  fails_at : (h : Ledger) (old new : Tables S) (mid : Held S) → TablesRepresent g old (running h)
      → HasCleanDisk (state g new.conn) → Fails HasTables (state g old.conn) (state g mid)
      → Survives (state g mid) (state g new.conn) (λ _. ⊥)
      → IsSettled g new.conn → (fault : StoreFault) → IsTold fault old.is_stopped new.is_stopped
      → (fault ≡ Memory → IsUnchanged (state g mid) (state g new.conn)) → (x : DeskState)
      × TablesRepresent g new x × AddsNoCrashState g old new × FailsToRead Memory Stopped (running h) fault x
  unfolding Files TablesRepresent IsCrashState
  fails_at h old new mid at clean failed later law fault (inl told) same =
      let has = has_all_tables h (state g old.conn).now at.1.shown in
      let undone =
      failed.undone (omega (arith, clean, later.clean)) at.1.is_open has at.1.autocommit at.1.settled in (
        running h,
        (
          told.1 ∙ at.0,
          again_at (HoldsLedger h) (state g old.conn) (state g mid) (state g new.conn) law
              at.1 undone (same told.0),
        ),
        λ files may. left_before (state g old.conn) (state g mid) (state g new.conn) files clean
            (survives_weaker _ _ _ (λ _. ⊥) (λ _ db none. none at.1.is_open has) failed.crash) later may,
        inl (told.0, refl),
      )
  fails_at h old new mid at clean failed later law fault (inr told) same =
      let has = has_all_tables h (state g old.conn).now at.1.shown in
      let first = survives_weaker _ _ _ (λ _. ⊥) (λ _ db none. none at.1.is_open has) failed.crash in (
        stopped h None,
        (
          told.1,
          left_still (HoldsLedger h) (state g old.conn) (state g mid)
              (state g new.conn) at.1 clean first later,
        ),
        λ files may.
            left_before (state g old.conn) (state g mid) (state g new.conn) files clean first later may,
        inr (told.0, refl),
      )

  pub fails : (old new : Tables S) (mid : Held S) → old.is_stopped ≡ false
      → IsFaultFree g new → Fails HasTables (state g old.conn) (state g mid)
      → Survives (state g mid) (state g new.conn) (λ _. ⊥) → IsSettled g new.conn
      → (fault : StoreFault) → IsTold fault old.is_stopped new.is_stopped
      → (HasCleanDisk (state g new.conn) → fault ≡ Memory → IsUnchanged (state g mid) (state g new.conn))
      → (s : DeskState) → TablesRepresent g old s
      → (x : DeskState) × TablesRepresent g new x × AddsNoCrashState g old new
      × FailsToRead Memory Stopped s fault x
  fails old new mid on honest failed later law fault told same s at =
      let it = running_is old s at on in
      let clean = honest_is new honest in
      subst (λ (y : DeskState). (x : DeskState) × TablesRepresent g new x × AddsNoCrashState g old new
      × FailsToRead Memory Stopped y fault x) (sym it.1) (fails_at it.0 old new mid
      (subst (TablesRepresent g old) it.1 at) clean failed later law fault told (same clean))

  -- ---- the result of a read, as the caller gets it

  -- tables that have stopped
  pub read_stopped : {A : Type 0} (tables : Tables S) {Is : Ledger → A → Type 0} → tables.is_stopped ≡ true
      → ReadsTables g tables tables (Err Stopped) Is
  read_stopped tables on = record {
    fault_free = λ clean. clean;
    stopped = λ _. (refl, refl);
    stops = inr (refl, on);
    found = λ clean s at. stays_read tables s at on;
  }

  pub read_found : {A : Type 0} (old new : Tables S) (found : A) {Is : Ledger → A → Type 0}
      → old.is_stopped ≡ false → new.is_stopped ≡ old.is_stopped
      → ReadsOnly HasTables (state g old.conn) (state g new.conn)
      → OfLedger (state g old.conn) (state g new.conn) (λ L. Is L found) → ReadsTables g old new (Ok found) Is
  read_found old new found {Is = Is} on same read is = record {
    fault_free = λ clean. honest_by old new (omega (arith, read.crash.clean)) clean;
    stopped = λ off. absurd (true≢false (sym off ∙ on));
    stops = same;
    found = λ clean s at. reads_of old new on same clean read (λ L. Is L found) is s at;
  }

  pub read_failed : {A : Type 0} (old new : Tables S) (mid : Held S) (fault : StoreFault)
      {Is : Ledger → A → Type 0} → old.is_stopped ≡ false → IsSettled g new.conn
      → Fails HasTables (state g old.conn) (state g mid)
      → GivesFault g (record old { conn = mid }) new fault → ReadsTables g old new (Err fault) Is
  read_failed old new mid fault on law failed tells = record {
    fault_free = λ clean. honest_by old new (omega (arith, failed.crash.clean, tells.survives.clean)) clean;
    stopped = λ off. absurd (true≢false (sym off ∙ on));
    stops = tells.gives_fault;
    found = λ clean s at.
        fails old new mid on clean failed tells.survives law fault tells.gives_fault tells.same s at;
  }

  -- ---- a commit

  kept_at : (L : Ledger) (m : MarkedChanges) (a : Accepted) (old new : Tables S)
      → TablesRepresent g old (running L) → new.is_stopped ≡ old.is_stopped
      → IsSettled g new.conn → Fits (running L) m a
      → CommitsRows (after_command m) (state g old.conn) (state g new.conn)
      → TablesRepresent g new (running (a ∷ L))
  unfolding TablesRepresent
  kept_at L m a old new at on law may leads =
      let holds = leads.holds (all_contents_of this_schema_version (all_rows_of L)) at.1.shown.1 in (
        on ∙ at.0,
        at_open (HoldsLedger (a ∷ L)) (state g new.conn) law leads.is_open leads.ended (sym leads.committed)
            holds.sound (grows L m a (state g new.conn).now at.1.shown.0 may holds),
      )

  pub keeps : (m : MarkedChanges) (a : Accepted) (old new : Tables S)
      → old.is_stopped ≡ false → new.is_stopped ≡ old.is_stopped → IsSettled g new.conn
      → CommitsRows (after_command m) (state g old.conn) (state g new.conn)
      → (s : DeskState) → TablesRepresent g old s → Fits s m a
      → (x : DeskState) × TablesRepresent g new x × Keeps s a x
  keeps m a old new on same law leads s at may =
      let it = running_is old s at on in
      subst (λ (y : DeskState). (x : DeskState) × TablesRepresent g new x × Keeps y a x) (sym it.1) (
        running (a ∷ it.0),
        kept_at it.0 m a old new (subst (TablesRepresent g old) it.1 at) same law
            (subst (λ (y : DeskState). Fits y m a) it.1 may) leads,
        refl,
      )

  doubts_at : (L : Ledger) (m : MarkedChanges) (a : Accepted) (old new : Tables S) (mid : Held S)
      → TablesRepresent g old (running L) → HasCleanDisk (state g new.conn) → Fits (running L) m a
      → IsUndone (state g old.conn) (state g mid)
      → Survives (state g old.conn) (state g mid) (MayCommitRows (after_command m) (state g old.conn))
      → Survives (state g mid) (state g new.conn) (λ _. ⊥) → IsSettled g new.conn
      → (fault : StoreFault) → IsTold fault old.is_stopped new.is_stopped
      → (fault ≡ Memory → IsUnchanged (state g mid) (state g new.conn))
      → (x : DeskState) × TablesRepresent g new x × FailsToKeep Memory Stopped (running L) a fault x
  unfolding TablesRepresent
  doubts_at L m a old new mid at clean may undone crash later law fault (inl told) same = (
    running L,
    (
      told.1 ∙ at.0,
      again_at (HoldsLedger L) (state g old.conn) (state g mid) (state g new.conn) law
          at.1 undone (same told.0),
    ),
    inl (told.0, refl),
  )
  doubts_at L m a old new mid at clean may undone crash later law fault (inr told) same =
      let P = MayCommitRows (after_command m) (state g old.conn) in
      let all = survives_then (state g old.conn) (state g mid) (state g new.conn) P (λ _. ⊥) P
      (λ _ db made. made) (λ _ db none. absurd none) crash later in (
        stopped L (Some a),
        (
          told.1,
          λ trees left. elim (all.crash clean trees left) [
            | inl was ↦ inl (at.1.left trees was)
            | inr made ↦
                let it = (made (all_contents_of this_schema_version (all_rows_of L)) at.1.shown.1).0 in
                inr (it.0, it.1, grows L m a (record { schema = it.0; trees = trees }) at.1.shown.0 may it.2)
          ],
        ),
        inr (told.0, refl),
      )

  pub doubts : (m : MarkedChanges) (a : Accepted) (old new : Tables S) (mid : Held S) → old.is_stopped ≡ false
      → IsFaultFree g new → (HasCleanDisk (state g mid) → IsUndone (state g old.conn) (state g mid))
      → Survives (state g old.conn) (state g mid) (MayCommitRows (after_command m) (state g old.conn))
      → Survives (state g mid) (state g new.conn) (λ _. ⊥) → IsSettled g new.conn → (fault : StoreFault)
      → IsTold fault old.is_stopped new.is_stopped
      → (HasCleanDisk (state g new.conn) → fault ≡ Memory → IsUnchanged (state g mid) (state g new.conn))
      → (s : DeskState) → TablesRepresent g old s → Fits s m a
      → (x : DeskState) × TablesRepresent g new x × FailsToKeep Memory Stopped s a fault x
  doubts m a old new mid on honest undone crash later law fault told same s at may =
      let it = running_is old s at on in
      let clean = honest_is new honest in
      subst (λ (y : DeskState).
      (x : DeskState) × TablesRepresent g new x × FailsToKeep Memory Stopped y a fault x) (sym it.1)
      (doubts_at it.0 m a old new mid (subst (TablesRepresent g old) it.1 at) clean
      (subst (λ (y : DeskState). Fits y m a) it.1 may) (undone (omega (arith, clean, later.clean))) crash
      later law fault told (same clean))

  -- tables that stop before they write anything
  halts_at : (L : Ledger) (a : Accepted) (tables : Tables S) → TablesRepresent g tables (running L)
      → TablesRepresent g (record tables { is_stopped = true }) (stopped L (Some a))
  unfolding TablesRepresent
  halts_at L a tables at = (refl, λ trees left. inl (at.1.left trees left))

  pub halts : (a : Accepted) (tables : Tables S) → tables.is_stopped ≡ false
      → (s : DeskState) → TablesRepresent g tables s → (x : DeskState)
      × TablesRepresent g (record tables { is_stopped = true }) x × FailsToKeep Memory Stopped s a Stopped x
  halts a tables on s at =
      let it = running_is tables s at on in
      subst (λ (y : DeskState). (x : DeskState) × TablesRepresent g (record tables { is_stopped = true }) x
      × FailsToKeep Memory Stopped y a Stopped x) (sym it.1) (
        stopped it.0 (Some a),
        halts_at it.0 a tables (subst (TablesRepresent g tables) it.1 at),
        inr (refl, refl),
      )

  -- ---- the connection, handed over and back

  pub released : (L : Ledger) (tables : Tables S) → TablesRepresent g tables (running L)
      → ConnRepresents g tables.conn L
  unfolding TablesRepresent ConnRepresents
  released L tables at = store_at L (state g tables.conn) at.1

  pub released_honest : (tables : Tables S) → ConnIsFaultFree g tables.conn → IsFaultFree g tables
  unfolding ConnIsFaultFree IsFaultFree
  released_honest tables clean = clean

  pub released_left : (tables : Tables S) (files : Files) → IsCrashStateOfConn g tables.conn files
      → IsCrashState g tables files
  unfolding Files IsCrashStateOfConn IsCrashState
  released_left tables files may = may

-- ---- what a reopening may find after a crash

pub leaves : {S : Type 0} (g : Ghosts S) (tables : Tables S) (s : DeskState) → TablesRepresent g tables s
    → CrashStatesHold g tables (MayBeFound s)
unfolding Files TablesRepresent IsCrashState FilesHold
leaves g tables (running h) at files may = (h, refl, left_store h files (at.1.left files may))
leaves g tables (stopped h None) at files may = (h, refl, left_store h files (at.1 files may))
leaves g tables (stopped h (Some a)) at files may = elim (at.1 files may) [
  | inl old ↦ (h, inl refl, left_store h files old)
  | inr new ↦ (a ∷ h, inr refl, left_store (a ∷ h) files new)
]

pub sound_at : {S : Type 0} (g : Ghosts S) (L : Ledger) (tables : Tables S)
    → TablesRepresent g tables (running L) → IsSound L
unfolding TablesRepresent
sound_at g L tables at = at.1.shown.0

-- ---- what files hold

store_sound : (L : Ledger) (db : Database) → StoreHolds L db → IsSound L
store_sound L db (inl shown) = shown.0
store_sound L db (inr (inl shown)) = shown.1.sound
store_sound L db (inr (inr is)) = subst IsSound (sym is.0) tt

pub files_sound : (files : Files) (L : Ledger) → FilesHold files L → IsSound L
unfolding Files FilesHold
files_sound files L left = store_sound L (record { schema = left.0; trees = files }) left.2

pub conn_leaves : {S : Type 0} (g : Ghosts S) (conn : Held S) (L : Ledger) → ConnRepresents g conn L
    → CrashStatesOfConnHold g conn L
unfolding Files ConnRepresents CrashStatesOfConnHold FilesHold
conn_leaves g conn L at files may = at.left files may
