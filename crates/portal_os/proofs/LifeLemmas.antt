-- What a life of two files keeps.
use Rattle.portal_os.proofs.Common.{◌≡◌, ◌∙◌, ◌∷◌, ℕ, List, [], Some, None, inl, inr, subst, sym}
use Rattle.portal_os.proofs.Common.{ap, ap₂}
use Rattle.portal_os.proofs.Common.{true, true≢false, Ok, Err, Result, Ghosts, Files, AreClean, Held, Image}
use Rattle.portal_ledger.specs.Ledger.{IsSound}
use Rattle.portal_desk_store.specs.Laws.{found_is_sound}
use Rattle.portal_os.proofs.Common.{ImageHoldsLedger, Ledger, IsTrue, file_state, image, image_of, over_files}
use Rattle.std.proofs.Common.{refl, ◌<◌, ◌+◌, false, length, get_or, take, subst₂}
use Rattle.std.proofs.lemmas.List.{length_push, take_more}
use Rattle.std.proofs.Math.Logic.{∥∥₁_map, ∥∥₁_elim}
use Rattle.std.proofs.lemmas.Bool.{and_from}
use Rattle.std.specs.Prelude.{◌++◌, Vec}
use Rattle.std.specs.Result.{OnOk, is_err}
use Rattle.std.specs.declared.alloc.Global.{Global}
use Rattle.sqlite.specs.State.{HasCleanDisk}
use Rattle.sqlite.specs.declared.file.Leftover.{Leftover}
use Rattle.sqlite.specs.declared.file.Leftover.TheVariants as left
use Rattle.sqlite_disk.specs.Disk.{Only}
use Rattle.sqlite_store.specs.declared.store.FileStore.{FileStore}
use Rattle.sqlite_wal.specs.Files.{outcomes}
use Rattle.portal_files.specs.SettingsFile.{SettingsValue}
use Rattle.portal_http.specs.Arrived.{Arrived}
use Rattle.portal_http.specs.Executions.{IsKeptByExecution, ServerSession, SessionsFollow, with_desk}
use Rattle.portal_http.specs.Executions.{without_desk}
use Rattle.portal_http.specs.Headline.{Survives}
use Rattle.portal_http.specs.Runs.{bytes_of_responses}
use Rattle.portal_tables.specs.Images.{FilesRepresent}
use Rattle.portal_tables.specs.TablesRepresent.{ConnIsFaultFree, CrashStatesOfConnHold, FilesHold}
use Rattle.portal_tables.specs.TablesRepresent.{IsCrashStateOfConn, Files as Tables}
use Rattle.portal_os.specs.Copying.{LeavesNoMore}
use Rattle.portal_os.specs.CrashImages.{EachImage, HoldsOneOf}
use Rattle.portal_os.specs.Left.{IsOf, StillHolds, WhileClean, given, since}
use Rattle.portal_os.specs.Lives.{AreSessions, HoldsKept, HoldsServed, IsSession, Responses, ServesRound}
use Rattle.portal_os.specs.Lives.{are_files}
use Rattle.portal_os.specs.declared.lives.Round.{Round}
use Rattle.portal_os.proofs.LeftLemmas.{follows}

-- the ledger of an image is sound
pub image_sound : (image : Image) (L : Ledger) → ImageHoldsLedger image L → IsSound L
image_sound image L (inl (tables, holds, are)) = found_is_sound tables L are
image_sound image L (inr (nothing, none)) = subst IsSound (sym none) tt

-- ---- the parts of a round

-- what a run that survives leaves
pub survived : (settings : SettingsValue) (L : Ledger) (arrivals : List Arrived)
    (out responses : List (Vec ℕ Global)) (MayLeave : Tables → Type 0) (image : Image) → out ≡ responses
    → Survives Tables MayLeave FilesHold settings L arrivals (bytes_of_responses responses)
    → HoldsOneOf MayLeave image → HoldsServed L settings arrivals out image
survived settings L arrivals out responses MayLeave image same (last, leads, each) held =
    let session = with_desk settings arrivals (bytes_of_responses responses) in
    let served : HoldsServed L settings arrivals responses image = ∥∥₁_map held (λ it.
    let (found, holds, is) = each it.0 it.1 in
    let r : (found : Ledger) × IsKeptByExecution L (session ∷ []) found × IsSound found
    × ImageHoldsLedger image found = (
      found,
      (last, found, leads, is.is, refl),
      is.sound,
      inl (it.0, it.2, holds),
    ) in r) in
    subst (λ (rs : List (Vec ℕ Global)). HoldsServed L settings arrivals rs image) (sym same) served

module _ {D : Type 0} {g : Ghosts D} where
  -- a connection that was not attached
  pub refused_image : (conn : Held (FileStore D g)) (L : Ledger) (image : Image)
      → CrashStatesOfConnHold over_files conn L → HoldsOneOf (IsCrashStateOfConn over_files conn) image
      → ∥ ImageHoldsLedger image L ∥₁
  unfolding Tables CrashStatesOfConnHold IsCrashStateOfConn
  refused_image conn L image holds held = ∥∥₁_map held (λ it.
      let r : ImageHoldsLedger image L = inl (it.0, it.2, holds it.0 it.1) in r)

  pub conn_clean : (conn : Held (FileStore D g)) → ConnIsFaultFree over_files conn
      → HasCleanDisk (file_state conn)
  unfolding ConnIsFaultFree
  conn_clean conn fault_free = fault_free

  -- files that an opening left
  pub files_hold : (rest : Leftover D g) (files : Files D) (L : Ledger) → are_files rest ≡ true
      → IsOf rest files → StillHolds rest L
      → WhileClean g (AreClean g files.log files.db
      → EachImage g files (λ image. ∥ ImageHoldsLedger image L ∥₁))
  files_hold (left.Files now) files L is same holds =
      follows (λ (before, kept) clean image may.
      kept (subst (λ (p : D × D). AreClean g p.0 p.1) same clean) image
      (subst (λ (p : D × D). outcomes g p.0 p.1 image) same may)) holds
  files_hold (left.Unopened now) files L is same holds = absurd (true≢false (sym is))
  files_hold (left.Store now) files L is same holds = absurd (true≢false (sym is))

-- ---- sessions

-- what another session kept
kept_then : SessionsFollow → (L found : Ledger) (sessions : List ServerSession) (session : ServerSession)
    (image : Image) → IsKeptByExecution L sessions found → HoldsKept found (session ∷ []) image
    → HoldsKept L (sessions ++ session ∷ []) image
kept_then follow L found sessions session image kept held = ∥∥₁_map held (λ it.
    let r : (last : Ledger) × IsKeptByExecution L (sessions ++ session ∷ []) last × IsSound last
    × ImageHoldsLedger image last = (
      it.0,
      follow L found it.0 sessions (session ∷ []) kept it.1,
      it.2,
      it.3,
    ) in r)

-- a round without a desk
pub none_then : SessionsFollow → (L : Ledger) (sessions : List ServerSession) (image : Image)
    → HoldsKept L sessions image → HoldsKept L (sessions ++ without_desk ∷ []) image
none_then follow L sessions image held = ∥∥₁_map held (λ it.
    let r : (last : Ledger) × IsKeptByExecution L (sessions ++ without_desk ∷ []) last × IsSound last
    × ImageHoldsLedger image last = (
      it.0,
      follow L it.0 it.0 sessions (without_desk ∷ []) it.1 refl,
      it.2,
      it.3,
    ) in r)

-- what the rounds came to, with one more
pub sessions_more : (rounds : List Round) (lived : List Responses) (sessions : List ServerSession)
    (round : Round) (responses : Responses) (session : ServerSession) → AreSessions rounds lived sessions
    → IsSession round responses session
    → AreSessions (rounds ++ round ∷ []) (lived ++ responses ∷ []) (sessions ++ session ∷ [])
sessions_more [] [] [] round responses session are is = (is, tt)
sessions_more (r ∷ rounds) (o ∷ lived) (s ∷ sessions) round responses session are is =
    (are.0, sessions_more rounds lived sessions round responses session are.1 is)
sessions_more [] [] (s ∷ sessions) round responses session are is = absurd are
sessions_more [] (o ∷ lived) sessions round responses session are is = absurd are
sessions_more (r ∷ rounds) [] sessions round responses session are is = absurd are
sessions_more (r ∷ rounds) (o ∷ lived) [] round responses session are is = absurd are

-- the same, as a loop over the rounds has them: as many as were lived
pub as_lived : (rounds : List Round) (i : ℕ) (lived items : List Responses) (sessions : List ServerSession)
    → items ≡ lived → length lived ≡ i → AreSessions (take i rounds) lived sessions
    → AreSessions (take (length items) rounds) items sessions
as_lived rounds i lived items sessions same count are =
    subst (λ (l : List Responses). AreSessions (take (length l) rounds) l sessions) (sym same)
    (subst (λ (n : ℕ). AreSessions (take n rounds) lived sessions) (sym count) are)

pub count_more : (i : ℕ) (lived items : List Responses) (responses : Responses) → length lived ≡ i
    → items ≡ lived ++ responses ∷ [] → length items ≡ i + 1
count_more i lived items responses count more =
    ap length more ∙ length_push lived responses ∙ ap (λ (n : ℕ). n + 1) count

pub lived_more : (rounds : List Round) (round : Round) (i : ℕ) (lived items : List Responses)
    (responses : Responses) (sessions : List ServerSession) (session : ServerSession) → i < length rounds
    → round ≡ get_or rounds i round → items ≡ lived ++ responses ∷ []
    → AreSessions (take i rounds) lived sessions
    → IsSession round responses session → AreSessions (take (i + 1) rounds) items (sessions ++ session ∷ [])
lived_more rounds round i lived items responses sessions session below item more are is =
    let next : take i rounds ++ round ∷ [] ≡ take (i + 1) rounds =
    ap (λ (r : Round). take i rounds ++ r ∷ []) item ∙ sym (take_more rounds i round below) in
    subst₂ (λ (rs : List Round) (os : List Responses). AreSessions rs os (sessions ++ session ∷ [])) next
    (sym more) (sessions_more (take i rounds) lived sessions round responses session are is)

-- ---- a whole round

pub on_ok : {T E : Type 0} (result : Result T E) (P : Type 0) → is_err result ≡ false → OnOk result P → P
on_ok (Ok done) P none holds = holds
on_ok (Err e) P none holds = absurd (true≢false none)

-- a ledger that the sessions kept, and the files hold
abbrev pub HoldsOne : {D : Type 0} → Ghosts D → Ledger → List ServerSession → Files D → Type 0
HoldsOne g L sessions files =
    ∥ ((found : Ledger) × IsKeptByExecution L sessions found × FilesRepresent g files found) ∥₁

-- files of which a crash leaves what is read hold one ledger
pub settled : {D : Type 0} (g : Ghosts D) (files : Files D) (L : Ledger) (sessions : List ServerSession)
    → Only (g.seen files.log) (g.may_leave files.log) → Only (g.seen files.db) (g.may_leave files.db)
    → HoldsKept L sessions (image_of g files) → HoldsOne g L sessions files
settled g files L sessions log db held = ∥∥₁_map held (λ it.
    let r : (found : Ledger) × IsKeptByExecution L sessions found × FilesRepresent g files found = (
      it.0,
      it.1,
      record {
        seen = it.3;
        left = λ left may.
            let same : image_of g files ≡ left = sym (ap₂ image (log left.log may.0) (db left.db may.1)) in
            let holds : ImageHoldsLedger left it.0 =
            subst (λ (i : Image). ImageHoldsLedger i it.0) same it.3 in ∣ holds ∣₁;
      },
    ) in r)

-- files that were synced
pub synced : {D : Type 0} (g : Ghosts D) (files now : Files D) (L : Ledger) (sessions : List ServerSession)
    → ((file : D) → g.may_leave file (g.seen file))
    → Only (g.seen files.log) (g.may_leave now.log) → g.seen now.log ≡ g.seen files.log
    → Only (g.seen files.db) (g.may_leave now.db) → g.seen now.db ≡ g.seen files.db
    → LeavesNoMore g files now → EachImage g files (HoldsKept L sessions) → HoldsOne g L sessions now
synced g files now L sessions stays log seen db shown fewer each =
    settled g now L sessions (subst (λ (b : List ℕ). Only b (g.may_leave now.log)) (sym seen) log)
    (subst (λ (b : List ℕ). Only b (g.may_leave now.db)) (sym shown) db)
    (each (image_of g now) (fewer (image_of g now) (stays now.log, stays now.db)))

module _ {D : Type 0} (g : Ghosts D) (honest : (file : D) → IsTrue (g.is_clean file))
    (follow : SessionsFollow) (L : Ledger) (sessions : List ServerSession) where
  clean_pair : (files : Files D) → AreClean g files.log files.db
  clean_pair files =
      and_from (g.is_clean files.log) (g.is_clean files.db) (honest files.log) (honest files.db)

  -- what rests on earlier moments holds of a disk that never lies
  fact : {A : Type 0} → WhileClean g A → A
  fact (given is) = is
  fact (since files told) = fact (told (clean_pair files))

  pub round_goes_on : (files now crashed : Files D) (round : Round) (responses : Responses)
      (rest : Result (Files D) (Leftover D g)) → rest ≡ Ok now → ServesRound files round responses rest
      → LeavesNoMore g now crashed → HoldsOne g L sessions files
      → (session : ServerSession) × IsSession round responses session
      × EachImage g crashed (HoldsKept L (sessions ++ session ∷ []))
  round_goes_on files now crashed round None rest is serves fewer one =
      let served = subst (ServesRound files round None) is serves in (
        without_desk,
        refl,
        λ image may. ∥∥₁_elim one squash₁ (λ (found, kept, at).
            kept_then follow L found sessions without_desk image kept
            (∥∥₁_map (fact (served found at) (clean_pair now) image (fewer image may)) (λ holds.
            let r : (last : Ledger) × IsKeptByExecution found (without_desk ∷ []) last × IsSound last
            × ImageHoldsLedger image last = (found, refl, image_sound image found holds, holds) in r))),
      )
  round_goes_on files now crashed round (Some responses) rest is serves fewer one =
      let (settings, decodes, holds) = subst (ServesRound files round (Some responses)) is serves in (
        with_desk settings round.arrivals.items (bytes_of_responses responses.items),
        (settings, decodes, refl),
        λ image may. ∥∥₁_elim one squash₁ (λ (found, kept, at).
            kept_then follow L found sessions
            (with_desk settings round.arrivals.items (bytes_of_responses responses.items)) image kept
            (holds found at (clean_pair now) image (fewer image may))),
      )

  pub round_ends : (files : Files D) (rest : Leftover D g) (round : Round) (responses : Responses)
      (all : Result (Files D) (Leftover D g)) → all ≡ Err rest → ServesRound files round responses all
      → HoldsOne g L sessions files
      → (session : ServerSession) × IsSession round responses session
      × ∥ ((found : Ledger) × IsKeptByExecution L (sessions ++ session ∷ []) found × StillHolds rest found) ∥₁
  round_ends files rest round None all is serves one =
      let served = subst (ServesRound files round None) is serves in (
        without_desk,
        refl,
        ∥∥₁_map one (λ (found, kept, at).
            let r : (last : Ledger) × IsKeptByExecution L (sessions ++ without_desk ∷ []) last
            × StillHolds rest last = (
              found,
              follow L found found sessions (without_desk ∷ []) kept refl,
              served found at,
            ) in r),
      )
  round_ends files rest round (Some responses) all is serves one =
      absurd (subst (ServesRound files round (Some responses)) is serves)
