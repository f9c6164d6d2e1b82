-- The life of two files: rounds, in each of which they are opened, serve, and are cut off.
--
-- ∥ A ∥₁ reads: there is one.
use Rattle.std.specs.Prelude.{◌≡◌, ℕ, List, [], ◌∷◌, length, take, Option, Some, None, Vec, Result}
use Rattle.std.specs.Prelude.{Ok, Err, Bool, true, false, ⊤}
use Rattle.std.specs.declared.alloc.Global.{Global}
use Rattle.sqlite_disk.specs.declared.Disk.{Ghosts}
use Rattle.sqlite_disk.specs.declared.Files.{Files as Pair}
use Rattle.sqlite_wal.specs.Recovery.{Image}
use Rattle.sqlite_wal.specs.Reads.{AreClean}
use Rattle.sqlite.specs.declared.file.Leftover.{Leftover}
use Rattle.sqlite.specs.declared.file.Leftover.TheVariants as left
use Rattle.portal_files.specs.SettingsFile.{SettingsValue, IsSettingsFile}
use Rattle.portal_ledger.specs.Ledger.{Ledger, IsSound}
use Rattle.portal_http.specs.Arrived.{Arrived}
use Rattle.portal_http.specs.Executions.{IsKeptByExecution, ServerSession, with_desk, without_desk}
use Rattle.portal_http.specs.Runs.{bytes_of_responses}
use Rattle.portal_tables.specs.Images.{FilesRepresent, ImageHoldsLedger}
use Rattle.portal_os.specs.CrashImages.{EachImage}
use Rattle.portal_os.specs.Left.{StillHolds, WhileClean}
use Rattle.portal_os.specs.declared.lives.Round.{Round}

-- The responses of a round, if it opened a desk.
abbrev pub Responses : Type 0
Responses = Option (Vec (Vec ℕ Global) Global)

-- The image holds a sound ledger that sessions kept of that one.
abbrev pub HoldsKept : Ledger → List ServerSession → Image → Type 0
HoldsKept L sessions image = ∥ ((found : Ledger) × IsKeptByExecution L sessions found × IsSound found
    × ImageHoldsLedger image found) ∥₁

-- The image holds a ledger that one session kept, with these responses.
abbrev pub HoldsServed : Ledger → SettingsValue → List Arrived → List (Vec ℕ Global) → Image → Type 0
HoldsServed L settings arrivals responses image =
    HoldsKept L (with_desk settings arrivals (bytes_of_responses responses) ∷ []) image

module _ {D : Type 0} {g : Ghosts D} where
  -- what an opening left is the files
  abbrev pub are_files : Leftover D g → Bool
  are_files (left.Files now) = true
  are_files (left.Unopened now) = false
  are_files (left.Store now) = false

  -- A round over these files. Without a desk, it leaves what still holds each ledger that they held. With a
  -- desk, opened with the settings of its file, it leaves files of which each crash state holds the ledger as
  -- the session kept it.
  abbrev pub ServesRound : Pair D → Round → Responses → Result (Pair D) (Leftover D g) → Type 0
  ServesRound files round None (Ok now) =
      (L : Ledger) → FilesRepresent g files L
      → WhileClean g (AreClean g now.log now.db → EachImage g now (λ image. ∥ ImageHoldsLedger image L ∥₁))
  ServesRound files round None (Err left) = (L : Ledger) → FilesRepresent g files L → StillHolds left L
  ServesRound files round (Some responses) (Ok now) =
      (settings : SettingsValue) × IsSettingsFile round.settings.items settings
      × ((L : Ledger) → FilesRepresent g files L → AreClean g now.log now.db
      → EachImage g now (HoldsServed L settings round.arrivals.items responses.items))
  ServesRound files round (Some responses) (Err left) = ⊥

-- What a round came to: it opened no desk; or it opened one, with the settings of its file.
abbrev pub IsSession : Round → Responses → ServerSession → Type 0
IsSession round None session = session ≡ without_desk
IsSession round (Some responses) session =
    (settings : SettingsValue) × IsSettingsFile round.settings.items settings
    × (session ≡ with_desk settings round.arrivals.items (bytes_of_responses responses.items))

-- The same of each round.
abbrev pub AreSessions : List Round → List Responses → List ServerSession → Type 0
AreSessions [] [] [] = ⊤
AreSessions (round ∷ rounds) (responses ∷ lived) (session ∷ sessions) =
    IsSession round responses session × AreSessions rounds lived sessions
AreSessions _ _ _ = ⊥

module _ {D : Type 0} {g : Ghosts D} where
  -- What is left holds, in each crash state, a ledger that the sessions kept of this one.
  abbrev pub HoldsAfter : Ledger → List ServerSession → Result (Pair D) (Leftover D g) → Type 0
  HoldsAfter L sessions (Ok files) = EachImage g files (HoldsKept L sessions)
  HoldsAfter L sessions (Err left) =
      ∥ ((found : Ledger) × IsKeptByExecution L sessions found × StillHolds left found) ∥₁

  -- The rounds that were lived are sessions, and what is left holds what these kept.
  abbrev pub Lives : List Round → Ledger → List Responses → Result (Pair D) (Leftover D g) → Type 0
  Lives rounds L lived left = (sessions : List ServerSession)
      × AreSessions (take (length lived) rounds) lived sessions × HoldsAfter L sessions left
