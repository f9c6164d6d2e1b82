use Rattle.std.proofs.Common.{◌≡◌, List, IsTrue, length, take}
use Rattle.portal_ledger.specs.Ledger.{Ledger}
use Rattle.portal_tables.specs.Images.{FilesRepresent}
use Rattle.portal_os.specs.CrashImages.{EachImage}
use Rattle.portal_os.specs.Lives.{AreSessions, HoldsKept}
use Rattle.portal_http.specs.Executions.{ServerSession}
use Rattle.portal_os.proofs.lives.live.Given as goal

abbrev pub invariant-loop-round : goal.invariant-loop-round
invariant-loop-round g l = record {
  log : IsTrue (g.D.Disk.is_usable l.files.log);
  db : IsTrue (g.D.Disk.is_usable l.files.db);
  count : length l.lived.items ≡ l.round-index;
  lives : (L : Ledger) → FilesRepresent g.D.Disk l.fn.files L
      → (sessions : List ServerSession) × AreSessions (take l.round-index l.rounds) l.lived.items sessions
      × EachImage g.D.Disk l.files (HoldsKept L sessions);
}
