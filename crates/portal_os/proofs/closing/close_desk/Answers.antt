use Rattle.portal_os.proofs.Common.{subst, Files, view, AreClean, HoldsAlone, IsCopied, FailsToClose}
use Rattle.portal_os.proofs.Common.{IsClosed, file_state, over_files, Held, Ledger, AreCopied, AreWhole}
use Rattle.sqlite_store.specs.declared.store.FileStore.{FileStore}
use Rattle.sqlite_trees.specs.View.{IsClean}
use Rattle.sqlite.specs.declared.error.Error.{Error}
use Rattle.portal_ledger.specs.States.{running}
use Rattle.portal_desk_store.specs.DeskRepresents.{DeskRepresents, IsCrashStateOfDesk}
use Rattle.portal_tables.proofs.OpeningLemmas.{unclosed_shows}
use Rattle.portal_tables.specs.Images.{IsCrashStateOfStore}
use Rattle.portal_tables.specs.TablesRepresent.{Files as Tables, FilesHold}
use Rattle.portal_os.proofs.ClosingLemmas.{closed_whole, if_err, if_ok, unclosed_leaves}
use Rattle.portal_os.proofs.closing.close_desk.Goals as goal

pub returns-clause-copied : goal.returns-clause-copied
returns-clause-copied g c =
    if_ok c.close_files.result
    (λ (files : Files _). AreClean g.D.Disk files.log files.db → IsCopied c.release-conn.result files)
    (λ (files : Files _). AreClean g.D.Disk files.log files.db → AreCopied c.args.desk files)
    (λ files copied honest image may.
    subst (λ (conn : Held _). HoldsAlone image (file_state conn).committed.trees) c.release-conn.ensures.same
    ((copied honest).left image may)) c.close_files.ensures.copied

pub returns-clause-whole : goal.returns-clause-whole
returns-clause-whole g c =
    if_ok c.close_files.result
    (λ (files : Files _). AreClean g.D.Disk files.log files.db → IsCopied c.release-conn.result files)
    (λ (files : Files _). AreClean g.D.Disk files.log files.db → (L : Ledger)
    → DeskRepresents over_files c.args.desk (running L) → AreWhole g.D.Disk files L)
    (λ files copied honest L represents. closed_whole L c.release-conn.result
    (c.release-conn.ensures.represents L represents) files (copied honest)) c.close_files.ensures.copied

pub returns-clause-unclosed : goal.returns-clause-unclosed
returns-clause-unclosed g c L represents =
    if_err c.close_files.result (λ (e : Error × FileStore _ _).
    IsClosed c.release-conn.result e.1 × (IsClean (view e.1) → FailsToClose c.release-conn.result e.1 e.0))
    (λ (e : Error × FileStore _ _). (tables : Tables) → IsCrashStateOfStore e.1 tables → FilesHold tables L)
    (λ e closed. unclosed_shows L c.release-conn.result e.1 (c.release-conn.ensures.represents L represents)
    closed.0.quiet) c.close_files.ensures.err

pub returns-clause-left : goal.returns-clause-left
returns-clause-left g c =
    if_err c.close_files.result (λ (e : Error × FileStore _ _).
    IsClosed c.release-conn.result e.1 × (IsClean (view e.1) → FailsToClose c.release-conn.result e.1 e.0))
    (λ (e : Error × FileStore _ _).
    (tables : Tables) → IsCrashStateOfStore e.1 tables → IsCrashStateOfDesk over_files c.args.desk tables)
    (λ e closed tables may.
    c.release-conn.ensures.left tables (unclosed_leaves c.release-conn.result e.1 closed.0.quiet tables may))
    c.close_files.ensures.err
