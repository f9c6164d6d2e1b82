use Rattle.std.proofs.lemmas.Bool.{and_from}
use Rattle.sqlite_wal.proofs.CleanLemmas.{both_clean, halves}
use Rattle.sqlite.specs.State.{HasCleanDisk}
use Rattle.portal_os.specs.Copying.{StandsFor}
use Rattle.portal_os.proofs.Common.{sym, ap₂, subst, subst₂, Bool, IfOk, AreClean, Files}
use Rattle.portal_os.proofs.Common.{image, image_of, file_state, ComesFrom}
use Rattle.portal_os.proofs.CopyingLemmas.{comes_stands, ledger_stands}
use Rattle.portal_os.proofs.OpeningLemmas.{honest_on, stands_on}
use Rattle.portal_os.proofs.LeftLemmas.{copied_represents, err_since, kept_holds, only_reads, read_holds}
use Rattle.portal_os.proofs.LeftLemmas.{read_represents}
use Rattle.portal_os.specs.Left.{given, since}
use Rattle.portal_os.proofs.opening.open_database_files.Goals as goal

pub returns-in-Ok-with_kept_pages-clause-opens : goal.returns-in-Ok-with_kept_pages-clause-opens
returns-in-Ok-with_kept_pages-clause-opens g c =
    let disk = g.D.Disk in
    let copied : Files _ = c.in-Ok-copy_unopened.copied in
    let last : Files _ = c.with_kept_pages.new.files in
    let log = c.with_kept_pages.ensures.log in
    let db = c.with_kept_pages.ensures.db in
    let sized = ap₂ image log.seen db.seen in
    let looked = ap₂ image c.check_database.ensures.log.seen c.check_database.ensures.db.seen in
    let clean_before = λ (clean : AreClean disk last.log last.db).
    let half = halves disk last.log last.db clean in
    and_from (disk.is_clean copied.log) (disk.is_clean copied.db) (log.clean half.0) (db.clean half.1) in
    let stands = λ (clean : AreClean disk last.log last.db).
    subst₂ StandsFor looked (sym sized) (c.in-Ok-copy_unopened.ensures.seen (clean_before clean)) in
    let opened = c.open_connection.result in
    let honest = c.open_connection.ensures.fault_free in record {
      opened = λ L shown. stands_on opened _ _ _ _ honest (c.open_connection.ensures.opened L)
          (λ clean. ledger_stands _ _ L (stands clean) shown);
      found = honest_on opened _ _ _ honest
          (λ clean. c.in-Ok.ensures.found (c.in-Ok-copy_unopened.ensures.clean (clean_before clean)));
      from = subst (λ (b : Bool).
          IfOk opened
          (λ conn. HasCleanDisk (file_state conn) → ComesFrom (image_of disk c.args.files) b conn))
          c.copies_for-copies.ensures
          (comes_stands opened _ _ _ _ _ honest stands c.open_connection.ensures.from);
      live = c.open_connection.ensures.live;
    }

-- ---- the files on an error

pub returns-in-Err-clause-kept : goal.returns-in-Err-clause-kept
returns-in-Err-clause-kept g c L at =
    let read = only_reads c.args.files c.check_database.new.files c.check_database.ensures.log
    c.check_database.ensures.db in
    read_holds c.args.files c.check_database.new.files L read.1 at

pub returns-in-Err-clause-untouched : goal.returns-in-Err-clause-untouched
returns-in-Err-clause-untouched g c missing =
    let read = only_reads c.args.files c.check_database.new.files c.check_database.ensures.log
    c.check_database.ensures.db in
    given read.1

pub returns-in-Ok-with_kept_pages-clause-kept : goal.returns-in-Ok-with_kept_pages-clause-kept
returns-in-Ok-with_kept_pages-clause-kept g c L at =
    let disk = g.D.Disk in
    let checked : Files _ = c.check_database.new.files in
    let copied : Files _ = c.in-Ok-copy_unopened.copied in
    let last : Files _ = c.with_kept_pages.new.files in
    let read = only_reads c.args.files checked c.check_database.ensures.log c.check_database.ensures.db in
    let sized = only_reads copied last c.with_kept_pages.ensures.log c.with_kept_pages.ensures.db in
    let before = both_clean (disk.is_clean copied.log) (disk.is_clean copied.db) (disk.is_clean last.log)
    (disk.is_clean last.db) c.with_kept_pages.ensures.log.clean c.with_kept_pages.ensures.db.clean in
    let represents = λ (clean : AreClean disk last.log last.db). read_represents copied last L sized.0 sized.1
    (copied_represents checked copied L (c.in-Ok-copy_unopened.ensures.seen (before clean))
    (c.in-Ok-copy_unopened.ensures.left (before clean))
    (read_represents c.args.files checked L read.0 read.1 at)) in
    err_since disk c.open_connection.result _ last
    (λ clean. c.open_connection.ensures.kept L (represents clean))

pub returns-in-Ok-with_kept_pages-clause-untouched : goal.returns-in-Ok-with_kept_pages-clause-untouched
returns-in-Ok-with_kept_pages-clause-untouched g c missing =
    err_since g.D.Disk c.open_connection.result _ c.check_database.new.files
    (λ clean. absurd (missing (c.in-Ok.ensures.found clean)))

pub returns-in-Err-with_kept_pages-clause-kept : goal.returns-in-Err-with_kept_pages-clause-kept
returns-in-Err-with_kept_pages-clause-kept g c L at =
    let disk = g.D.Disk in
    let checked : Files _ = c.check_database.new.files in
    let copied : Files _ = c.in-Ok-copy_unopened.copied in
    let last : Files _ = c.with_kept_pages.new.files in
    let read = only_reads c.args.files checked c.check_database.ensures.log c.check_database.ensures.db in
    let sized = only_reads copied last c.with_kept_pages.ensures.log c.with_kept_pages.ensures.db in
    let before = both_clean (disk.is_clean copied.log) (disk.is_clean copied.db) (disk.is_clean last.log)
    (disk.is_clean last.db) c.with_kept_pages.ensures.log.clean c.with_kept_pages.ensures.db.clean in
    let represents = λ (clean : AreClean disk last.log last.db). read_represents copied last L sized.0 sized.1
    (copied_represents checked copied L (c.in-Ok-copy_unopened.ensures.seen (before clean))
    (c.in-Ok-copy_unopened.ensures.left (before clean))
    (read_represents c.args.files checked L read.0 read.1 at)) in
    since last (λ clean. read_holds last last L (λ image may. may) (represents clean))

pub returns-in-Err-with_kept_pages-clause-untouched : goal.returns-in-Err-with_kept_pages-clause-untouched
returns-in-Err-with_kept_pages-clause-untouched g c missing =
    since c.check_database.new.files (λ clean. absurd (missing (c.in-Ok.ensures.found clean)))

pub returns-in-Err-copy_unopened-clause-kept : goal.returns-in-Err-copy_unopened-clause-kept
returns-in-Err-copy_unopened-clause-kept g c L at =
    let read = only_reads c.args.files c.check_database.new.files c.check_database.ensures.log
    c.check_database.ensures.db in
    kept_holds c.check_database.new.files c.in-Err-copy_unopened.left L c.in-Err-copy_unopened.ensures.kept
    (read_represents c.args.files c.check_database.new.files L read.0 read.1 at)

pub returns-in-Err-copy_unopened-clause-untouched : goal.returns-in-Err-copy_unopened-clause-untouched
returns-in-Err-copy_unopened-clause-untouched g c missing =
    since c.check_database.new.files (λ clean. absurd (missing (c.in-Ok.ensures.found clean)))
