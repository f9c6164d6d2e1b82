use Rattle.std.proofs.lemmas.Bool.{and_from}
use Rattle.sqlite_wal.proofs.CleanLemmas.{halves}
use Rattle.sqlite.specs.Start.{FindsIn}
use Rattle.portal_os.proofs.Common.{ap₂, subst, sym, Files, Image, ImageHoldsLedger, image, image_of}
use Rattle.portal_os.proofs.Common.{file_state}
use Rattle.portal_os.proofs.AloneLemmas.{copied_alone}
use Rattle.portal_os.proofs.LeftLemmas.{read_holds, read_represents}
use Rattle.portal_os.specs.Left.{given}
use Rattle.portal_os.proofs.OpeningLemmas.{from_on, honest_on, stands_on}
use Rattle.portal_os.proofs.opening.open_connection.Goals as goal

pub returns-in-Ok-open_files-clause-fault_free : goal.returns-in-Ok-open_files-clause-fault_free
returns-in-Ok-open_files-clause-fault_free g c =
    let disk = g.D.Disk in
    let now : Files _ = c.needs_copy.new.files in
    honest_on c.copy_log.result _ _ _ c.copy_log.ensures.opens.fault_free (λ clean.
    let half = halves disk now.log now.db (c.in-Ok-open_files.ensures.found clean).honest in
    and_from (disk.is_clean c.args.files.log) (disk.is_clean c.args.files.db)
    (c.in-Ok.ensures.log.clean half.0) (c.in-Ok.ensures.db.clean half.1))

pub returns-in-Ok-open_files-clause-opened : goal.returns-in-Ok-open_files-clause-opened
returns-in-Ok-open_files-clause-opened g c L shown =
    let same = ap₂ image c.in-Ok.ensures.log.seen c.in-Ok.ensures.db.seen in
    let held = subst (λ (i : Image). ImageHoldsLedger i L) (sym same) shown in
    let again = c.copy_log.ensures.opens in
    stands_on c.copy_log.result _ _ _ _ again.fault_free (again.represents L)
    (c.in-Ok-open_files.ensures.opened L held)

pub returns-in-Ok-open_files-clause-from : goal.returns-in-Ok-open_files-clause-from
returns-in-Ok-open_files-clause-from g c =
    let now : Files _ = c.needs_copy.new.files in
    let same = ap₂ image c.in-Ok.ensures.log.seen c.in-Ok.ensures.db.seen in
    let again = c.copy_log.ensures.opens in
    from_on c.copy_log.result (image_of g.D.Disk c.args.files) c.args.copies c.in-Ok.needs
    c.in-Ok-open_files.conn now again.fault_free again.same again.reopened
    (λ clean. let found = c.in-Ok-open_files.ensures.found clean in
    subst (λ (i : Image). FindsIn i (file_state c.in-Ok-open_files.conn)) same
    (record { holds = found.holds; reads = found.reads }))
    (λ clean. c.in-Ok-open_files.ensures.found clean)
    (λ clean asked none.
    let found = c.in-Ok-open_files.ensures.found clean in
    copied_alone now c.in-Ok-open_files.conn (c.in-Ok.ensures.value found.honest asked none) clean
    (c.in-Ok-open_files.ensures.sound clean) found)

pub returns-in-Ok-open_files-clause-live : goal.returns-in-Ok-open_files-clause-live
returns-in-Ok-open_files-clause-live g c =
    let again = c.copy_log.ensures.opens in
    stands_on c.copy_log.result _ _ _ _ again.fault_free again.live c.in-Ok-open_files.ensures.live

pub returns-in-Ok-open_files-clause-kept : goal.returns-in-Ok-open_files-clause-kept
returns-in-Ok-open_files-clause-kept g c L at =
    let now : Files _ = c.needs_copy.new.files in
    let it = read_represents c.args.files now L c.in-Ok.ensures.seen c.in-Ok.ensures.crash at in
    c.copy_log.ensures.kept L (c.in-Ok-open_files.ensures.opened L it.seen)

pub returns-in-Err-open_files-clause-kept : goal.returns-in-Err-open_files-clause-kept
returns-in-Err-open_files-clause-kept g c L at =
    let now : Files _ = c.needs_copy.new.files in
    let it = read_represents c.args.files now L c.in-Ok.ensures.seen c.in-Ok.ensures.crash at in
    given (now, c.in-Err-open_files.ensures.fails_to_open L it)

pub returns-in-Err-clause-kept : goal.returns-in-Err-clause-kept
returns-in-Err-clause-kept g c L at =
    read_holds c.args.files c.needs_copy.new.files L c.in-Err.ensures.crash at
