use Rattle.portal_os.proofs.Common.{Option, subst, PageSize, Names, be32, AreClean}
use Rattle.sqlite_wal.specs.Reads.{IsClean}
use Rattle.sqlite_wal.proofs.CleanLemmas.{halves}
use Rattle.std.proofs.lemmas.Bool.{and_from}
use Rattle.portal_os.proofs.LookingLemmas.{holds_on, none_named}
use Rattle.portal_os.proofs.looking.holds_commits.Goals as goal

pub returns-in-Some-clause-value : goal.returns-in-Some-clause-value
returns-in-Some-clause-value g c =
    let disk = g.D.Disk in
    let log = disk.seen c.args.files.now.log in
    let probed = c.probe_page_size.new.files in
    let ended = c.has_valid_frames.new.log in
    holds_on c.has_valid_frames.result (IsClean disk ended) (AreClean disk ended probed.db) log
    (disk.seen probed.log) c.in-Some.size
    c.has_valid_frames.ensures.value (λ clean. (halves disk ended probed.db clean).0) c.in-Ok.ensures.log.seen
    (λ clean read.
    let half = halves disk ended probed.db clean in
    subst (λ (f : Option PageSize). Names f (be32 log 8)) c.in-Some.is
    (c.in-Ok.ensures.by_log (and_from (disk.is_clean probed.log) (disk.is_clean probed.db)
    (c.has_valid_frames.ensures.same.clean half.0) half.1) read))

pub returns-in-None-clause-value : goal.returns-in-None-clause-value
returns-in-None-clause-value g c clean holds =
    let log = g.D.Disk.seen c.args.files.now.log in
    absurd (none_named log (λ read. subst (λ (f : Option PageSize). Names f (be32 log 8)) c.in-None.is
    (c.in-Ok.ensures.by_log clean read)) holds)
